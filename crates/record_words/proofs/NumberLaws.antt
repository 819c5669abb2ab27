-- Laws of the numbers of a record: which fit, and one row more.
use Prim.Native.Nat.{ℕ, zero, suc, ◌+◌, ◌-◌, ◌*◌, ◌^◌, ◌≤◌, ◌<◌}
use native.Mathlib.Omega.{arith}
use native.Mathlib.Numerals.{add-one}
use native.Mathlib.Nat.{not-suc-le-zero, le_of_suc-le-suc}
use mathlib.Core.Path.{◌≡◌, refl, sym, ap, ◌∙◌}
use mathlib.Core.Bool.{Bool, true, false, ◌&&◌, cond, and-false}
use mathlib.Core.List.{List, [], ◌∷◌, ◌++◌}
use lib.ListN.{length, get_or, take, drop, set, length-drop}
use lib.Seq.{length-take-le, take_all}
use borrow.Author.Tests.{eqb-true, eq-eqb, ltb-true, lt-ltb}
use Rattle.item.specs.Maxima.{max_nodes}
use Rattle.item.specs.Item.{zero_item}
use Rattle.item.proofs.Tests.{and_both}
use Rattle.item.specs.declared.Item.{Item}
use Rattle.endian.specs.Part.{with_part}
use Rattle.endian.proofs.PartLaws.{sets_is, with_joined}
use Rattle.endian.specs.Zero.{all_zero}
use Rattle.endian.proofs.ZeroLaws.{both}
use Rattle.endian.specs.Number.{number_at}
use Rattle.record.specs.Kind.{message_of, rows_held}
use Rattle.record.specs.Layout.{rows_at, row_size, index_size, item_in, rows_of}
use Rattle.record.specs.declared.kinds.Fields.{Fields}
use Rattle.record.specs.Record.{envelope_of}
use Rattle.record_read.specs.Readable.{rows_of_kind}
use Rattle.record_read.proofs.Reading.{length_rows, row_at}
use Rattle.record_read.proofs.ReadableLaws.{rows_read}
use Rattle.record_read.specs.Known.{is_known}
use Rattle.message.specs.declared.Envelope.{Envelope}
use Rattle.record_words.specs.Numbers.{rows_first, rows_count, number_count, field_numbers, row_numbers, numbers_of, item_from, fields_from, items_from, rows_from, numbers_fit, stated_as, stated, is_stated}
use Rattle.std.specs.Prelude.{None, Option, Some}
use Rattle.message.specs.declared.Message.{Message}

-- ---- which numbers fit

pub record Fit (ns : List ℕ) : Type 0 where
  pub long : length ns ≡ number_count
  pub next : get_or ns 0 0 < 2 ^ 16
  pub kind : get_or ns 1 0 < 2 ^ 8
  pub sender : get_or ns 2 0 < 2 ^ 4
  pub addressee : get_or ns 3 0 < 2 ^ 4
  pub incarnation : get_or ns 4 0 < 2 ^ 32
  pub other : get_or ns 5 0 < 2 ^ 32
  pub attempt : get_or ns 6 0 < 2 ^ 32

pub fit_is : (ns : List ℕ) → numbers_fit ns ≡ true → Fit ns
unfolding numbers_fit
fit_is ns e =
    let p₀ = both _ _ e in
    let p₁ = both _ _ p₀.1 in
    let p₂ = both _ _ p₁.1 in
    let p₃ = both _ _ p₂.1 in
    let p₄ = both _ _ p₃.1 in
    let p₅ = both _ _ p₄.1 in
    let p₆ = both _ _ p₅.1 in
    record {
      long = eqb-true _ _ p₀.0;
      next = ltb-true _ _ p₁.0;
      kind = ltb-true _ _ p₂.0;
      sender = ltb-true _ _ p₃.0;
      addressee = ltb-true _ _ p₄.0;
      incarnation = ltb-true _ _ p₅.0;
      other = ltb-true _ _ p₆.0;
      attempt = ltb-true _ _ p₆.1;
    }

pub fits : (ns : List ℕ) → Fit ns → numbers_fit ns ≡ true
unfolding numbers_fit
fits ns f =
    and_both (eq-eqb _ _ f.long) (and_both (lt-ltb _ _ f.next) (and_both (lt-ltb _ _ f.kind) (and_both (lt-ltb _ _ f.sender) (and_both (lt-ltb _ _ f.addressee)
    (and_both (lt-ltb _ _ f.incarnation) (and_both (lt-ltb _ _ f.other) (lt-ltb _ _ f.attempt)))))))

pub unfit : (ns : List ℕ) → (Fit ns → ⊥) → numbers_fit ns ≡ false
unfit ns n = by_test (numbers_fit ns) refl
  where
    by_test : (t : Bool) → numbers_fit ns ≡ t → t ≡ false
    by_test true e = absurd (n (fit_is ns e))
    by_test false e = refl

-- ---- writing numbers

pub length_field_numbers : (next : ℕ) (f : Fields) → length (field_numbers next f) ≡ rows_first
unfolding field_numbers
length_field_numbers next f = refl

pub length_row_numbers : (rows : List Item) → length (row_numbers rows) ≡ 2 * length rows
unfolding row_numbers
length_row_numbers [] = refl
length_row_numbers (i ∷ rows) = let l = length_row_numbers rows in omega arith

rows_more : (rows : List Item) (j : ℕ) → j < length rows
    → row_numbers (take (suc j) rows) ≡ row_numbers (take j rows) ++ ((get_or rows j zero_item).index.0 ∷ (get_or rows j zero_item).tag.0 ∷ [])
unfolding row_numbers
rows_more [] j h = absurd (not-suc-le-zero h)
rows_more (i ∷ rows) zero h = refl
rows_more (i ∷ rows) (suc j) h = ap (λ (l : List ℕ). i.index.0 ∷ i.tag.0 ∷ l) (rows_more rows j (le_of_suc-le-suc h))

-- one row more, as a loop over them goes
pub with_row_more : (s : List ℕ) (rows : List Item) (j : ℕ) → number_count ≤ length s → length rows ≡ max_nodes → j < max_nodes
    → (t : List ℕ) → t ≡ with_part (2 * j) s rows_first (row_numbers (take j rows)) → length t ≡ length s
    → set (set t (rows_first + 2 * j) (get_or rows j zero_item).index.0) (rows_first + 2 * j + 1) (get_or rows j zero_item).tag.0
    ≡ with_part (2 * (j + 1)) s rows_first (row_numbers (take (j + 1) rows))
with_row_more s rows j hs hr h t et lt =
    let x = (get_or rows j zero_item).index.0 in
    let y = (get_or rows j zero_item).tag.0 in
    let lj : length (row_numbers (take j rows)) ≡ 2 * j = length_row_numbers (take j rows) ∙ ap (λ (n : ℕ). 2 * n) (length-take-le j rows (omega arith)) in
    let e : 2 * (j + 1) ≡ 2 * j + 2 = omega arith in
    rw add-one (sets_is (x ∷ y ∷ []) t (rows_first + 2 * j) (omega arith))
    ∙ ap (λ (l : List ℕ). with_part 2 l (rows_first + 2 * j) (x ∷ y ∷ [])) et
    ∙ with_joined (2 * j) 2 s rows_first (row_numbers (take j rows)) (x ∷ y ∷ []) lj refl (omega arith)
    ∙ rw (e, add-one j, rows_more rows j (omega arith))

-- one row more of a record's bytes
pub with_row_read : (s r : List ℕ) (j : ℕ) → number_count ≤ length s → j < max_nodes
    → (t : List ℕ) → t ≡ with_part (2 * j) s rows_first (row_numbers (take j (rows_of r))) → length t ≡ length s
    → (x y : ℕ) → x ≡ number_at 8 r (rows_at + j * row_size) → y ≡ number_at 8 r (rows_at + j * row_size + index_size)
    → set (set t (rows_first + 2 * j) x) (rows_first + 2 * j + 1) y ≡ with_part (2 * (j + 1)) s rows_first (row_numbers (take (j + 1) (rows_of r)))
unfolding item_in
with_row_read s r j hs h t et lt x y ex ey =
    let row : get_or (rows_of r) j zero_item ≡ item_in r (rows_at + j * row_size) = row_at r j h in
    let ix : x ≡ (get_or (rows_of r) j zero_item).index.0 = ex ∙ sym (ap (λ (i : Item). i.index.0) row) in
    let iy : y ≡ (get_or (rows_of r) j zero_item).tag.0 = ey ∙ sym (ap (λ (i : Item). i.tag.0) row) in
    (λ i. set (set t (rows_first + 2 * j) (ix i)) (rows_first + 2 * j + 1) (iy i))
    ∙ with_row_more s (rows_of r) j hs (length_rows r) h t et lt

-- the fields and then the rows are all
pub with_all_numbers : (s : List ℕ) (next : ℕ) (f : Fields) (rows : List Item) → number_count ≤ length s → length rows ≡ max_nodes
    → with_part rows_count (with_part rows_first s 0 (field_numbers next f)) rows_first (row_numbers rows) ≡ with_part number_count s 0 (numbers_of next f rows)
unfolding numbers_of
with_all_numbers s next f rows hs hr =
    with_joined rows_first rows_count s 0 (field_numbers next f) (row_numbers rows) (length_field_numbers next f) (length_row_numbers rows ∙ ap (λ (n : ℕ). 2 * n) hr) hs

-- ---- reading rows

length_items : (m : ℕ) (ns : List ℕ) (at : ℕ) → length (items_from m ns at) ≡ m
unfolding items_from
length_items zero ns at = refl
length_items (suc m) ns at = ap suc (length_items m ns (at + 2))

pub length_rows_from : (ns : List ℕ) → length (rows_from ns) ≡ max_nodes
unfolding rows_from
length_rows_from ns = length_items max_nodes ns rows_first

get_or_items : (m : ℕ) (ns : List ℕ) (at j : ℕ) → j < m → get_or (items_from m ns at) j zero_item ≡ item_from ns (at + 2 * j)
unfolding items_from
get_or_items zero ns at j h = absurd (not-suc-le-zero h)
get_or_items (suc m) ns at zero h = ap (item_from ns) (omega arith)
get_or_items (suc m) ns at (suc j) h = get_or_items m ns (at + 2) j (le_of_suc-le-suc h) ∙ ap (item_from ns) (omega arith)

pub row_from : (ns : List ℕ) (j : ℕ) → j < max_nodes → get_or (rows_from ns) j zero_item ≡ item_from ns (rows_first + 2 * j)
unfolding rows_from
row_from ns = get_or_items max_nodes ns rows_first

-- ---- what numbers say

-- fitting numbers are a message exactly if every number after the rows of their kind is 0 and their fields say one
stated_known : (n : ℕ) (ns : List ℕ) → numbers_fit ns ≡ true
    → is_stated (stated n ns) ≡ all_zero (drop (rows_first + 2 * rows_of_kind (fields_from ns).kind n) ns) && is_known (message_of (fields_from ns))
unfolding stated stated_as is_stated is_known
stated_known n ns h = rw h (said (message_of (fields_from ns)) refl)
  where
    zero_after : ℕ → Bool
    zero_after k = all_zero (drop (rows_first + 2 * k) ns)

    stated_if : (t : Bool) (e : Envelope) → is_stated (cond t (Some (get_or ns 0 0, e)) None) ≡ t && true
    stated_if true e = refl
    stated_if false e = refl

    said : (k : Option Message) → message_of (fields_from ns) ≡ k → is_stated (stated_as n k ns) ≡ zero_after (rows_of_kind (fields_from ns).kind n) && is_known k
    said None e = sym (and-false (zero_after (rows_of_kind (fields_from ns).kind n)))
    said (Some m) e =
        stated_if (zero_after (rows_held m n)) (envelope_of (fields_from ns) m)
        ∙ ap (λ (k : ℕ). zero_after k && true) (rows_read (fields_from ns) m n e)

-- with the fields and their rows as they were read, and the numbers after them as code lends them
pub stated_by : (n : ℕ) (ns : List ℕ) (f : Fields) (held : ℕ) (clear known : Bool) → numbers_fit ns ≡ true → f ≡ fields_from ns → held ≡ rows_of_kind f.kind n
    → clear ≡ all_zero (take (number_count - (rows_first + 2 * held)) (drop (rows_first + 2 * held) ns)) → known ≡ is_known (message_of f)
    → is_stated (stated n ns) ≡ clear && known
stated_by n ns f held clear known h ef eh ez ek =
    let l = (fit_is ns h).long in
    let rest = take_all (number_count - (rows_first + 2 * held)) (drop (rows_first + 2 * held) ns) (omega (arith, l, length-drop (rows_first + 2 * held) ns)) in
    let by : is_stated (stated n ns) ≡ all_zero (drop (rows_first + 2 * held) ns) && is_known (message_of f) = rw (eh, ef) (stated_known n ns h) in
    by ∙ (λ i. sym (ez ∙ ap all_zero rest) i && sym ek i)

pub stated_short : (n : ℕ) (ns : List ℕ) → (length ns ≡ number_count → ⊥) → is_stated (stated n ns) ≡ false
unfolding stated is_stated
stated_short n ns h = rw (unfit ns (λ f. h f.long))
