-- Numbers that were written as a record are read back from it.
use Prim.Native.Nat.{ℕ, zero, suc, ◌+◌, ◌-◌, ◌*◌, ◌≤◌, ◌<◌}
use native.Mathlib.Omega.{arith}
use mathlib.Core.Path.{◌≡◌, refl, sym, ap, ◌∙◌}
use mathlib.Core.Bool.{Bool, true, false, cond, false≢true}
use mathlib.Core.List.{List, [], ◌∷◌}
use lib.ListN.{length, get_or, take, drop, replicate, length-replicate, drop_of_length-le, get_or-replicate, get_or-eq_default}
use lib.Seq.{drop-cons, get_or-drop}
use Rattle.item.specs.Maxima.{max_nodes}
use Rattle.item.specs.declared.Item.{Item}
use Rattle.message.specs.declared.Envelope.{Envelope}
use Rattle.message.specs.declared.Message as kind
use Rattle.endian.proofs.PartLaws.{by_order}
use Rattle.endian.specs.Zero.{zeros, all_zero}
use Rattle.endian.proofs.ZeroLaws.{all_zero_is}
use Rattle.record.specs.Kind.{fields_of, message_of, rows_held}
use Rattle.record.specs.Layout.{padded, held_rows, layout_bytes, rows_of}
use Rattle.record.specs.Record.{envelope_of, record_bytes, read_record}
use Rattle.record.specs.RoundTrip.{ItemFits, RowsFit, FieldsFit, Fits, ReadsBack}
use Rattle.record.proofs.RoundTripLaws.{reads_back, fields_again}
use Rattle.record_words.specs.Numbers.{rows_first, number_count, field_numbers, row_numbers, numbers_of, item_from, fields_from, items_from, rows_from, numbers_fit, stated_as, stated, numbers_as, record_numbers, bytes_as, numbers_bytes, is_found, is_stated}
use Rattle.record_words.proofs.NumberLaws.{Fit, fit_is}
use Rattle.record_words.specs.ReadBack.{Within64, NumbersReadBack}
use Rattle.std.specs.Prelude.{None, Option, Some}
use Rattle.message.specs.declared.Message.{Message}

-- ---- the rows

zero_at : (ns : List ℕ) (a j : ℕ) → all_zero (drop a ns) ≡ true → a ≤ j → get_or ns j 0 ≡ 0
unfolding zeros
zero_at ns a j z h =
    let e : a + (j - a) ≡ j = omega arith in
    ap (λ (k : ℕ). get_or ns k 0) (sym e) ∙ sym (get_or-drop a ns (j - a) 0) ∙ ap (λ (l : List ℕ). get_or l (j - a) 0) (all_zero_is (drop a ns) z)
    ∙ by_order (length (drop a ns)) (j - a)
    (λ o. get_or-eq_default (replicate (length (drop a ns)) 0) 0 (rw (length-replicate {A = ℕ} (length (drop a ns)) 0) o))
    (λ o. get_or-replicate (length (drop a ns)) (j - a) 0 0 o)

pads : (m : ℕ) (ns : List ℕ) (at : ℕ) → all_zero (drop at ns) ≡ true → (at' : ℕ) → at ≤ at' → padded m [] ≡ items_from m ns at'
unfolding padded items_from item_from
pads zero ns at z at' h = refl
pads (suc m) ns at z at' h =
    let i = sym (zero_at ns at at' z h) in
    let t = sym (zero_at ns at (at' + 1) z (omega arith)) in
    let r = pads m ns at z (at' + 2) (omega arith) in
    λ j. record { index = record { 0 = i j }; tag = record { 0 = t j } } ∷ r j

held_are : (m k : ℕ) (ns : List ℕ) (at : ℕ) → all_zero (drop (at + 2 * k) ns) ≡ true → padded m (take k (items_from m ns at)) ≡ items_from m ns at
unfolding padded items_from
held_are m zero ns at z = pads m ns (at + 2 * 0) z at (omega arith)
held_are zero (suc k) ns at z = refl
held_are (suc m) (suc k) ns at z =
    let e : at + 2 * suc k ≡ at + 2 + 2 * k = omega arith in
    ap (λ (l : List Item). item_from ns at ∷ l) (held_are m k ns (at + 2) (rw e at z))

rows_fit : (m : ℕ) (ns : List ℕ) (at : ℕ) → Within64 ns → RowsFit (items_from m ns at)
unfolding RowsFit ItemFits items_from item_from Within64
rows_fit zero ns at w = tt
rows_fit (suc m) ns at w = ((w at, w (at + 1)), rows_fit m ns (at + 2) w)

-- ---- the numbers again

again : (ns l : List ℕ) (j : ℕ) → j < length ns → l ≡ drop (suc j) ns → get_or ns j 0 ∷ l ≡ drop j ns
again ns l j h e = ap (λ (t : List ℕ). get_or ns j 0 ∷ t) e ∙ sym (drop-cons ns j 0 h)

row_again : (m : ℕ) (ns : List ℕ) (at : ℕ) → length ns ≡ at + 2 * m → row_numbers (items_from m ns at) ≡ drop at ns
unfolding row_numbers items_from item_from
row_again zero ns at h = sym (drop_of_length-le ns {i = at} (omega arith))
row_again (suc m) ns at h =
    let e : at + 2 ≡ suc (suc at) = omega arith in
    let e' : at + 1 ≡ suc at = omega arith in
    again ns _ at (omega arith) (rw e' (again ns _ (suc at) (omega arith) (row_again m ns (at + 2) (omega arith) ∙ ap (λ (k : ℕ). drop k ns) e)))

numbers_again : (ns : List ℕ) → length ns ≡ number_count → numbers_of (get_or ns 0 0) (fields_from ns) (rows_from ns) ≡ ns
unfolding numbers_of field_numbers fields_from rows_from
numbers_again ns h =
    again ns _ 0 (omega arith) (again ns _ 1 (omega arith) (again ns _ 2 (omega arith) (again ns _ 3 (omega arith) (again ns _ 4 (omega arith)
    (again ns _ 5 (omega arith) (again ns _ 6 (omega arith) (again ns _ 7 (omega arith) (again ns _ 8 (omega arith) (row_again max_nodes ns rows_first h)))))))))

-- ---- what was stated

record IsStated (n : ℕ) (ns : List ℕ) : Type 0 where
  message : kind.Message
  fit : Fit ns
  says : message_of (fields_from ns) ≡ Some message
  zeroed : all_zero (drop (rows_first + 2 * rows_held message n) ns) ≡ true
  is : stated n ns ≡ Some (get_or ns 0 0, envelope_of (fields_from ns) message)

stated_is : (n : ℕ) (ns : List ℕ) → is_stated (stated n ns) ≡ true → IsStated n ns
unfolding stated stated_as is_stated
stated_is n ns e = by_fit (numbers_fit ns) refl e
  where
    none : false ≡ true → IsStated n ns
    none q = absurd (false≢true q)

    by_zero : (m : kind.Message) (t : Bool) → all_zero (drop (rows_first + 2 * rows_held m n) ns) ≡ t → message_of (fields_from ns) ≡ Some m → numbers_fit ns ≡ true
        → is_stated (cond t (Some (get_or ns 0 0, envelope_of (fields_from ns) m)) None) ≡ true → IsStated n ns
    by_zero m false z q f e = none e
    by_zero m true z q f e = record { message = m; fit = fit_is ns f; says = q; zeroed = z; is = rw (f, q, z) }

    by_known : (k : Option Message) → message_of (fields_from ns) ≡ k → numbers_fit ns ≡ true → is_stated (stated_as n k ns) ≡ true → IsStated n ns
    by_known None q f e = none e
    by_known (Some m) q f e = by_zero m (all_zero (drop (rows_first + 2 * rows_held m n) ns)) refl q f e

    by_fit : (t : Bool) → numbers_fit ns ≡ t → is_stated (cond t (stated_as n (message_of (fields_from ns)) ns) None) ≡ true → IsStated n ns
    by_fit false f e = none e
    by_fit true f e = by_known (message_of (fields_from ns)) refl f e

fields_fit : (ns : List ℕ) → Within64 ns → Fit ns → FieldsFit (fields_from ns)
unfolding FieldsFit ItemFits fields_from Within64
fields_fit ns w f = (f.sender, f.addressee, f.incarnation, f.other, f.attempt, (w 7, w 8))

pub read_back : NumbersReadBack
unfolding NumbersReadBack numbers_bytes bytes_as record_numbers numbers_as is_found ReadsBack Fits held_rows rows_from
read_back n ns w e =
    let s = stated_is n ns e in
    let f = fields_from ns in
    let envelope : Envelope = envelope_of f s.message in
    let r = record_bytes n (get_or ns 0 0) envelope (rows_from ns) in
    let b : numbers_bytes n ns ≡ r = ap (λ (t : Option (ℕ × Envelope)). bytes_as n t ns) s.is in
    let fa : fields_of envelope ≡ f = fields_again f s.message s.says in
    let q = reads_back n (get_or ns 0 0) envelope (rows_from ns) s.fit.next (rw fa (fields_fit ns w s.fit)) (rows_fit max_nodes ns rows_first w) in
    let found : read_record n (numbers_bytes n ns) ≡ Some envelope = ap (read_record n) b ∙ q.0 in
    let rows : rows_of r ≡ rows_from ns = q.1 ∙ held_are max_nodes (rows_held s.message n) ns rows_first s.zeroed in (
      ap is_found found,
      (λ i. numbers_as (found i) (b i)) ∙ (λ i. numbers_of (q.2 i) (fa i) (rows i)) ∙ numbers_again ns s.fit.long,
    )

-- ---- the bytes straight from the numbers

-- numbers that are a message are the fields and rows of its bytes as they stand: what it does not use is 0 in them
pub bytes_straight : (n : ℕ) (ns : List ℕ) → is_stated (stated n ns) ≡ true → layout_bytes (get_or ns 0 0) (fields_from ns) (rows_from ns) ≡ numbers_bytes n ns
unfolding numbers_bytes bytes_as record_bytes held_rows rows_from
bytes_straight n ns e =
    let s = stated_is n ns e in
    let f = fields_again (fields_from ns) s.message s.says in
    let r = held_are max_nodes (rows_held s.message n) ns rows_first s.zeroed in
    sym (ap (λ (t : Option (ℕ × Envelope)). bytes_as n t ns) s.is ∙ (λ i. layout_bytes (get_or ns 0 0) (f i) (r i)))
