-- Reading undoes writing, writing undoes reading, and different messages have different bytes: for every kind, group,
-- number and row.
use Prim.Native.Nat.{ℕ, zero, suc, ◌+◌, ◌*◌, ◌/◌, ◌%◌, ◌^◌, ◌≤◌, ◌<◌}
use mathlib.Core.Path.{◌≡◌, refl, sym, ap, ◌∙◌}
use mathlib.Core.Bool.{true, ◌&&◌}
use mathlib.Core.List.{List, [], ◌∷◌, ◌++◌, append_assoc}
use native.Mathlib.Omega.{arith}
use native.Mathlib.Nat.{add-zero}
use borrow.Author.Tests.{eqb-true}
use lib.Dec.{eqb}
use lib.ListN.{length, take, drop, get_or, length-append, length-drop, replicate, replicate-append-replicate, drop_of_length-le}
use lib.Seq.{drop_at, drop-cons, drop-nil, drop-drop}
use Rattle.item.specs.Maxima.{max_nodes, tag_size}
use Rattle.item.specs.Counter.{same_incarnation, same_attempt}
use Rattle.item.specs.Item.{zero_item, same_item, tags_agree}
use Rattle.item.proofs.Tests.{by_cond}
use Rattle.item.specs.declared.Item.{Item}
use Rattle.message.specs.declared.Message.{Message}
use Rattle.message.specs.declared.Message.TheVariants.{Store, Stored, Confirm, Confirmed, Fetch, Table}
use Rattle.message.specs.declared.Envelope.{Envelope}
use Rattle.endian.specs.Part.{part, whole}
use Rattle.endian.proofs.PartLaws.{part_seam}
use Rattle.endian.specs.Number.{value, bytes, number_at, AreBytes}
use Rattle.endian.proofs.NumberLaws.{length_bytes, value_bytes, number_again}
use Rattle.endian.specs.Zero.{zeros, all_zero}
use Rattle.endian.proofs.ZeroLaws.{both, all_zero_append, all_zero_is}
use Rattle.record.specs.declared.kinds.Fields.{Fields}
use Rattle.record.specs.Layout.{record_size, kind_at, address_at, incarnation_at, other_at, attempt_at, item_at, rows_at, index_size, row_size, item_bytes, address_byte, field_bytes, rows_bytes, padded, item_in, fields_in, items_in, rows_of, next_of, held_rows}
use Rattle.record.proofs.LayoutLaws.{length_item, length_fields, length_rows, length_padded}
use Rattle.record.specs.Kind.{kind_of, other_of, attempt_of, item_of, no_incarnation, filled, fields_of, no_write, message_of, rows_held}
use Rattle.record.specs.Record.{record_bytes, envelope_of, zero_after_rows, read_as, read_record}
use Rattle.record.proofs.RecordLaws.{read_found}
use Rattle.record.specs.RoundTrip.{ItemFits, RowsFit, FieldsFit, Fits, ReadsBack, WritesBack, Differ}
use Rattle.std.specs.Prelude.{None, Option, Some}

-- ---- reading undoes writing

pub length_record : (n next : ℕ) (e : Envelope) (rows : List Item) → length (record_bytes n next e rows) ≡ record_size
unfolding record_bytes held_rows
length_record n next e rows = simp (length-append, length_bytes, length_fields, length_rows, length_padded)

number_read : (w : ℕ) (r : List ℕ) (at v : ℕ) → part w r at ≡ bytes w v → v < 256 ^ w → number_at w r at ≡ v
unfolding number_at
number_read w r at v e h = ap value e ∙ value_bytes w v h

-- every offset is a literal, so that each field stands where it is read is seen by computation
fields_read : (next : ℕ) (f : Fields) (t : List ℕ) → FieldsFit f → fields_in (bytes 2 next ++ (field_bytes f ++ t)) ≡ f
unfolding fields_in item_in field_bytes item_bytes bytes part whole FieldsFit ItemFits address_byte
fields_read next f t h =
    let r : List ℕ = bytes 2 next ++ (field_bytes f ++ t) in
    let s : (f.sender % 16 * 16 + f.addressee % 16) / 16 ≡ f.sender = omega (arith, h.0, h.1) in
    let a : (f.sender % 16 * 16 + f.addressee % 16) % 16 ≡ f.addressee = omega (arith, h.0, h.1) in
    let e₄ : number_at 4 r 4 ≡ f.incarnation.0 = number_read 4 r 4 f.incarnation.0 refl h.2 in
    let e₈ : number_at 4 r 8 ≡ f.other.0 = number_read 4 r 8 f.other.0 refl h.3 in
    let e₁₂ : number_at 4 r 12 ≡ f.attempt.0 = number_read 4 r 12 f.attempt.0 refl h.4 in
    let e₁₆ : number_at 8 r 16 ≡ f.item.index.0 = number_read 8 r 16 f.item.index.0 refl h.5.0 in
    let e₂₄ : number_at 8 r 24 ≡ f.item.tag.0 = number_read 8 r 24 f.item.tag.0 refl h.5.1 in
    (λ i. record {
      kind = f.kind;
      sender = s i;
      addressee = a i;
      incarnation = record { 0 = e₄ i };
      other = record { 0 = e₈ i };
      attempt = record { 0 = e₁₂ i };
      item = record { index = record { 0 = e₁₆ i }; tag = record { 0 = e₂₄ i } };
    })

-- a kind's fields are a message of this kind again
message_again : (e : Envelope) (m : Message) → message_of (filled e (kind_of m) (other_of m) (attempt_of m) (item_of m)) ≡ Some m
unfolding message_of kind_of other_of attempt_of item_of no_write same_incarnation same_attempt same_item tags_agree
message_again e (Store attempt item) = refl
message_again e (Stored other attempt item) = refl
message_again e (Confirm other attempt item) = refl
message_again e (Confirmed other attempt item) = refl
message_again e Fetch = refl
message_again e (Table other) = refl

drop_rows : (k : ℕ) (items : List Item) → drop (k * row_size) (rows_bytes items) ≡ rows_bytes (drop k items)
unfolding rows_bytes
drop_rows zero items = refl
drop_rows (suc k) [] = drop-nil (suc k * row_size)
drop_rows (suc k) (i ∷ items) =
    let e : suc k * row_size ≡ row_size + k * row_size = omega arith in
    rw (e, ← drop-drop (k * row_size) row_size (item_bytes i ++ rows_bytes items), drop_at (item_bytes i) (rows_bytes items) row_size (length_item i)) (drop_rows k items)

pads_are_zero : (m : ℕ) → all_zero (rows_bytes (padded m [])) ≡ true
unfolding rows_bytes padded all_zero item_bytes bytes
pads_are_zero zero = refl
pads_are_zero (suc m) = all_zero_append (item_bytes zero_item) (rows_bytes (padded m [])) ∙ pads_are_zero m

after_held : (m k : ℕ) (rows : List Item) → all_zero (rows_bytes (drop k (padded m (take k rows)))) ≡ true
unfolding padded
after_held m zero rows = pads_are_zero m
after_held zero (suc k) rows = pads_are_zero zero
after_held (suc m) (suc k) [] = ap (λ (l : List Item). all_zero (rows_bytes (drop k l))) (sym (none k)) ∙ after_held m k []
  where
    none : (k : ℕ) → padded m (take k []) ≡ padded m []
    none zero = refl
    none (suc k) = refl
after_held (suc m) (suc k) (i ∷ rows) = after_held m k rows

zero_after : (n next : ℕ) (e : Envelope) (rows : List Item) → zero_after_rows n e.message (record_bytes n next e rows) ≡ true
unfolding zero_after_rows record_bytes held_rows
zero_after n next e rows =
    let k : ℕ = rows_held e.message n in
    let l : List Item = padded max_nodes (take k rows) in
    let front : length (bytes 2 next ++ field_bytes (fields_of e)) ≡ rows_at = length-append (bytes 2 next) (field_bytes (fields_of e)) ∙ (λ i. length_bytes 2 next i + length_fields (fields_of e) i) in
    let d : drop (rows_at + k * row_size) (bytes 2 next ++ (field_bytes (fields_of e) ++ rows_bytes l)) ≡ rows_bytes (drop k l) =
    rw (
      ← append_assoc (bytes 2 next) (field_bytes (fields_of e)) (rows_bytes l),
      ← drop-drop (k * row_size) rows_at ((bytes 2 next ++ field_bytes (fields_of e)) ++ rows_bytes l),
      drop_at (bytes 2 next ++ field_bytes (fields_of e)) (rows_bytes l) rows_at front,
    ) (drop_rows k l) in
    ap all_zero d ∙ after_held max_nodes k rows

-- rows one after the other are read one after the other
item_read : (p t : List ℕ) (i : Item) (at : ℕ) → length p ≡ at → ItemFits i → item_in (p ++ (item_bytes i ++ t)) at ≡ i
unfolding item_in item_bytes ItemFits
item_read p t i at lp h =
    let x : List ℕ = bytes index_size i.index.0 in
    let y : List ℕ = bytes tag_size i.tag.0 in
    let a : p ++ ((x ++ y) ++ t) ≡ p ++ (x ++ (y ++ t)) = ap (λ (l : List ℕ). p ++ l) (append_assoc x y t) in
    let b : p ++ ((x ++ y) ++ t) ≡ (p ++ x) ++ (y ++ t) = a ∙ sym (append_assoc p x (y ++ t)) in
    let lx : length (p ++ x) ≡ at + index_size = length-append p x ∙ (λ j. lp j + length_bytes index_size i.index.0 j) in
    let u : number_at index_size (p ++ ((x ++ y) ++ t)) at ≡ i.index.0 =
    number_read index_size (p ++ ((x ++ y) ++ t)) at i.index.0 (rw a (part_seam index_size p x (y ++ t) at lp (length_bytes index_size i.index.0))) h.0 in
    let v : number_at tag_size (p ++ ((x ++ y) ++ t)) (at + index_size) ≡ i.tag.0 =
    number_read tag_size (p ++ ((x ++ y) ++ t)) (at + index_size) i.tag.0 (rw b (part_seam tag_size (p ++ x) y t (at + index_size) lx (length_bytes tag_size i.tag.0))) h.1 in
    (λ j. record { index = record { 0 = u j }; tag = record { 0 = v j } })

items_read : (p : List ℕ) (items : List Item) (at : ℕ) → length p ≡ at → RowsFit items → items_in (length items) (p ++ rows_bytes items) at ≡ items
unfolding items_in rows_bytes RowsFit
items_read p [] at lp h = refl
items_read p (i ∷ items) at lp h =
    let first : item_in (p ++ (item_bytes i ++ rows_bytes items)) at ≡ i = item_read p (rows_bytes items) i at lp h.0 in
    let l : length (p ++ item_bytes i) ≡ at + row_size = length-append p (item_bytes i) ∙ (λ j. lp j + length_item i j) in
    let rest : items_in (length items) (p ++ (item_bytes i ++ rows_bytes items)) (at + row_size) ≡ items =
    ap (λ (r : List ℕ). items_in (length items) r (at + row_size)) (sym (append_assoc p (item_bytes i) (rows_bytes items)))
    ∙ items_read (p ++ item_bytes i) items (at + row_size) l h.1 in
    (λ j. first j ∷ rest j)

pads_fit : (m : ℕ) → RowsFit (padded m [])
unfolding RowsFit ItemFits padded
pads_fit zero = tt
pads_fit (suc m) = ((omega arith, omega arith), pads_fit m)

held_fit : (m k : ℕ) (rows : List Item) → RowsFit rows → RowsFit (padded m (take k rows))
unfolding RowsFit padded
held_fit zero k rows h = tt
held_fit (suc m) zero rows h = pads_fit (suc m)
held_fit (suc m) (suc k) [] h = pads_fit (suc m)
held_fit (suc m) (suc k) (i ∷ rows) h = (h.0, held_fit m k rows h.1)

rows_read : (n next : ℕ) (e : Envelope) (rows : List Item) → RowsFit rows → rows_of (record_bytes n next e rows) ≡ held_rows e.message n rows
unfolding rows_of record_bytes held_rows
rows_read n next e rows h =
    let k : ℕ = rows_held e.message n in
    let l : List Item = padded max_nodes (take k rows) in
    let p : List ℕ = bytes 2 next ++ field_bytes (fields_of e) in
    let front : length p ≡ rows_at = length-append (bytes 2 next) (field_bytes (fields_of e)) ∙ (λ i. length_bytes 2 next i + length_fields (fields_of e) i) in
    ap (λ (r : List ℕ). items_in max_nodes r rows_at) (sym (append_assoc (bytes 2 next) (field_bytes (fields_of e)) (rows_bytes l)))
    ∙ ap (λ (m : ℕ). items_in m (p ++ rows_bytes l) rows_at) (sym (length_padded max_nodes (take k rows)))
    ∙ items_read p l rows_at front (held_fit max_nodes k rows h)

pub reads_back : ReadsBack
unfolding ReadsBack Fits record_bytes fields_of next_of
reads_back n next e rows hn he hr =
    let t : List ℕ = rows_bytes (held_rows e.message n rows) in (
      read_found n (record_bytes n next e rows) (fields_of e) e.message (length_record n next e rows)
          (sym (fields_read next (fields_of e) t he)) (message_again e e.message) (zero_after n next e rows),
      rows_read n next e rows hr,
      number_read 2 (record_bytes n next e rows) 0 next (part_seam 2 [] (bytes 2 next) (field_bytes (fields_of e) ++ t) 0 refl (length_bytes 2 next)) hn,
    )

-- ---- different messages have different bytes

found : {e e' : Envelope} → Some e ≡ Some e' → e ≡ e'
found p = cc

pub differ : Differ
unfolding Differ ReadsBack
differ n next next' e e' rows rows' hn he hr hn' he' hr' q =
    let a = reads_back n next e rows hn he hr in
    let b = reads_back n next' e' rows' hn' he' hr' in
    (found (sym a.0 ∙ ap (read_record n) q ∙ b.0), sym a.1 ∙ ap rows_of q ∙ b.1, sym a.2 ∙ ap next_of q ∙ b.2)

-- ---- writing undoes reading

-- neither attempt nor item: both are zero
no_write_is : (f : Fields) → no_write f.attempt f.item ≡ true
    → (f.attempt.0 ≡ 0) × (f.item.index.0 ≡ 0) × (f.item.tag.0 ≡ 0)
unfolding no_write same_attempt same_item tags_agree
no_write_is f e =
    let p = both (eqb f.attempt.0 0) (eqb f.item.index.0 0 && eqb f.item.tag.0 0) e in
    let q = both (eqb f.item.index.0 0) (eqb f.item.tag.0 0) p.1 in
    (eqb-true f.attempt.0 0 p.0, eqb-true f.item.index.0 0 q.0, eqb-true f.item.tag.0 0 q.1)

module _ (f : Fields) (m : Message) where
  -- if the fields say m, they are m's
  unfoldable Back : Option Message → Type 0
  Back k = k ≡ Some m → fields_of (envelope_of f m) ≡ f

  back_known : (m' : Message) → fields_of (envelope_of f m') ≡ f → Back (Some m')
  unfolding Back
  back_known m' e q = let p : m ≡ m' = cc in ap (λ (x : Message). fields_of (envelope_of f x)) p ∙ e

  back_unknown : Back None
  unfolding Back
  back_unknown q = let z : ◌≡◌ {A = ℕ} 0 1 = cc in let w : ⊥ = omega arith in absurd w

  no_other : same_incarnation f.other no_incarnation ≡ true → f.other.0 ≡ 0
  unfolding same_incarnation
  no_other e = eqb-true f.other.0 0 e

  -- what the fields say, with these in place of those that were tested
  back_as : (m' : Message) → kind_of m' ≡ f.kind → (other_of m').0 ≡ f.other.0 → (attempt_of m').0 ≡ f.attempt.0
      → (item_of m').index.0 ≡ f.item.index.0 → (item_of m').tag.0 ≡ f.item.tag.0 → Back (Some m')
  unfolding fields_of
  back_as m' k o a x t =
      back_known m' (λ i. record {
        kind = k i;
        sender = f.sender;
        addressee = f.addressee;
        incarnation = f.incarnation;
        other = record { 0 = o i };
        attempt = record { 0 = a i };
        item = record { index = record { 0 = x i }; tag = record { 0 = t i } };
      })

  all_back : Back (message_of f)
  unfolding message_of kind_of other_of attempt_of item_of
  all_back =
      by_cond Back (eqb f.kind 1) _ _
      (λ k. by_cond Back (same_incarnation f.other no_incarnation) _ _
      (λ o. back_as (Store f.attempt f.item) (sym (eqb-true f.kind 1 k)) (sym (no_other o)) refl refl refl)
      (λ o. back_unknown))
      (λ _. by_cond Back (eqb f.kind 2) _ _
      (λ k. back_as (Stored f.other f.attempt f.item) (sym (eqb-true f.kind 2 k)) refl refl refl refl)
      (λ _. by_cond Back (eqb f.kind 3) _ _
      (λ k. back_as (Confirm f.other f.attempt f.item) (sym (eqb-true f.kind 3 k)) refl refl refl refl)
      (λ _. by_cond Back (eqb f.kind 4) _ _
      (λ k. back_as (Confirmed f.other f.attempt f.item) (sym (eqb-true f.kind 4 k)) refl refl refl refl)
      (λ _. by_cond Back (eqb f.kind 5) _ _
      (λ k. by_cond Back (same_incarnation f.other no_incarnation && no_write f.attempt f.item) _ _
      (λ z.
      let p = both (same_incarnation f.other no_incarnation) (no_write f.attempt f.item) z in
      let w = no_write_is f p.1 in
      back_as Fetch (sym (eqb-true f.kind 5 k)) (sym (no_other p.0)) (sym w.0) (sym w.1) (sym w.2))
      (λ z. back_unknown))
      (λ _. by_cond Back (eqb f.kind 6) _ _
      (λ k. by_cond Back (no_write f.attempt f.item) _ _
      (λ z.
      let w = no_write_is f z in
      back_as (Table f.other) (sym (eqb-true f.kind 6 k)) refl (sym w.0) (sym w.1) (sym w.2))
      (λ z. back_unknown))
      (λ _. back_unknown))))))

-- a message has the fields that it was read from
pub fields_again : (f : Fields) (m : Message) → message_of f ≡ Some m → fields_of (envelope_of f m) ≡ f
unfolding Back
fields_again f m = all_back f m

-- what a record that reads as a message is known to be
record ReadAs (n : ℕ) (r : List ℕ) (e : Envelope) : Type 0 where
  message : Message
  long : length r ≡ record_size
  says : message_of (fields_in r) ≡ Some message
  zeroed : zero_after_rows n message r ≡ true
  is : e ≡ envelope_of (fields_in r) message

read_as_lem : (n : ℕ) (r : List ℕ) (e : Envelope) → read_record n r ≡ Some e → ReadAs n r e
unfolding read_record read_as
read_as_lem n r e =
    by_cond (λ (a : Option Envelope). a ≡ Some e → ReadAs n r e) (eqb (length r) record_size) (read_as n (message_of (fields_in r)) r) None
    (λ l. said (message_of (fields_in r)) refl (eqb-true (length r) record_size l))
    (λ l. fault)
  where
    fault : None ≡ Some e → ReadAs n r e
    fault q = let z : ◌≡◌ {A = ℕ} 0 1 = cc in let w : ⊥ = omega arith in absurd w

    said : (k : Option Message) → message_of (fields_in r) ≡ k → length r ≡ record_size → read_as n k r ≡ Some e → ReadAs n r e
    said None s l = fault
    said (Some m) s l =
        by_cond (λ (a : Option Envelope). a ≡ Some e → ReadAs n r e) (zero_after_rows n m r) (Some (envelope_of (fields_in r) m)) None
        (λ z q. record { message = m; long = l; says = s; zeroed = z; is = found (sym q) })
        (λ z. fault)

-- an item that was read is written as it stood
item_again : (r : List ℕ) (at : ℕ) → AreBytes r → at + row_size ≤ length r → item_bytes (item_in r at) ++ drop (at + row_size) r ≡ drop at r
unfolding item_bytes item_in
item_again r at k h =
    let e : at + row_size ≡ at + index_size + tag_size = omega arith in
    append_assoc (bytes index_size (number_at index_size r at)) (bytes tag_size (number_at tag_size r (at + index_size))) (drop (at + row_size) r)
    ∙ ap (λ (l : List ℕ). bytes index_size (number_at index_size r at) ++ l)
    (ap (λ (j : ℕ). bytes tag_size (number_at tag_size r (at + index_size)) ++ drop j r) e ∙ number_again tag_size r (at + index_size) k (omega arith))
    ∙ number_again index_size r at k (omega arith)

pads_are : (m : ℕ) → rows_bytes (padded m []) ≡ zeros (m * row_size)
unfolding rows_bytes padded zeros item_bytes bytes
pads_are zero = refl
pads_are (suc m) =
    let e : row_size + m * row_size ≡ suc m * row_size = omega arith in
    ap (λ (l : List ℕ). replicate row_size 0 ++ l) (pads_are m) ∙ replicate-append-replicate row_size (m * row_size) 0 ∙ ap (λ (j : ℕ). replicate j 0) e

-- the rows that were read, and zeros after those that count
rows_again : (m k : ℕ) (r : List ℕ) (at : ℕ) → AreBytes r → length r ≡ at + m * row_size → all_zero (drop (at + k * row_size) r) ≡ true
    → rows_bytes (padded m (take k (items_in m r at))) ≡ drop at r
unfolding items_in rows_bytes padded
rows_again m zero r at b l z =
    let d : drop (at + 0 * row_size) r ≡ drop at r = ap (λ (j : ℕ). drop j r) (add-zero at) in
    let n : length (drop at r) ≡ m * row_size = length-drop at r ∙ omega arith in
    pads_are m ∙ ap zeros (sym n) ∙ sym (all_zero_is (drop at r) (ap all_zero (sym d) ∙ z))
rows_again zero (suc k) r at b l z = sym (drop_of_length-le r {i = at} (omega arith))
rows_again (suc m) (suc k) r at b l z =
    let e : at + suc k * row_size ≡ at + row_size + k * row_size = omega arith in
    let rest : rows_bytes (padded m (take k (items_in m r (at + row_size)))) ≡ drop (at + row_size) r =
    rows_again m k r (at + row_size) b (omega arith) (ap (λ (j : ℕ). all_zero (drop j r)) (sym e) ∙ z) in
    ap (λ (x : List ℕ). item_bytes (item_in r at) ++ x) rest ∙ item_again r at b (omega arith)

address_again : (x : ℕ) → x < 256 → address_byte (x / 16) (x % 16) ≡ x
unfolding address_byte
address_again x h = omega arith

fields_written : (r : List ℕ) → AreBytes r → length r ≡ record_size → field_bytes (fields_in r) ++ drop rows_at r ≡ drop kind_at r
unfolding field_bytes fields_in AreBytes
fields_written r b l =
    let x : ℕ = get_or r address_at 0 in
    let B₁ : List ℕ = bytes 4 (number_at 4 r incarnation_at) in
    let B₂ : List ℕ = bytes 4 (number_at 4 r other_at) in
    let B₃ : List ℕ = bytes 4 (number_at 4 r attempt_at) in
    let I : List ℕ = item_bytes (item_in r item_at) in
    let t : (B₁ ++ (B₂ ++ (B₃ ++ I))) ++ drop rows_at r ≡ drop incarnation_at r =
    append_assoc B₁ (B₂ ++ (B₃ ++ I)) (drop rows_at r)
    ∙ ap (λ (k : List ℕ). B₁ ++ k) (append_assoc B₂ (B₃ ++ I) (drop rows_at r)
    ∙ ap (λ (k : List ℕ). B₂ ++ k) (append_assoc B₃ I (drop rows_at r)
    ∙ ap (λ (k : List ℕ). B₃ ++ k) (item_again r item_at b (omega arith))
    ∙ number_again 4 r attempt_at b (omega arith))
    ∙ number_again 4 r other_at b (omega arith))
    ∙ number_again 4 r incarnation_at b (omega arith) in
    (λ i. get_or r kind_at 0 ∷ address_again x (b address_at) i ∷ t i)
    ∙ ap (λ (k : List ℕ). get_or r kind_at 0 ∷ k) (sym (drop-cons r address_at 0 (omega arith)))
    ∙ sym (drop-cons r kind_at 0 (omega arith))

pub writes_back_lem : WritesBack
unfolding WritesBack record_bytes held_rows rows_of next_of zero_after_rows
writes_back_lem n r e b q =
    let a : ReadAs n r e = read_as_lem n r e q in
    let m : Message = a.message in
    let l : length r ≡ record_size = a.long in
    let f : Fields = fields_in r in
    let t : rows_bytes (padded max_nodes (take (rows_held m n) (items_in max_nodes r rows_at))) ≡ drop rows_at r = rows_again max_nodes (rows_held m n) r rows_at b l a.zeroed in
    ap (λ (x : Envelope). record_bytes n (next_of r) x (rows_of r)) a.is
    ∙ (λ i. bytes 2 (number_at 2 r 0) ++ (field_bytes (fields_again f m a.says i) ++ t i))
    ∙ ap (λ (x : List ℕ). bytes 2 (number_at 2 r 0) ++ x) (fields_written r b l)
    ∙ number_again 2 r 0 b (omega arith)
