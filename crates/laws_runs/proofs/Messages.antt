-- What a record that reads as a message says: numbers within their widths, if it is of bytes, and no item for a node that the
-- group has not ("Only Table has rows: n of them, then zeros"). So what a sound store of bytes holds may come to its addressee.
use Prim.Native.Nat.{ℕ, zero, suc, ◌+◌, ◌-◌, ◌*◌, ◌^◌, ◌≤◌, ◌<◌}
use native.Mathlib.Omega.{arith}
use mathlib.Core.Path.{◌≡◌, refl, sym, subst, ◌∙◌}
use mathlib.Core.Bool.{true, ◌&&◌}
use mathlib.Core.List.{List, [], ◌∷◌}
use lib.Dec.{eqb}
use lib.ListN.{length, take, drop, get_or, get_or-eq_default}
use lib.Seq.{drop-drop}
use borrow.Author.Tests.{eqb-true}
use Rattle.endian.specs.Number.{value, number_at, AreBytes}
use Rattle.endian.proofs.NumberLaws.{value_fits, bytes_take, bytes_drop}
use Rattle.endian.specs.Part.{part, whole}
use Rattle.endian.proofs.PartLaws.{by_order}
use Rattle.endian.specs.Zero.{all_zero}
use Rattle.item.specs.Counter.{same_incarnation}
use Rattle.item.specs.Item.{zero_item}
use Rattle.item.specs.Maxima.{max_nodes, tag_size}
use Rattle.item.proofs.Tests.{by_cond, and_left, and_right}
use Rattle.item.specs.declared.Item.{Item}
use Rattle.record.specs.declared.kinds.Fields.{Fields}
use Rattle.record.specs.Kind.{store_kind, stored_kind, confirm_kind, confirmed_kind, fetch_kind, table_kind, no_incarnation, no_write, message_of, rows_held, other_of, attempt_of, item_of}
use Rattle.record.specs.Layout.{record_size, incarnation_at, other_at, attempt_at, item_at, rows_at, index_size, row_size, item_in, items_in, fields_in, rows_of}
use Rattle.record.proofs.LayoutLaws.{length_items, get_or_items}
use Rattle.message.specs.declared.Envelope.{Envelope}
use Rattle.message.specs.declared.Message.{Message}
use Rattle.message.specs.declared.Message.TheVariants as message
use Rattle.record.specs.Record.{zero_after_rows, read_as, read_record}
use Rattle.record.specs.RoundTrip.{ItemFits}
use Rattle.operations.specs.Fits.{CounterFits}
use Rattle.operations.proofs.Fitting.{MessageFits, zero_fits}
use Rattle.std.specs.Prelude.{None, Option, Some}

-- ---- numbers of bytes, and of zero bytes

value_of : (w : ℕ) (l : List ℕ) → 0 < 256 ^ w → AreBytes l → value (whole w l) < 256 ^ w
unfolding whole value
value_of w l some h =
    by_cond (λ (x : List ℕ). value x < 256 ^ w) (eqb (length l) w) _ _
    (λ e. subst (λ (n : ℕ). value l < 256 ^ n) (eqb-true (length l) w e) (value_fits l h))
    (λ _. some)

number_fits : (w : ℕ) (s : List ℕ) (at : ℕ) → 0 < 256 ^ w → AreBytes s → number_at w s at < 256 ^ w
unfolding number_at part
number_fits w s at some h = value_of w (take w (drop at s)) some (bytes_take w (drop at s) (bytes_drop at s h))

item_fits_lem : (r : List ℕ) (at : ℕ) → AreBytes r → ItemFits (item_in r at)
unfolding item_in ItemFits
item_fits_lem r at h = (number_fits index_size r at (omega arith) h, number_fits tag_size r (at + index_size) (omega arith) h)

zero_drop : (k : ℕ) (l : List ℕ) → all_zero l ≡ true → all_zero (drop k l) ≡ true
unfolding all_zero
zero_drop zero l e = e
zero_drop (suc k) [] e = e
zero_drop (suc k) (b ∷ l) e = zero_drop k l (and_right (eqb b 0) (all_zero l) e)

zero_take : (w : ℕ) (l : List ℕ) → all_zero l ≡ true → value (take w l) ≡ 0
unfolding all_zero value
zero_take zero l e = refl
zero_take (suc w) [] e = refl
zero_take (suc w) (b ∷ l) e =
    let z : b ≡ 0 = eqb-true b 0 (and_left (eqb b 0) (all_zero l) e) in
    let t : value (take w l) ≡ 0 = zero_take w l (and_right (eqb b 0) (all_zero l) e) in
    omega arith

-- from a place on there is nothing
zero_number : (w : ℕ) (s : List ℕ) (from at : ℕ) → from ≤ at → all_zero (drop from s) ≡ true → number_at w s at ≡ 0
unfolding number_at part whole value
zero_number w s from at h e =
    let d : from + (at - from) ≡ at = omega arith in
    let z : all_zero (drop at s) ≡ true
    = subst (λ (i : ℕ). all_zero (drop i s) ≡ true) d (subst (λ (l : List ℕ). all_zero l ≡ true) (drop-drop (at - from) from s) (zero_drop (at - from) (drop from s) e)) in
    by_cond (λ (x : List ℕ). value x ≡ 0) (eqb (length (take w (drop at s))) w) _ _ (λ _. zero_take w (drop at s) z) (λ _. refl)

-- ---- the rows

held_most : (m : Message) (n : ℕ) → rows_held m n ≤ n
unfolding rows_held
held_most (message.Store attempt item) n = omega arith
held_most (message.Stored other attempt item) n = omega arith
held_most (message.Confirm other attempt item) n = omega arith
held_most (message.Confirmed other attempt item) n = omega arith
held_most message.Fetch n = omega arith
held_most (message.Table other) n = omega arith

rows_zero : (n : ℕ) (m : Message) (r : List ℕ) → zero_after_rows n m r ≡ true → (j : ℕ) → n ≤ j → get_or (rows_of r) j zero_item ≡ zero_item
unfolding zero_after_rows rows_of item_in
rows_zero n m r e j h =
    by_order (suc j) max_nodes
    (λ b. get_or_items max_nodes r rows_at j b ∙ (λ i. record { index = record { 0 = at_index i }; tag = record { 0 = at_tag i } }))
    (λ b. get_or-eq_default (items_in max_nodes r rows_at) zero_item (omega (arith, length_items max_nodes r rows_at)))
  where
    start : ℕ
    start = rows_at + rows_held m n * row_size

    at_index : number_at index_size r (rows_at + j * row_size) ≡ 0
    at_index = zero_number index_size r start (rows_at + j * row_size) (omega (arith, held_most m n)) e

    at_tag : number_at tag_size r (rows_at + j * row_size + index_size) ≡ 0
    at_tag = zero_number tag_size r start (rows_at + j * row_size + index_size) (omega (arith, held_most m n)) e

rows_fit : (r : List ℕ) → AreBytes r → (j : ℕ) → ItemFits (get_or (rows_of r) j zero_item)
unfolding rows_of
rows_fit r h j =
    by_order (suc j) max_nodes
    (λ b. subst ItemFits (sym (get_or_items max_nodes r rows_at j b)) (item_fits_lem r (rows_at + j * row_size) h))
    (λ b. subst ItemFits (sym (get_or-eq_default (items_in max_nodes r rows_at) zero_item (omega (arith, length_items max_nodes r rows_at)))) zero_fits)

-- ---- the message

-- what the fields say fits, if the fields do
unfoldable KnownFits : Option Message → Type 0
KnownFits None = Unit {0}
KnownFits (Some m) = MessageFits m

known_fits : (f : Fields) → CounterFits f.other.0 → CounterFits f.attempt.0 → ItemFits f.item → KnownFits (message_of f)
unfolding message_of KnownFits other_of attempt_of item_of
known_fits f o a i =
    by_cond KnownFits (eqb f.kind store_kind) _ _
    (λ _. by_cond KnownFits (same_incarnation f.other no_incarnation) _ _
    (λ _. record { other_fits = omega arith; attempt_fits = a; item_fits = i }) (λ _. tt))
    (λ _. by_cond KnownFits (eqb f.kind stored_kind) _ _ (λ _. record { other_fits = o; attempt_fits = a; item_fits = i })
    (λ _. by_cond KnownFits (eqb f.kind confirm_kind) _ _ (λ _. record { other_fits = o; attempt_fits = a; item_fits = i })
    (λ _. by_cond KnownFits (eqb f.kind confirmed_kind) _ _ (λ _. record { other_fits = o; attempt_fits = a; item_fits = i })
    (λ _. by_cond KnownFits (eqb f.kind fetch_kind) _ _
    (λ _. by_cond KnownFits (same_incarnation f.other no_incarnation && no_write f.attempt f.item) _ _
    (λ _. record { other_fits = omega arith; attempt_fits = omega arith; item_fits = zero_fits }) (λ _. tt))
    (λ _. by_cond KnownFits (eqb f.kind table_kind) _ _
    (λ _. by_cond KnownFits (no_write f.attempt f.item) _ _
    (λ _. record { other_fits = o; attempt_fits = omega arith; item_fits = zero_fits }) (λ _. tt))
    (λ _. tt))))))

-- a message with the items beside it, in a group of n
pub record Says (n : ℕ) (e : Envelope) (items : List Item) : Type 0 where
  pub message_fits : MessageFits e.message
  pub incarnation_fits : CounterFits e.incarnation.0
  pub items_length : length items ≡ max_nodes
  pub items_fit : (j : ℕ) → ItemFits (get_or items j zero_item)
  pub items_zero : (j : ℕ) → n ≤ j → get_or items j zero_item ≡ zero_item

unfoldable ReadingSays : ℕ → List ℕ → Option Envelope → Type 0
ReadingSays n r None = Unit {0}
ReadingSays n r (Some e) = Says n e (rows_of r)

module _ (n : ℕ) (r : List ℕ) (h : AreBytes r) where
  as_says : (k : Option Message) → KnownFits k → ReadingSays n r (read_as n k r)
  unfolding read_as ReadingSays KnownFits fields_in rows_of
  as_says None f = tt
  as_says (Some m) f =
      by_cond (ReadingSays n r) (zero_after_rows n m r) _ _
      (λ e. record {
        message_fits = f;
        incarnation_fits = number_fits 4 r incarnation_at (omega arith) h;
        items_length = length_items max_nodes r rows_at;
        items_fit = rows_fit r h;
        items_zero = rows_zero n m r e;
      })
      (λ _. tt)

  record_says : ReadingSays n r (read_record n r)
  unfolding read_record ReadingSays fields_in
  record_says =
      by_cond (ReadingSays n r) (eqb (length r) record_size) _ _
      (λ _. as_says (message_of (fields_in r))
      (known_fits (fields_in r) (number_fits 4 r other_at (omega arith) h) (number_fits 4 r attempt_at (omega arith) h) (item_fits_lem r item_at h)))
      (λ _. tt)

  pub says : (e : Envelope) → read_record n r ≡ Some e → Says n e (rows_of r)
  unfolding ReadingSays
  says e q = subst (ReadingSays n r) q record_says
