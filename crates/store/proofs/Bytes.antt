-- What the laws of the store need of bytes and of one record: a number written at one place leaves every other place as it
-- was, and what is read of a record does not depend on its next.
use Prim.Native.Nat.{ℕ, zero, suc, ◌+◌, ◌-◌, ◌*◌, ◌/◌, ◌%◌, ◌^◌, ◌≤◌, ◌<◌}
use mathlib.Core.Path.{◌≡◌, refl, sym, ap, ◌∙◌}
use mathlib.Core.Bool.{true, cond, ◌&&◌}
use mathlib.Core.Logic.{◌⊎◌, inr}
use mathlib.Core.List.{List, [], ◌∷◌}
use native.Mathlib.Omega.{arith}
use lib.Dec.{eqb}
use borrow.Author.Tests.{eq-eqb}
use lib.ListN.{length, take, drop, get_or, length-drop, get_or-eq_default}
use lib.Seq.{drop-cons, drop-drop, get_or-drop, ext_get_or}
use Rattle.item.specs.Maxima.{max_nodes, tag_size}
use Rattle.item.proofs.Tests.{by_cond, and_both}
use Rattle.item.specs.declared.Item.{Item}
use Rattle.endian.specs.Part.{part, whole}
use Rattle.endian.proofs.PartLaws.{by_order, part_is, part_none, part_with_other}
use Rattle.endian.specs.Number.{value, bytes, number_at, with_number}
use Rattle.endian.proofs.NumberLaws.{length_bytes, length_with_number, number_of_with}
use Rattle.endian.specs.Zero.{zeros, all_zero}
use Rattle.endian.proofs.ZeroLaws.{length_zeros, zeros_are_zero}
use Rattle.record.specs.declared.kinds.Fields.{Fields}
use Rattle.record.specs.Layout.{record_size, next_at, kind_at, address_at, incarnation_at, other_at, attempt_at, item_at, rows_at, row_size, index_size, item_in, items_in, fields_in, rows_of, next_of}
use Rattle.record.specs.Kind.{message_of, rows_held}
use Rattle.message.specs.declared.Envelope.{Envelope}
use Rattle.record.specs.Record.{record_bytes, read_as, read_record, envelope_of, zero_after_rows, zero_after_next, with_next, no_record}
use Rattle.std.specs.Prelude.{None, Option, Some}
use Rattle.message.specs.declared.Message.{Message}

-- ---- a number written

-- a number at another place is as it was
pub number_other : (w : ℕ) (s : List ℕ) (at x v b : ℕ) → (b + v ≤ at) ⊎ (at + w ≤ b) → number_at v (with_number w s at x) b ≡ number_at v s b
unfolding number_at with_number
number_other w s at x v b d = ap value (part_with_other w s at (bytes w x) (length_bytes w x) v b d)

-- a byte is a number of width one
pub byte_number : (s : List ℕ) (i : ℕ) → get_or s i 0 ≡ number_at 1 s i
unfolding number_at value
byte_number s i =
    by_order (i + 1) (length s)
    (λ h. rw (part_is 1 s i h, drop-cons s i 0 (omega arith)) (omega arith))
    (λ h. rw (part_none 1 s i h) (get_or-eq_default s 0 (omega arith)))

-- so is a byte at another place
pub byte_other : (w : ℕ) (s : List ℕ) (at x i : ℕ) → (i + 1 ≤ at) ⊎ (at + w ≤ i) → get_or (with_number w s at x) i 0 ≡ get_or s i 0
byte_other w s at x i d =
    byte_number (with_number w s at x) i ∙ number_other w s at x 1 i d ∙ sym (byte_number s i)

-- and all that comes after it
pub drop_other : (w : ℕ) (s : List ℕ) (at x b : ℕ) → at + w ≤ b → drop b (with_number w s at x) ≡ drop b s
drop_other w s at x b h =
    ext_get_or 0 (drop b (with_number w s at x)) (drop b s)
    (simp (length-drop, length_with_number))
    (λ i _. get_or-drop b (with_number w s at x) i 0 ∙ byte_other w s at x (b + i) (inr (omega arith)) ∙ sym (get_or-drop b s i 0))

-- ---- records that are alike apart from next

pub record Alike (r q : List ℕ) : Type 0 where
  pub size : length r ≡ length q
  pub rest : drop kind_at r ≡ drop kind_at q

pub alike_self : (r : List ℕ) → Alike r r
alike_self r = record { size = refl; rest = refl }

pub alike_trans : {r q t : List ℕ} → Alike r q → Alike q t → Alike r t
alike_trans a b = record { size = a.size ∙ b.size; rest = a.rest ∙ b.rest }

pub alike_next : (r : List ℕ) (next : ℕ) → Alike (with_next r next) r
unfolding with_next
alike_next r next = record { size = length_with_number 2 r next_at next; rest = drop_other 2 r next_at next kind_at (omega arith) }

module _ {r q : List ℕ} (a : Alike r q) where
  pub alike_drop : (b : ℕ) → kind_at ≤ b → drop b r ≡ drop b q
  alike_drop b h =
      let e : kind_at + (b - kind_at) ≡ b = omega arith in
      ap (λ (k : ℕ). drop k r) (sym e) ∙ sym (drop-drop (b - kind_at) kind_at r) ∙ ap (drop (b - kind_at)) a.rest
      ∙ drop-drop (b - kind_at) kind_at q
      ∙ ap (λ (k : ℕ). drop k q) e

  pub alike_number : (w at : ℕ) → kind_at ≤ at → number_at w r at ≡ number_at w q at
  unfolding number_at part
  alike_number w at h = ap (λ (l : List ℕ). value (whole w (take w l))) (alike_drop at h)

  pub alike_byte : (at : ℕ) → kind_at ≤ at → get_or r at 0 ≡ get_or q at 0
  alike_byte at h = byte_number r at ∙ alike_number 1 at h ∙ sym (byte_number q at)

  alike_item : (at : ℕ) → kind_at ≤ at → item_in r at ≡ item_in q at
  unfolding item_in
  alike_item at h =
      let i = alike_number index_size at h in
      let t = alike_number tag_size (at + index_size) (omega arith) in
      λ j. record { index = record { 0 = i j }; tag = record { 0 = t j } }

  alike_items : (m at : ℕ) → kind_at ≤ at → items_in m r at ≡ items_in m q at
  unfolding items_in
  alike_items zero at h = refl
  alike_items (suc m) at h = λ j. alike_item at h j ∷ alike_items m (at + row_size) (omega arith) j

  pub alike_rows : rows_of r ≡ rows_of q
  unfolding rows_of
  alike_rows = alike_items max_nodes rows_at (omega arith)

  pub alike_fields : fields_in r ≡ fields_in q
  unfolding fields_in
  alike_fields =
      let k = alike_byte kind_at (omega arith) in
      let d = alike_byte address_at (omega arith) in
      let i = alike_number 4 incarnation_at (omega arith) in
      let o = alike_number 4 other_at (omega arith) in
      let t = alike_number 4 attempt_at (omega arith) in
      let m = alike_item item_at (omega arith) in
      λ j.
      record {
        kind = k j;
        sender = d j / 16;
        addressee = d j % 16;
        incarnation = record { 0 = i j };
        other = record { 0 = o j };
        attempt = record { 0 = t j };
        item = m j;
      }

  alike_read_as : (n : ℕ) (k : Option Message) → read_as n k r ≡ read_as n k q
  unfolding read_as zero_after_rows
  alike_read_as n None = refl
  alike_read_as n (Some m) =
      let z : drop (rows_at + rows_held m n * row_size) r ≡ drop (rows_at + rows_held m n * row_size) q = alike_drop (rows_at + rows_held m n * row_size) (omega arith) in
      λ j. cond (all_zero (z j)) (Some (envelope_of (alike_fields j) m)) None

  -- what is read does not depend on next
  pub alike_read : (n : ℕ) → read_record n r ≡ read_record n q
  unfolding read_record
  alike_read n =
      (λ j. cond (eqb (a.size j) record_size) (read_as n (message_of (alike_fields j)) r) None)
      ∙ ap (λ (x : Option Envelope). cond (eqb (length q) record_size) x None) (alike_read_as n (message_of (fields_in q)))

-- ---- a record of kind 0 is no message

message_none : (f : Fields) → f.kind ≡ 0 → message_of f ≡ None
unfolding message_of
message_none f e = rw e

pub kind_none : (n : ℕ) (r : List ℕ) → get_or r kind_at 0 ≡ 0 → read_record n r ≡ None
unfolding read_record read_as fields_in
kind_none n r e =
    ap (λ (k : Option Message). cond (eqb (length r) record_size) (read_as n k r) None) (message_none (fields_in r) e)
    ∙ by_cond (λ (x : Option Envelope). x ≡ None) (eqb (length r) record_size) None None (λ _. refl) (λ _. refl)

pub zero_none : (n : ℕ) → read_record n no_record ≡ None
unfolding no_record zeros
zero_none n = kind_none n no_record refl

pub cleared_none : (n next : ℕ) → read_record n (with_next no_record next) ≡ None
cleared_none n next = alike_read (alike_next no_record next) n ∙ zero_none n

-- where there is no record there is no message
pub nothing_none : (n : ℕ) → read_record n [] ≡ None
nothing_none n = kind_none n [] refl

-- ---- how long a record is

pub length_no_record : length no_record ≡ record_size
unfolding no_record
length_no_record = length_zeros record_size

pub length_cleared : (next : ℕ) → length (with_next no_record next) ≡ record_size
unfolding with_next
length_cleared next = length_with_number 2 no_record next_at next ∙ length_no_record

-- ---- a free record

pub alike_zero : {r q : List ℕ} → Alike r q → zero_after_next r ≡ zero_after_next q
unfolding zero_after_next
alike_zero a = λ i. eqb (a.size i) record_size && all_zero (a.rest i)

drop_zeros : (k m : ℕ) → all_zero (drop k (zeros m)) ≡ true
unfolding zeros all_zero
drop_zeros zero m = zeros_are_zero m
drop_zeros (suc k) zero = refl
drop_zeros (suc k) (suc m) = drop_zeros k m

no_record_zero : zero_after_next no_record ≡ true
unfolding zero_after_next no_record
no_record_zero = and_both (eq-eqb (length no_record) record_size length_no_record) (drop_zeros kind_at record_size)

pub cleared_zero : (next : ℕ) → zero_after_next (with_next no_record next) ≡ true
cleared_zero next = alike_zero (alike_next no_record next) ∙ no_record_zero

pub next_cleared : (next : ℕ) → next < 256 ^ 2 → next_of (with_next no_record next) ≡ next
unfolding next_of with_next
next_cleared next h = number_of_with 2 no_record next_at next (omega (arith, length_no_record)) h

-- a record that is written has the next 0
pub next_written : (n : ℕ) (e : Envelope) (rows : List Item) → next_of (record_bytes n 0 e rows) ≡ 0
unfolding next_of number_at part whole value record_bytes bytes
next_written n e rows = refl
