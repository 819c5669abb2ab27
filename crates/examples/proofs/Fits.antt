-- A test whether a message may be put into the store: it goes from a node of the group to another, and every number is within
-- its width.
use Prim.Native.Nat.{ℕ, ◌^◌, ◌<◌}
use native.Mathlib.Omega.{arith}
use mathlib.Core.Path.{◌≡◌}
use mathlib.Core.Bool.{Bool, true, not, ◌&&◌}
use mathlib.Core.List.{List, [], ◌∷◌}
use mathlib.Core.Logic.{◌≢◌}
use lib.Dec.{eqb, ltb}
use borrow.Author.Tests.{eqb-false, ltb-true, not-true}
use Rattle.item.specs.Maxima.{tag_size, valid_size}
use Rattle.item.proofs.Tests.{and_left, and_right}
use Rattle.item.specs.declared.Item.{Item}
use Rattle.message.specs.Rows.{held_rows}
use Rattle.message.specs.declared.Envelope.{Envelope}
use Rattle.record.specs.Kind.{fields_of}
use Rattle.record.specs.declared.kinds.Fields.{Fields}
use Rattle.record.specs.Layout.{index_size, rows_of}
use Rattle.record.specs.Record.{record_bytes}
use Rattle.record.specs.RoundTrip.{ItemFits, RowsFit, FieldsFit, Fits, ReadsBack}
use Rattle.record.proofs.RoundTripLaws.{reads_back}
use Rattle.store_laws.proofs.Put.{ForGroup}
use Rattle.store_laws.proofs.Sound.{size_most}
use Rattle.store_laws.proofs.Widths.{for_group}

unfoldable pub item_fits : Item → Bool
item_fits item = ltb item.index.0 (256 ^ index_size) && ltb item.tag.0 (256 ^ tag_size)

unfoldable pub items_fit : List Item → Bool
items_fit [] = true
items_fit (item ∷ items) = item_fits item && items_fit items

unfoldable pub fields_fit : Fields → Bool
fields_fit f =
    ltb f.incarnation.0 (256 ^ 4) && (ltb f.other.0 (256 ^ 4) && (ltb f.attempt.0 (256 ^ 4) && item_fits f.item))

-- the message and the rows beside it, in a group of n
unfoldable pub fits : ℕ → Envelope → List Item → Bool
fits n e rows =
    (ltb e.sender n && (ltb e.addressee n && not (eqb e.sender e.addressee))) && (fields_fit (fields_of e) && items_fit rows)

item_fits_lem : (item : Item) → item_fits item ≡ true → ItemFits item
unfolding item_fits ItemFits
item_fits_lem item h = (search (and_left, ltb-true), search (and_right, ltb-true))

rows_fit : (rows : List Item) → items_fit rows ≡ true → RowsFit rows
unfolding items_fit RowsFit
rows_fit [] h = tt
rows_fit (item ∷ rows) h =
    (item_fits_lem item (and_left (item_fits item) (items_fit rows) h), rows_fit rows (and_right (item_fits item) (items_fit rows) h))

module _ (n : ℕ) (e : Envelope) (rows : List Item) (valid : valid_size n ≡ true) (h : fits n e rows ≡ true) where
  from_to : (e.sender < n) × (e.addressee < n) × (e.sender ≢ e.addressee)
  unfolding fits
  from_to = (
    search (and_left, and_right, ltb-true),
    search (and_left, and_right, ltb-true),
    search (and_left, and_right, not-true, eqb-false),
  )

  envelope_fits : Fits e
  unfolding fits fields_fit Fits FieldsFit fields_of
  envelope_fits = (
    omega (arith, from_to.0, size_most n valid),
    omega (arith, from_to.1, size_most n valid),
    search (and_left, and_right, ltb-true),
    search (and_left, and_right, ltb-true),
    search (and_left, and_right, ltb-true),
    item_fits_lem (fields_of e).item (search (and_left, and_right)),
  )

  beside_fit : RowsFit rows
  unfolding fits
  beside_fit = rows_fit rows (search (and_left, and_right))

  -- its record gives it back, and what stands beside it
  pub goes : ForGroup n e rows
  goes = for_group n e rows from_to.0 from_to.1 from_to.2 envelope_fits beside_fit

  pub read_rows : rows_of (record_bytes n 0 e rows) ≡ held_rows e.message n rows
  unfolding ReadsBack
  read_rows = (reads_back n 0 e rows (omega arith) envelope_fits beside_fit).1
