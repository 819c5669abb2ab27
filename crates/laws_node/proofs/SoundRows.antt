-- Rows that stay sound: a row set by a Store or a write, rows merged with a Table, and unmarked rows once Fetching ends.
use Prim.Native.Nat.{ℕ, suc, ◌+◌, ◌≤◌, ◌<◌}
use native.Mathlib.Omega.{arith}
use mathlib.Core.Path.{◌≡◌, refl, sym, ap, subst}
use mathlib.Core.Bool.{Bool, true, false, not}
use mathlib.Core.List.{List, [], ◌∷◌}
use lib.Dec.{ltb}
use lib.ListN.{length, get_or}
use borrow.Author.Tests.{ltb-false, lt-ltb}
use Rattle.item.specs.Counter.{same_incarnation, same_attempt, index_below}
use Rattle.item.specs.Item.{zero_item, ranks_below, same_item, tags_agree}
use Rattle.item.proofs.Laws.{same_row_lem}
use Rattle.item.specs.Row.{zero_row, same_row}
use Rattle.item.proofs.Tests.{by_cond, and_left, and_right, and_both}
use Rattle.item.specs.declared.counters.Attempt.{Attempt}
use Rattle.item.specs.declared.counters.Incarnation.{Incarnation}
use Rattle.item.specs.declared.Item.{Item}
use Rattle.item.specs.declared.Row.{Row}
use Rattle.protocol.specs.Merge.{merge_row, merge_rows}
use Rattle.protocol.specs.Node.{stored_row, rebuilt_row}
use Rattle.protocol.specs.Sound.{every_from, row_fits, row_sound}
use Rattle.protocol.specs.declared.RowUse.{RowUse}
use Rattle.protocol.specs.declared.RowUse.TheVariants as row_uses

-- the zero row is sound in every use
pub zero_sound : (u : RowUse) (n k : ℕ) → row_sound u n k zero_row ≡ true
unfolding row_sound row_fits same_row same_item tags_agree same_incarnation same_attempt
zero_sound row_uses.Zero n k = by_cond (λ b. b ≡ true) (ltb k n) _ _ (λ _. refl) (λ _. refl)
zero_sound row_uses.Fetched n k = by_cond (λ b. b ≡ true) (ltb k n) _ _ (λ _. refl) (λ _. refl)
zero_sound row_uses.Stored n k = by_cond (λ b. b ≡ true) (ltb k n) _ _ (λ _. refl) (λ _. refl)

-- a stored row, of a node of the group
pub stored_sound : (n k : ℕ) (item : Item) (i : Incarnation) (a : Attempt) → k < n → row_sound row_uses.Stored n k (stored_row item i a) ≡ true
unfolding row_sound row_fits
stored_sound n k item i a l = rw (lt-ltb k n l)

-- below n a row fits its use, from n on it is zero
pub row_below : (u : RowUse) (n k : ℕ) (row : Row) → row_sound u n k row ≡ true → ltb k n ≡ true → row_fits u row ≡ true
unfolding row_sound
row_below u n k row e l = rw l at e

pub row_beyond : (u : RowUse) (n k : ℕ) (row : Row) → row_sound u n k row ≡ true → ltb k n ≡ false → row ≡ zero_row
unfolding row_sound row_fits
row_beyond u n k row e l = same_row_lem row zero_row (rw l at e)

below_sound : (u : RowUse) (n k : ℕ) (row : Row) → ltb k n ≡ true → row_fits u row ≡ true → row_sound u n k row ≡ true
unfolding row_sound
below_sound u n k row l h = rw l h

pub row_sound_is : (u : RowUse) (n k : ℕ) (row : Row) → (ltb k n ≡ true → row_fits u row ≡ true) → (ltb k n ≡ false → row ≡ zero_row)
    → row_sound u n k row ≡ true
row_sound_is u n k row below beyond = go (ltb k n) refl
  where
    go : (b : Bool) → ltb k n ≡ b → row_sound u n k row ≡ true
    go true e = below_sound u n k row e (below e)
    go false e = subst (λ (r : Row). row_sound u n k r ≡ true) (sym (beyond e)) (zero_sound u n k)

-- a row unused so far fits rows that are fetched
zero_fetched : (row : Row) → row_fits row_uses.Zero row ≡ true → row_fits row_uses.Fetched row ≡ true
unfolding row_fits same_incarnation same_attempt
zero_fetched row e = subst (λ (r : Row). row_fits row_uses.Fetched r ≡ true) (sym (same_row_lem row zero_row e)) refl

pub unused_fetched : (n k : ℕ) (row : Row) → row_sound row_uses.Zero n k row ≡ true → row_sound row_uses.Fetched n k row ≡ true
unused_fetched n k row e = row_sound_is row_uses.Fetched n k row (λ l. zero_fetched row (row_below row_uses.Zero n k row e l))
    (row_beyond row_uses.Zero n k row e)

-- a merge keeps the counters zero
merged_fits : (first : Bool) (row : Row) (item : Item) → row_fits row_uses.Fetched row ≡ true → row_fits row_uses.Fetched (merge_row first row item) ≡ true
unfolding merge_row row_fits same_incarnation same_attempt
merged_fits first row item h =
    by_cond P first _ _ (λ _. rebuilt)
    (λ _. by_cond P (ranks_below row.item item) _ _ (λ _. rebuilt)
    (λ _. by_cond P (ranks_below item row.item) _ _ (λ _. h)
    (λ _. by_cond P (same_item item row.item) _ _ (λ _. h) (λ _. h))))
  where
    P : Row → Type 0
    P out = row_fits row_uses.Fetched out ≡ true

    rebuilt : row_fits row_uses.Fetched (rebuilt_row item) ≡ true
    rebuilt = refl

-- and a zero row zero, where no item came
merged_zero : (first : Bool) → merge_row first zero_row zero_item ≡ zero_row
unfolding merge_row ranks_below index_below same_item tags_agree
merged_zero true = refl
merged_zero false = refl

pub merged_sound : (first : Bool) (n k : ℕ) (rows : List Row) (items : List Item) → every_from (row_sound row_uses.Fetched n) k rows ≡ true
    → ((j : ℕ) → n ≤ k + j → get_or items j zero_item ≡ zero_item) → every_from (row_sound row_uses.Fetched n) k (merge_rows first rows items) ≡ true
unfolding every_from merge_rows
merged_sound first n k [] items e h = refl
merged_sound first n k (row ∷ rows) [] e h = e
merged_sound first n k (row ∷ rows) (item ∷ items) e h =
    let here : row_sound row_uses.Fetched n k row ≡ true
    = and_left (row_sound row_uses.Fetched n k row) (every_from (row_sound row_uses.Fetched n) (suc k) rows) e in
    and_both
    (row_sound_is row_uses.Fetched n k (merge_row first row item)
    (λ l. merged_fits first row item (row_below row_uses.Fetched n k row here l))
    (λ l. both_zero first row item (row_beyond row_uses.Fetched n k row here l) (h 0 (omega (arith, ltb-false k n l)))))
    (merged_sound first n (suc k) rows items (and_right (row_sound row_uses.Fetched n k row) (every_from (row_sound row_uses.Fetched n) (suc k) rows) e)
    (λ j m. h (suc j) (omega arith)))
  where
    both_zero : (first : Bool) (row : Row) (item : Item) → row ≡ zero_row → item ≡ zero_item → merge_row first row item ≡ zero_row
    both_zero first row item e d = subst (λ (r : Row). merge_row first r item ≡ zero_row) (sym e)
        (subst (λ (i : Item). merge_row first zero_row i ≡ zero_row) (sym d) (merged_zero first))

-- no row is marked: the rows are those of a node that stores
unmarked_sound : (n k : ℕ) (row : Row) → row_sound row_uses.Fetched n k row ≡ true → row.marked ≡ false → row_sound row_uses.Stored n k row ≡ true
unfolding row_fits
unmarked_sound n k row e m =
    row_sound_is row_uses.Stored n k row (λ l. ap not m) (row_beyond row_uses.Fetched n k row e)

pub rebuilt_sound : (n k : ℕ) (rows : List Row) → every_from (row_sound row_uses.Fetched n) k rows ≡ true
    → ((j : ℕ) → j < length rows → (get_or rows j zero_row).marked ≡ false)
    → every_from (row_sound row_uses.Stored n) k rows ≡ true
unfolding every_from
rebuilt_sound n k [] e m = refl
rebuilt_sound n k (row ∷ rows) e m =
    and_both
    (unmarked_sound n k row (and_left (row_sound row_uses.Fetched n k row) (every_from (row_sound row_uses.Fetched n) (suc k) rows) e) (m 0 (omega arith)))
    (rebuilt_sound n (suc k) rows (and_right (row_sound row_uses.Fetched n k row) (every_from (row_sound row_uses.Fetched n) (suc k) rows) e)
    (λ j l. m (suc j) (omega arith)))
