-- Row x of a node after each change of its rows: one row is set, all are merged with a table, the own item is written back.
-- The merge has the properties that the relation asks (`Merged`), case by case.
use Prim.Native.Nat.{ℕ, zero, suc, ◌<◌}
use native.Mathlib.Omega.{arith}
use mathlib.Core.Path.{◌≡◌, refl, sym, ap, ◌∙◌}
use mathlib.Core.Logic.{◌≢◌}
use mathlib.Core.Bool.{Bool, true, false, false≢true}
use mathlib.Core.List.{List, [], ◌∷◌}
use lib.Dec.{eqb}
use lib.ListN.{length, get_or, set, replicate}
use lib.Seq.{get_or-set_same, get_or-set_other}
use borrow.Author.Tests.{eqb-true, eqb-false, ltb-false}
use Rattle.std.specs.Prelude.{Option, is_some, nat_lt}
use Rattle.std.specs.List.{position_or_len}
use Rattle.std.proofs.lemmas.List.Sums.{fails_before_first}
use Rattle.item.specs.Item.{zero_item, ranks_below, same_item}
use Rattle.item.proofs.Laws.{same_item_lem}
use Rattle.item.specs.Maxima.{max_nodes}
use Rattle.item.specs.Row.{zero_row}
use Rattle.item.proofs.Tests.{by_cond}
use Rattle.item.specs.declared.counters.Attempt.{Attempt}
use Rattle.item.specs.declared.Item.{Item}
use Rattle.item.specs.declared.Row.{Row}
use Rattle.returns.specs.Merge.{Merged}
use Rattle.returns.specs.View.{ViewNode}
use Rattle.returns.proofs.MergeLaws.{merged_first, merged_higher, merged_lower, merged_level}
use Rattle.protocol.specs.Merge.{merge_row, merge_rows, lowest_marked}
use Rattle.protocol.specs.Node.{row_of, own_item, stored_row, zero_rows, storing_begun, with_row}
use Rattle.protocol.specs.declared.Node.{Node}
use Rattle.protocol.specs.declared.Phase.{Phase}

-- one row is replaced
pub row_taken : (node : Node) (i : ℕ) (row : Row) → i < length node.rows → row_of (with_row node i row) i ≡ row
unfolding row_of with_row
row_taken node i row l = get_or-set_same node.rows i row zero_row l

pub row_kept : (node : Node) (i : ℕ) (row : Row) (x : ℕ) → x ≢ i → row_of (with_row node i row) x ≡ row_of node x
unfolding row_of with_row
row_kept node i row x d = get_or-set_other node.rows i x row zero_row d

-- storing begins: the own row takes the item, the others stay
module _ (node : Node) (phase : Phase) (attempt : Attempt) (item : Item) where
  pub begun_own : (x : ℕ) → node.number ≡ x → x < length node.rows → (row_of (storing_begun node phase attempt item) x).item ≡ item
  unfolding row_of storing_begun
  begun_own x e l =
      ap (λ (i : ℕ). (get_or (set node.rows i (stored_row item node.incarnation attempt)) x zero_row).item) e
      ∙ ap (λ (r : Row). r.item) (get_or-set_same node.rows x (stored_row item node.incarnation attempt) zero_row l)

  pub begun_other : (x : ℕ) → x ≢ node.number → row_of (storing_begun node phase attempt item) x ≡ row_of node x
  unfolding row_of storing_begun
  begun_other x d = get_or-set_other node.rows node.number x (stored_row item node.incarnation attempt) zero_row d

-- with the own item, every row keeps its item
pub begun_again : (node : Node) (phase : Phase) (attempt : Attempt) (x : ℕ) → x < length node.rows
    → (row_of (storing_begun node phase attempt (own_item node)) x).item ≡ (row_of node x).item
unfolding own_item
begun_again node phase attempt x l = go (eqb x node.number) refl
  where
    go : (t : Bool) → eqb x node.number ≡ t → (row_of (storing_begun node phase attempt (own_item node)) x).item ≡ (row_of node x).item
    go true e =
        let own : node.number ≡ x = sym (eqb-true x node.number e) in
        begun_own node phase attempt (own_item node) x own l ∙ ap (λ (i : ℕ). (row_of node i).item) own
    go false e = ap (λ (r : Row). r.item) (begun_other node phase attempt (own_item node) x (eqb-false x node.number e))

-- a table is merged row by row
pub merged_row_lem : (first : Bool) (rows : List Row) (items : List Item) (x : ℕ) → x < length rows → x < length items
    → get_or (merge_rows first rows items) x zero_row ≡ merge_row first (get_or rows x zero_row) (get_or items x zero_item)
unfolding merge_rows
merged_row_lem first [] items x l m = absurd (omega arith)
merged_row_lem first (row ∷ rows) [] x l m = absurd (omega arith)
merged_row_lem first (row ∷ rows) (item ∷ items) zero l m = refl
merged_row_lem first (row ∷ rows) (item ∷ items) (suc x) l m = merged_row_lem first rows items x (omega arith) (omega arith)

pub merged_length : (first : Bool) (rows : List Row) (items : List Item) → length (merge_rows first rows items) ≡ length rows
unfolding merge_rows
merged_length first [] items = refl
merged_length first (row ∷ rows) [] = refl
merged_length first (row ∷ rows) (item ∷ items) = ap suc (merged_length first rows items)

-- and the row has the properties of a merge; v shows the row before, and "first" is said only where none was counted
pub merge_merged : (v : ViewNode) (row : Row) (first : Bool) (r : Item) → v.item ≡ row.item → v.marked ≡ row.marked
    → (first ≡ true → (q : ℕ) → v.counted q ≡ false) → Merged v r (merge_row first row r).item (merge_row first row r).marked
unfolding merge_row
merge_merged v row first r same same_mark none =
    by_cond P first _ _ (λ e. merged_first v r false (none e))
    (λ e. by_cond P (ranks_below row.item r) _ _ (λ up. merged_higher v r false (rw same up))
    (λ up. by_cond P (ranks_below r row.item) _ _ (λ low. rw (← same, ← same_mark) (merged_lower v r (rw same low)))
    (λ low. by_cond P (same_item r row.item) _ _
    (λ alike. rw (← same, ← same_mark) (merged_level v r v.marked (rw same up) (rw same low) (λ m. m)
    (λ m. same_item_lem r v.item (rw same alike))))
    (λ alike. rw (← same) (merged_level v r true (rw same up) (rw same low)
    (λ m. absurd (false≢true (sym m))) (λ m. absurd (false≢true (sym m))))))))
  where
    P : Row → Type 0
    P out = Merged v r out.item out.marked

-- where there is no lowest marked row, no row is marked
pub none_marked : (rows : List Row) → is_some (lowest_marked rows) ≡ false → (x : ℕ) → x < length rows → (get_or rows x zero_row).marked ≡ false
unfolding lowest_marked
none_marked rows e x l =
    by_cond (λ (r : Option ℕ). is_some r ≡ false → (get_or rows x zero_row).marked ≡ false)
    (nat_lt (position_or_len (λ (row : Row). row.marked) rows) (length rows)) _ _
    (λ t h. absurd (false≢true (sym h)))
    (λ t h. fails_before_first (λ (row : Row). row.marked) rows x zero_row (omega (arith, ltb-false _ _ t))) e

-- rows that are all zero
zero_replicated : (m x : ℕ) → get_or (replicate m zero_row) x zero_row ≡ zero_row
zero_replicated zero x = refl
zero_replicated (suc m) zero = refl
zero_replicated (suc m) (suc x) = zero_replicated m x

pub zero_row_lem : (node : Node) (x : ℕ) → node.rows ≡ zero_rows → (row_of node x).item ≡ zero_item
unfolding row_of
zero_row_lem node x e = rw e (ap (λ (r : Row). r.item) (zero_replicated max_nodes x))
