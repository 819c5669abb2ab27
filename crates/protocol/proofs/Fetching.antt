-- Delivery of Fetch and Table. A Fetch is answered with all rows and changes nothing; a Table is merged into row x as the
-- relation asks, and the (f + 1)-th ends in "stopped" or in the write-back of the own item.
use Prim.Native.Nat.{ℕ, suc, ◌≤◌, ◌<◌}
use native.Mathlib.Omega.{arith}
use mathlib.Core.Path.{◌≡◌, refl, sym, ap, subst₂}
use mathlib.Core.Bool.{Bool, true, false}
use mathlib.Core.List.Memᴰ
use mathlib.Core.List.{List, []}
use lib.ListN.{length, get_or, get_or-map}
use borrow.Author.Tests.{eqb-true, ltb-false}
use Rattle.item.specs.Counter.{same_incarnation}
use Rattle.item.specs.Item.{zero_item}
use Rattle.item.proofs.Laws.{same_incarnation_lem}
use Rattle.item.specs.Maxima.{max_nodes}
use Rattle.item.specs.Row.{zero_row}
use Rattle.item.specs.declared.counters.Incarnation.{Incarnation}
use Rattle.item.specs.declared.Item.{Item}
use Rattle.item.specs.declared.Row.{Row}
use Rattle.message.specs.declared.Message.TheVariants as message
use Rattle.returns.specs.Change.{Change, CountsTable, at_table, at_last_table, unchanged}
use Rattle.returns.specs.History.{quiet}
use Rattle.returns.specs.Majority.{count, group_size}
use Rattle.returns.specs.Merge.{Merged}
use Rattle.returns.specs.Replace.{replaced}
use Rattle.returns.specs.View.{View, ViewNode, table_from, Sent, Each}
use Rattle.returns.proofs.ViewLaws.{each_nil, each_cons}
use Rattle.protocol.specs.Answer.{ok}
use Rattle.protocol.specs.Fetching.{on_fetch, none_counted, with_table, has_conflict, stopped, written_back, on_table}
use Rattle.protocol.specs.Merge.{merge_row}
use Rattle.protocol.specs.Node.{half, row_of, count_peers, crashed, blank_node, storing_begun, with_counted, with_rows, row_items}
use Rattle.protocol.specs.Phase.{is_fetching}
use Rattle.protocol.specs.Write.{send_store}
use Rattle.protocol.specs.declared.Node.{Node}
use Rattle.protocol.specs.declared.Phase.TheVariants.{Returning}
use Rattle.protocol.specs.declared.Stage.TheVariants.{Storing}
use Rattle.protocol.proofs.Calls.{crash_seen}
use Rattle.protocol.proofs.Cases.{IfTaken, refusal_not_taken, fetch_cases, table_cases}
use Rattle.protocol.proofs.Counts.{none_present, nobody_present, present_set}
use Rattle.protocol.proofs.InView.{InView, half_is}
use Rattle.protocol.proofs.Phases.{fetching_is, up_live}
use Rattle.protocol.proofs.Place.{row_there, peer_there, counted_of_group, numbered}
use Rattle.protocol.proofs.Rows.{begun_again, merged_row_lem, merge_merged, none_marked}
use Rattle.protocol.proofs.Seen.{seen, seen_as}
use Rattle.protocol.proofs.Sending.{Delivered, sends_nothing, tied_nothing, tied_store, tied_back}
use Rattle.protocol.proofs.Shapes.{table_shaped}

-- Fetch: row x of the Table is the node's
table_item : (node : Node) (x : ℕ) → get_or (row_items node) x zero_item ≡ (row_of node x).item
unfolding row_items row_of
table_item node x = get_or-map (λ (row : Row). row.item) node.rows x zero_row

pub fetch_tied : {f n x k : ℕ} {g : View} {node : Node} (v : InView f n x k g node) (s : ℕ) (i : Incarnation) (items : List Item)
    → Each (λ m. Sent m g) (seen_as x message.Fetch s k i items) → IfTaken (Delivered f x g k s) (on_fetch node i)
unfolding ok
fetch_tied {f} {n} {x} {k} {g} {node} v s i items sent =
    fetch_cases (IfTaken (Delivered f x g k s)) node (refusal_not_taken (Delivered f x g k s) node) i
    (λ e h. tied_back f x g k s node (numbered v) quiet (message.Table i) (unchanged k (seen x node) (sym v.view))
    (each_cons _ _ [] (refl, rw v.view (up_live node.phase e), rw v.view (table_item node x), sent _ (Memᴰ.head refl)) (each_nil _)))

-- Table
module _ {f n x k : ℕ} {g : View} {node : Node} (v : InView f n x k g node) (s : ℕ) (i : Incarnation) (items : List Item)
    (there : length items ≡ max_nodes) where
  -- row x is merged with the table's item
  table_row : row_of (with_table node s i items) x ≡ merge_row (none_counted node) (row_of node x) (get_or items x zero_item)
  unfolding row_of with_table with_counted with_rows
  table_row = merged_row_lem (none_counted node) node.rows items x (row_there v) (omega (arith, v.fits, v.x_below))

  first_none : none_counted node ≡ true → (q : ℕ) → (g.node k).counted q ≡ false
  unfolding none_counted
  first_none e = rw v.view (nobody_present node.counted (eqb-true (count_peers node.counted) 0 e))

  table_merged : Merged (g.node k) (get_or items x zero_item) (row_of (with_table node s i items) x).item (row_of (with_table node s i items) x).marked
  table_merged = rw table_row (merge_merged (g.node k) (row_of node x) (none_counted node) (get_or items x zero_item)
      (rw v.view) (rw v.view) first_none)

  counts_table_lem : (other : Incarnation) (w : ViewNode) → is_fetching node.phase ≡ true → same_incarnation other node.incarnation ≡ true
      → Sent (table_from s k other.0 (get_or items x zero_item)) g → w.incarnation ≡ node.incarnation.0
      → CountsTable g k s (get_or items x zero_item) w
  counts_table_lem other w e own sent same = record {
    other = other.0;
    was_sent = sent;
    present_incarnation = rw v.view (ap (λ (j : Incarnation). j.0) (same_incarnation_lem other node.incarnation own));
    was_fetching = rw (v.view, fetching_is node.phase e);
    same_incarnation = rw v.view same;
  }

  table_few : s < n → is_fetching node.phase ≡ true → CountsTable g k s (get_or items x zero_item) (seen x (with_table node s i items))
      → Change f x g quiet k (seen x (with_table node s i items))
  unfolding with_table with_counted with_rows
  table_few l e c = at_table k s (get_or items x zero_item) (seen x (with_table node s i items)) c
      (rw (fetching_is node.phase e)) (rw (fetching_is node.phase e))
      (rw v.view (present_set node.counted s i (peer_there v s l))) table_merged

  -- no conflict: row x is not marked
  table_unmarked : has_conflict (with_table node s i items) ≡ false → (row_of (with_table node s i items) x).marked ≡ false
  unfolding has_conflict row_of
  table_unmarked e = none_marked (with_table node s i items).rows e x
      (omega (arith, v.fits, v.x_below, (table_shaped node s i items v.placed.shaped).rows_length))

  enough_tables : s < n → suc (half (with_table node s i items).n) ≤ count_peers (with_table node s i items).counted
      → suc f ≤ count (replaced (g.node k).counted s true) (group_size f)
  unfolding with_table with_counted with_rows
  enough_tables l enough = omega (arith, counted_of_group v s i l, half_is n f v.size, ap half v.placed.has_size)

  table_last : s < n → suc (half (with_table node s i items).n) ≤ count_peers (with_table node s i items).counted
      → has_conflict (with_table node s i items) ≡ false
      → CountsTable g k s (get_or items x zero_item) (seen x (written_back (with_table node s i items)))
      → Change f x g quiet k (seen x (written_back (with_table node s i items)))
  unfolding written_back storing_begun with_table with_counted with_rows
  table_last l enough fine c = at_last_table k s (get_or items x zero_item) (seen x (written_back (with_table node s i items))) c
      (enough_tables l enough) refl
      (subst₂ (λ (item : Item) (marked : Bool). Merged (g.node k) (get_or items x zero_item) item marked)
      (sym (begun_again (with_table node s i items) (Returning Storing) (record { 0 = 1 }) x
      (omega (arith, v.fits, v.x_below, (table_shaped node s i items v.placed.shaped).rows_length))))
      (table_unmarked fine) table_merged)
      (λ t. record { same_incarnation = rw v.view; now_storing = refl; none_counted = none_present })

  pub table_tied : (other : Incarnation) → s < n → Each (λ m. Sent m g) (seen_as x (message.Table other) s k i items)
      → IfTaken (Delivered f x g k s) (on_table node s i other items)
  unfolding ok stopped send_store crashed blank_node written_back storing_begun with_table with_counted with_rows
  table_tied other l sent =
      table_cases (IfTaken (Delivered f x g k s)) node (refusal_not_taken (Delivered f x g k s) node) s i other items
      (λ e own few h. tied_nothing f x g k s (with_table node s i items) (numbered v) quiet
      (table_few l e (counts_table_lem other (seen x (with_table node s i items)) e own (sent _ (Memᴰ.head refl)) refl)))
      (λ row h. record {
        changes = crash_seen node (with_table node s i items) v.view refl;
        sending = sends_nothing f x g k s (crashed (with_table node s i items)) (numbered v);
      })
      (λ e own enough fine h. tied_store f x g k s (written_back (with_table node s i items)) (numbered v) quiet
      (table_last l (ltb-false (count_peers (with_table node s i items).counted) (suc (half (with_table node s i items).n)) enough) fine
      (counts_table_lem other (seen x (written_back (with_table node s i items))) e own (sent _ (Memᴰ.head refl)) refl)))
