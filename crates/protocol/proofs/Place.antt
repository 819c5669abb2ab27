-- Node k is x, or it is another: what each tie lemma does at x is lifted here to k, and what a live node other than x may do
-- to its own write is one change of the relation.
use Prim.Native.Nat.{ℕ, ◌≤◌, ◌<◌}
use native.Mathlib.Omega.{arith}
use mathlib.Core.Path.{◌≡◌, refl, sym, ap, subst}
use mathlib.Core.Logic.{◌≢◌}
use mathlib.Core.Bool.{Bool, true, false}
use lib.Dec.{eqb}
use lib.ListN.{length, set}
use borrow.Author.Tests.{eqb-true, eqb-false}
use Rattle.item.specs.declared.counters.Attempt.{Attempt}
use Rattle.item.specs.declared.counters.Incarnation.{Incarnation}
use Rattle.item.specs.declared.Item.{Item}
use Rattle.returns.specs.Change.{Change, BeginsStoring, elsewhere}
use Rattle.returns.specs.History.{Note, quiet}
use Rattle.returns.specs.Majority.{count, group_size}
use Rattle.returns.specs.Replace.{replaced}
use Rattle.returns.specs.View.{up, storing, live, ViewNode, View}
use Rattle.protocol.specs.Node.{row_of, own_item, peer_under, count_peers, storing_begun}
use Rattle.protocol.specs.declared.Node.{Node}
use Rattle.protocol.specs.declared.Phase.{Phase}
use Rattle.protocol.proofs.Counts.{none_present, count_group}
use Rattle.protocol.proofs.InView.{InView, none_beyond}
use Rattle.protocol.proofs.Seen.{seen, seen_phase, stage_in}

pub by_place : {A : Type 0} (k x : ℕ) → (k ≡ x → A) → (k ≢ x → A) → A
by_place {A} k x h h' = go (eqb k x) refl
  where
    go : (t : Bool) → eqb k x ≡ t → A
    go true e = h (eqb-true k x e)
    go false e = h' (eqb-false k x e)

module _ {f n x k : ℕ} {g : View} {node : Node} (v : InView f n x k g node) where
  -- row x is among the node's rows
  pub row_there : x < length node.rows
  row_there = omega (arith, v.x_below, v.fits, v.placed.shaped.rows_length)

  -- and a peer of the group among those that it counts
  pub peer_there : (q : ℕ) → q < n → q < length node.counted
  peer_there q l = omega (arith, v.fits, v.placed.shaped.counted_length)

  -- with one more of the group, those counted are as many as the list counts
  pub counted_of_group : (q : ℕ) (i : Incarnation) → q < n
      → count_peers (set node.counted q (peer_under i)) ≡ count (replaced (g.node k).counted q true) (group_size f)
  counted_of_group q i l =
      let fits : n ≤ length node.counted = omega (arith, v.fits, v.placed.shaped.counted_length) in
      rw (v.view, ← v.size) (count_group n node.counted (none_beyond n k node.counted v.placed.counts_others) fits q i l)

  pub numbered : node.number ≡ k
  numbered = v.placed.has_number

  -- a change at x, where k is x
  pub at_x : {note : Note} {w : ViewNode} → k ≡ x → (InView f n x x g node → Change f x g note x w) → Change f x g note k w
  at_x {note} {w} e h = subst (λ (p : ℕ). InView f n x p g node → Change f x g note p w) (sym e) h v

  -- a live node other than x keeps its incarnation and row x
  pub at_other : (node' : Node) → k ≢ x → node'.incarnation ≡ node.incarnation
      → live (seen_phase node.phase) ≡ true → live (seen_phase node'.phase) ≡ true
      → (seen_phase node.phase ≡ up → seen_phase node'.phase ≡ up) → (row_of node' x).item ≡ (row_of node x).item
      → Change f x g quiet k (seen x node')
  at_other node' d i l l' u r = elsewhere k (seen x node') d
      (record {
        same_incarnation = rw v.view (ap (λ (j : Incarnation). j.0) i);
        was_live = rw v.view l;
        is_live = l';
        stays_up = rw v.view u;
      })
      (rw v.view r)

-- the own item of x is in row x
pub own_row : (x : ℕ) (node : Node) → node.number ≡ x → own_item node ≡ (row_of node x).item
unfolding own_item
own_row x node e = ap (λ (i : ℕ). (row_of node i).item) e

-- storing begins: nothing is counted
pub begins_storing : (x : ℕ) (v : ViewNode) (node : Node) (phase : Phase) (attempt : Attempt) (item : Item) → v ≡ seen x node
    → stage_in phase ≡ storing → BeginsStoring v (seen x (storing_begun node phase attempt item))
unfolding storing_begun
begins_storing x v node phase attempt item e s = record { same_incarnation = rw e; now_storing = s; none_counted = none_present }
