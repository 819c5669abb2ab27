-- When a set A of nodes holds an item s; if A has f + 1 nodes, no later call undoes it (`held_next` in proofs QuorumLaws). A
-- live node of A has an item above s. A node of A that is Fetching has lost what it knew, but every table that a node of A
-- sent it under its present incarnation is above s, and what it has counted of such tables covers s. Since any f + 1 tables
-- include one of A, it has an item above s again when it is rebuilt.
use Rattle.std.specs.Prelude.{ℕ, suc, ◌≤◌, ◌≡◌, Bool, true, false}
use mathlib.Core.List.{List, Memᴰ}
use Rattle.item.specs.declared.Item.{Item}
use Rattle.returns.specs.Replace.{replaced}
use Rattle.returns.specs.Majority.{count, group_size}
use Rattle.returns.specs.Rank.{Above, Covers}
use Rattle.returns.specs.View.{down, fetching, ViewNode, ViewMessage, table_from, View, live}
use Rattle.returns.specs.Merge.{Merged}
use Rattle.returns.specs.Change.{StaysLive, CountsTable}

-- node p, a member of A that is v, where the messages ms were sent
pub record Holds (A : ℕ → Bool) (s : Item) (ms : List ViewMessage) (p : ℕ) (v : ViewNode) : Type 0 where
  pub when_live : live v.phase ≡ true → Above s v.item
  pub when_counted : v.phase ≡ fetching → (q : ℕ) → A q ≡ true → v.counted q ≡ true → Covers s v.item v.marked
  pub when_coming : v.phase ≡ fetching → (q : ℕ) (r : Item) → A q ≡ true → Memᴰ (table_from q p v.incarnation r) ms → Above s r

abbrev pub Held : (ℕ → Bool) → Item → View → Type 0
Held A s g = (p : ℕ) → A p ≡ true → Holds A s g.sent p (g.node p)

-- whatever f + 1 nodes hold in g, they hold in g'
abbrev pub KeepsHeld : ℕ → View → View → Type 0
KeepsHeld f g g' = (A : ℕ → Bool) (s : Item) → suc f ≤ count A (group_size f) → Held A s g → Held A s g'

-- What a change does to a node, whatever it is for: this is all that a quorum sees of it.
pub data NodeStep (f : ℕ) (g : View) (p : ℕ) (w : ViewNode) : Type 0 where
  lives_on : StaysLive (g.node p) w → Above (g.node p).item w.item → NodeStep f g p w
  goes_down : w.phase ≡ down → w.incarnation ≡ (g.node p).incarnation → NodeStep f g p w
  restarts : w.phase ≡ fetching → w.incarnation ≡ suc (g.node p).incarnation → ((q : ℕ) → w.counted q ≡ false) → NodeStep f g p w
  counts_table : (q : ℕ) (r : Item) → CountsTable g p q r w → w.phase ≡ fetching → w.counted ≡ replaced (g.node p).counted q true
      → Merged (g.node p) r w.item w.marked → NodeStep f g p w
  rebuilds : (q : ℕ) (r : Item) → CountsTable g p q r w → suc f ≤ count (replaced (g.node p).counted q true) (group_size f)
      → live w.phase ≡ true → Merged (g.node p) r w.item false → NodeStep f g p w
  stays : w ≡ g.node p → NodeStep f g p w
