-- The premises of every tie lemma, gathered in two records: a node k at its place as x's view shows it, and a message that came to
-- it. What `sound_node` and `valid_size` say is read off here once.
use Prim.Native.Nat.{ℕ, suc, ◌+◌, ◌%◌, ◌≤◌, ◌<◌}
use native.Mathlib.Omega.{arith}
use mathlib.Core.Path.{◌≡◌, refl}
use mathlib.Core.Logic.{◌≢◌}
use mathlib.Core.Bool.{Bool, true, false}
use mathlib.Core.List.{List}
use lib.ListN.{length}
use borrow.Author.Tests.{eqb-true, leb-true}
use Rattle.item.specs.Maxima.{max_nodes, valid_size}
use Rattle.item.proofs.Tests.{and_left, and_right}
use Rattle.item.specs.declared.Item.{Item}
use Rattle.message.specs.declared.Envelope.{Envelope}
use Rattle.returns.specs.Majority.{group_size}
use Rattle.returns.specs.View.{View, Sent, Each}
use Rattle.protocol.specs.Node.{half, peer_of}
use Rattle.protocol.specs.Sound.{sound_node}
use Rattle.protocol.specs.declared.Node.{Node}
use Rattle.protocol.specs.declared.Peer.{Peer}
use Rattle.std.specs.Prelude.{is_some}
use Rattle.protocol.proofs.Seen.{seen, seen_message}
use Rattle.protocol.specs.Shaped.{Shaped}

-- "below n, not itself"
abbrev pub Others : ℕ → ℕ → List Peer → Type 0
Others n k peers = (q : ℕ) → is_some (peer_of peers q) ≡ true → (q < n) × (q ≢ k)

pub none_beyond : (n k : ℕ) (peers : List Peer) → Others n k peers → (q : ℕ) → n ≤ q → is_some (peer_of peers q) ≡ false
none_beyond n k peers o q l = go (is_some (peer_of peers q)) refl
  where
    go : (t : Bool) → is_some (peer_of peers q) ≡ t → is_some (peer_of peers q) ≡ false
    go true e = absurd (omega (arith, (o q e).0))
    go false e = e

-- what the ties use of a node at its place: "each with its place as number, this n", and whom it counts and asks
pub record Placed (n k : ℕ) (node : Node) : Type 0 where
  pub has_number : node.number ≡ k
  pub has_size : node.n ≡ n
  pub shaped : Shaped node
  pub counts_others : Others n k node.counted
  pub asks_others : Others n k node.asked

-- node k of a group of n = 2f + 1, at its place, and what the view g of x shows of it
pub record InView (f n x k : ℕ) (g : View) (node : Node) : Type 0 where
  pub size : n ≡ group_size f
  pub fits : n ≤ max_nodes
  pub x_below : x < n
  pub k_below : k < n
  pub placed : Placed n k node
  pub view : g.node k ≡ seen x node

-- a message at its addressee k, with the items beside it; what x sees of it was sent
pub record Arrived (n x k : ℕ) (g : View) (e : Envelope) (items : List Item) : Type 0 where
  pub to_k : e.addressee ≡ k
  pub sender_below : e.sender < n
  pub from_other : e.sender ≢ k
  pub items_length : length items ≡ max_nodes
  pub was_sent : Each (λ m. Sent m g) (seen_message x e items)

-- a valid group has 2f + 1 nodes, and a place for each
pub odd_size : (n : ℕ) → valid_size n ≡ true → n ≡ suc (half n + half n)
unfolding valid_size half
odd_size n e = let odd : n % 2 ≡ 1 = search (and_left, and_right, eqb-true) in omega arith

pub size_fits : (n : ℕ) → valid_size n ≡ true → n ≤ max_nodes
unfolding valid_size
size_fits n e = search (and_left, and_right, leb-true)

-- f of a group of 2f + 1
pub half_is : (n f : ℕ) → n ≡ group_size f → half n ≡ f
unfolding half
half_is n f e = omega arith

-- what a sound node's fields say
module _ (n k : ℕ) (node : Node) (e : sound_node n k node ≡ true) where
  pub number_is : node.number ≡ k
  unfolding sound_node
  number_is = search (and_left, eqb-true)

  pub size_is : node.n ≡ n
  unfolding sound_node
  size_is = search (and_left, and_right, eqb-true)
