-- The words of demand 3 (document 01, Runs and returns) on a list of calls, and the claim for every run of a network.
use Rattle.std.specs.Prelude.{ℕ, suc, ◌≡◌, ◌⊎◌, true}
use mathlib.Core.List.{List, ◌∷◌, ◌++◌, Memᴰ}
use Rattle.item.specs.Maxima.{valid_size}
use Rattle.item.specs.declared.Item.{Item}
use Rattle.protocol.specs.Call.{Call, is_to, last_item, begun}
use Rattle.protocol.specs.Network.{Network, Run, fresh_network}
use Rattle.protocol.specs.declared.Answer.TheVariants as answer

-- "A node returns where the answer is "accepted""
pub record ReturnsWith (x : ℕ) (item : Item) (call : Call) : Type 0 where
  pub accepted : call.answer ≡ answer.Accepted item
  pub at_x : is_to x call.message ≡ true

-- "the item named is then its last item just before that call, or an item of the index one above, begun by that node
-- earlier in the list"
unfoldable pub AsItLastStood : ℕ → Item → List Call → Type 0
AsItLastStood x item before =
    (item ≡ last_item x before) ⊎
    ((item.index.0 ≡ suc (last_item x before).index.0) × Memᴰ item (begun x before))

-- at every call of a list where a node returns
unfoldable pub ReturnsAsItStood : List Call → Type 0
ReturnsAsItStood calls =
    (before : List Call) (call : Call) (after : List Call) → calls ≡ before ++ (call ∷ after) →
    (x : ℕ) (item : Item) → ReturnsWith x item call → AsItLastStood x item before

-- what is true of every run of a network from fresh nodes, "for any valid n": of its calls and of the network that they leave
unfoldable pub OfNetworkRuns : (ℕ → List Call → Network → Type 0) → Type 0
OfNetworkRuns P = (n : ℕ) → valid_size n ≡ true → (calls : List Call) (left : Network) → Run (fresh_network n) calls left → P n calls left

-- Demand 3 of the nodes of a network
unfoldable pub EveryNetworkReturn : Type 0
EveryNetworkReturn = OfNetworkRuns (λ n calls left. ReturnsAsItStood calls)
