-- What the calls of a run tell of a node's own item: laws of the nodes of a network, and of runs over table and store alike.
use Rattle.std.specs.Prelude.{ℕ, suc, ◌≤◌, ◌<◌, ◌≡◌, true, false, cond, List, [], ◌∷◌, ◌++◌, eqb}
use Rattle.item.specs.Item.{zero_item, item_above}
use Rattle.item.specs.declared.Item.{Item}
use Rattle.operations.specs.Claim.{TagsFit}
use Rattle.operations.specs.Operation.{set_up}
use Rattle.operations.specs.Run.{calls, left}
use Rattle.protocol.specs.Call.{Call, is_to, is_ok, last_after, last_item}
use Rattle.protocol.specs.Claim.{OfNetworkRuns}
use Rattle.protocol.specs.Node.{own_item}
use Rattle.protocol.specs.Phase.{is_up, is_up_idle}
use Rattle.protocol.specs.Table.{node_at}
use Rattle.protocol.specs.declared.Answer.{Answer}
use Rattle.protocol.specs.declared.Answer.TheVariants as answer
use Rattle.protocol.specs.declared.Event.{Event}
use Rattle.protocol.specs.declared.Event.TheVariants as event
use Rattle.protocol.specs.declared.Node.{Node}

-- what is true of every run over table and store: of its calls and of the nodes that it leaves
unfoldable pub OfRuns : (ℕ → List Call → List Node → Type 0) → Type 0
OfRuns P =
    (n : ℕ) (table : List Node) (store : List ℕ) → (set_up n table store).answer ≡ answer.Ok →
    (events : List Event) → TagsFit events →
    P n (calls (set_up n table store).table (set_up n table store).store events) (left (set_up n table store) events).table

-- of every run of a network, and of every run over table and store
unfoldable pub OfAllRuns : (ℕ → List Call → List Node → Type 0) → Type 0
OfAllRuns P = OfNetworkRuns (λ n calls net. P n calls net.nodes) × OfRuns P

-- ---- the own item

-- Up and Idle a node has its last item as its own; Up and writing, an item of the index one above
pub record OwnStands (x : ℕ) (calls : List Call) (node : Node) : Type 0 where
  pub when_idle : is_up_idle node.phase ≡ true → own_item node ≡ last_item x calls
  pub when_writing : is_up node.phase ≡ true → is_up_idle node.phase ≡ false → (own_item node).index.0 ≡ suc (last_item x calls).index.0

unfoldable pub OwnAlong : Type 0
OwnAlong = OfAllRuns (λ n calls nodes. (x : ℕ) → x < n → OwnStands x calls (node_at nodes x))

-- ---- the last item

-- the index of a node's last item never falls
unfoldable pub LastNeverFalls : Type 0
LastNeverFalls =
    OfAllRuns (λ n calls nodes.
    (before after : List Call) → calls ≡ before ++ after → (x : ℕ) → x < n → (last_item x before).index.0 ≤ (last_item x calls).index.0)

-- ---- what is settled

-- an event at which node x, whose last item is `last`, begins an item, or loses by a Crash what it had begun
unfoldable pub written_by : ℕ → Event → Answer → Item → List Item → List Item
written_by x (event.Write k tag) answer last item = cond (is_ok answer) (cond (eqb k x) (item_above last tag ∷ []) item) item
written_by x (event.Retry k) answer last item = item
written_by x (event.Crash k) answer last item = cond (is_ok answer) (cond (eqb k x) [] item) item
written_by x (event.Start k) answer last item = item
written_by x (event.Drop r) answer last item = item
written_by x (event.Deliver r) answer last item = item

unfoldable pub written_from : ℕ → Item → List Item → List Call → List Item
written_from x last item [] = item
written_from x last item (call ∷ after) =
    written_from x (last_after x call last) (written_by x call.event call.answer last item) after

-- the item that node x began by its last Write that was answered "ok", if it has not crashed since
unfoldable pub written : ℕ → List Call → List Item
written x before = written_from x zero_item [] before

-- a "settled" names the item of the node's last Write that was answered "ok", with no Crash between
unfoldable pub SettledWasWritten : Type 0
SettledWasWritten =
    OfAllRuns (λ n calls nodes.
    (before : List Call) (call : Call) (after : List Call) → calls ≡ before ++ (call ∷ after) →
    (x : ℕ) (item : Item) → call.answer ≡ answer.Settled item → is_to x call.message ≡ true → written x before ≡ item ∷ [])
