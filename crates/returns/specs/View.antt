-- The group as one fixed node x sees it, x being the writer whose items the claim is about. Of each node the view keeps
-- what bears on row x, the row that holds x's item; of the messages those that bear on it. Counters are plain numbers. The
-- view of a real node is a projection of its fields, the same for x and for every other node: attempt, stage, counted and
-- asked are kept of all nodes, though of a node other than x only `counted`, and only while it is Fetching, is ever used. So
-- no lemma that ties a definition to the view need tell x from another node to say what the view is.
use Rattle.std.specs.Prelude.{ℕ, Bool, true, false}
use mathlib.Core.List.{List, ◌++◌, Memᴰ}
use Rattle.item.specs.declared.Item.{Item}
use Rattle.returns.specs.Replace.{replaced}

pub data ViewPhase : Type 0 where
  down fetching returning up : ViewPhase

-- a node that is Down or Fetching is idle
pub data ViewStage : Type 0 where
  idle storing confirming : ViewStage

pub record ViewNode : Type 0 where
  pub incarnation : ℕ
  pub phase : ViewPhase
  pub stage : ViewStage
  pub attempt : ℕ
  -- row x: its item and, while Fetching, whether its greatest index has come with two tags
  pub item : Item
  pub marked : Bool
  -- the peers counted in the present stage (while Fetching: those whose table is counted), each under its incarnation
  pub counted : ℕ → Bool
  pub counted_under : ℕ → ℕ
  -- the peers asked to confirm, each under the incarnation in which it stored
  pub asked : ℕ → Bool
  pub asked_under : ℕ → ℕ

-- The messages that bear on row x: Store and Confirm from x, Stored and Confirmed to x, and Fetch and Table between any two
-- nodes, of a Table only its row x. `incarnation` is the sender's, `other` the other incarnation of document 01.
pub data ViewMessage : Type 0 where
  store_to : (to incarnation attempt : ℕ) → Item → ViewMessage
  stored_by : (from incarnation other attempt : ℕ) → Item → ViewMessage
  confirm_to : (to incarnation other attempt : ℕ) → Item → ViewMessage
  confirmed_by : (from incarnation other attempt : ℕ) → Item → ViewMessage
  fetch_from : (from to incarnation : ℕ) → ViewMessage
  table_from : (from to other : ℕ) → Item → ViewMessage

-- The messages are all that were ever sent: a dropped one only makes fewer deliveries possible.
pub record View : Type 0 where
  pub node : ℕ → ViewNode
  pub sent : List ViewMessage

-- a live node, Returning or Up, has a row x that stands for all it knows
abbrev pub live : ViewPhase → Bool
live down = false
live fetching = false
live returning = true
live up = true

-- the view after node p has become v and the messages ms were sent
abbrev pub put : View → ℕ → ViewNode → List ViewMessage → View
put g p v ms = record { node = replaced g.node p v; sent = ms ++ g.sent }

abbrev pub Sent : ViewMessage → View → Type 0
Sent m g = Memᴰ m g.sent

-- P holds of every message of a list
abbrev pub Each : (ViewMessage → Type 0) → List ViewMessage → Type 0
Each P l = (m : ViewMessage) → Memᴰ m l → P m
