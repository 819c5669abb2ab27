-- Every run over table and store is a run of the network (crate `protocol`), told by the same calls. So what is true of the
-- calls of all network runs, and of the nodes that they leave, is true of runs over table and store.
use Rattle.std.specs.Prelude.{ℕ, ◌≡◌, Some}
use mathlib.Core.List.{List, Memᴰ}
use Rattle.message.specs.declared.Envelope.{Envelope}
use Rattle.record.specs.Layout.{rows_of}
use Rattle.store.specs.Records.{records_of, record_in}
use Rattle.store.specs.Sound.{message_in}
use Rattle.operations.specs.Claim.{TagsFit}
use Rattle.operations.specs.Operation.{Result, set_up}
use Rattle.operations.specs.Run.{calls, left}
use Rattle.protocol.specs.Call.{Call}
use Rattle.protocol.specs.Network.{Network, Run, fresh_network}
use Rattle.protocol.specs.declared.Answer.TheVariants as answer
use Rattle.protocol.specs.declared.Event.{Event}
use Rattle.protocol.specs.declared.Node.{Node}

-- these calls are those of a run of the network, which leaves the nodes of the table; every message in the store was sent in it
pub record NetworkRun (n : ℕ) (calls : List Call) (result : Result) : Type 0 where
  pub net : Network
  pub run : Run (fresh_network n) calls net
  pub same_nodes : net.nodes ≡ result.table
  pub all_sent : (r : ℕ) (e : Envelope) → message_in (records_of result.store) r ≡ Some e
      → Memᴰ (record { envelope = e; rows = rows_of (record_in (records_of result.store) r) }) net.sent

-- for every set-up that was accepted and every list of events after it
unfoldable pub RunsAreNetworkRuns : Type 0
RunsAreNetworkRuns =
    (n : ℕ) (table : List Node) (store : List ℕ) → (set_up n table store).answer ≡ answer.Ok →
    (events : List Event) → TagsFit events →
    NetworkRun n (calls (set_up n table store).table (set_up n table store).store events) (left (set_up n table store) events)
