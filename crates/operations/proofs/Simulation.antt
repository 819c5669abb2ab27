-- Every list of calls over table and store is a run of the network, call by call. So what is true of the calls of all network
-- runs and of the nodes that they leave is true of it: `of-every-run`, by which demand 3 is carried over.
use Prim.Native.Nat.{ℕ, ◌≤◌}
use mathlib.Core.Path.{◌≡◌, refl, subst}
use mathlib.Core.List.{List, [], ◌∷◌, Memᴰ}
use Rattle.item.specs.Maxima.{max_nodes}
use Rattle.message.specs.declared.Envelope.{Envelope}
use Rattle.record.specs.Layout.{rows_of}
use Rattle.record.specs.Record.{read_record}
use Rattle.store.specs.Records.{records_of, record_in}
use Rattle.store.specs.Sound.{message_in}
use Rattle.operations.specs.Claim.{TagsFit, EveryReturn}
use Rattle.operations.specs.Operation.{Result, set_up, perform}
use Rattle.operations.specs.Run.{call_of, calls, delivered_by, left}
use Rattle.operations.specs.Simulation.{NetworkRun, RunsAreNetworkRuns}
use Rattle.protocol.specs.Call.{Call}
use Rattle.protocol.specs.Claim.{ReturnsAsItStood, OfNetworkRuns, EveryNetworkReturn}
use Rattle.protocol.specs.Network.{Packet, Network, Run, end, then, fresh_network}
use Rattle.protocol.specs.Table.{fresh_table}
use Rattle.protocol.specs.declared.Answer.TheVariants as answer
use Rattle.protocol.specs.declared.Event.{Event}
use Rattle.protocol.specs.declared.Node.{Node}
use Rattle.protocol.proofs.Grouped.{Grouped, grouped_next, set_up_grouped}
use Rattle.protocol.proofs.InView.{size_fits}
use Rattle.protocol.proofs.NetworkReturns.{every_network_return}
use Rattle.operations.proofs.Inbox.{message_read}
use Rattle.operations.proofs.Performed.{performed}
use Rattle.operations.proofs.Represents.{Represents, Simulated, network_of}
use Rattle.operations.proofs.Start.{SetUpTo, set_up_is, first_represents}
use Rattle.std.specs.Prelude.{Some}

-- the calls from a table and store that represent a network, and what they leave
record RunFrom (n : ℕ) (net : Network) (calls : List Call) (result : Result) : Type 0 where
  sent : List Packet
  run : Run net calls (network_of result.table sent)
  represents : Represents n result.table result.store sent

run_from : (n : ℕ) → n ≤ max_nodes → (events : List Event) → TagsFit events → (result : Result) (sent : List Packet)
    → Grouped n (network_of result.table sent) → Represents n result.table result.store sent
    → RunFrom n (network_of result.table sent) (calls result.table result.store events) (left result events)
unfolding calls call_of TagsFit left
run_from n fits [] t result sent G S = record { sent = sent; run = end; represents = S }
run_from n fits (e ∷ events) t result sent G S =
    let D : Simulated n result.table sent e (delivered_by e result.store) (perform e result.table result.store) =
    performed n fits result.table result.store sent G S e t.0 in
    let R =
    run_from n fits events t.1 (perform e result.table result.store) D.sent_after
    (grouped_next n (network_of result.table sent) G D.next) D.represents in
    record { sent = R.sent; run = then D.next R.run; represents = R.represents }

-- a message in the store was sent
in_store : (n : ℕ) (table : List Node) (store : List ℕ) (sent : List Packet) → Represents n table store sent → (r : ℕ) (e : Envelope)
    → message_in (records_of store) r ≡ Some e → Memᴰ (record { envelope = e; rows = rows_of (record_in (records_of store) r) }) sent
in_store n table store sent S r e h =
    let M = message_read (records_of store) r e h in
    (S.all_sent r M.0 e (subst (λ (i : ℕ). read_record i (record_in (records_of store) r) ≡ Some e) S.store_of.size M.1)).was_sent

-- what such a run leaves
leaves : (n : ℕ) (calls : List Call) (result : Result) → RunFrom n (network_of (fresh_table n) []) calls result → NetworkRun n calls result
unfolding fresh_network
leaves n calls result R =
    record {
      net = network_of result.table R.sent;
      run = R.run;
      same_nodes = refl;
      all_sent = in_store n result.table result.store R.sent R.represents;
    }

pub runs_are_network_runs : RunsAreNetworkRuns
unfolding RunsAreNetworkRuns fresh_network
runs_are_network_runs n table store ok events t =
    let U : SetUpTo n (set_up n table store) = set_up_is n table store ok in
    leaves n _ _ (from_set_up (set_up n table store) U)
  where
    from_set_up : (result : Result) → SetUpTo n result
        → RunFrom n (network_of (fresh_table n) []) (calls result.table result.store events) (left result events)
    from_set_up result U =
        subst (λ (nodes : List Node). RunFrom n (network_of nodes []) (calls result.table result.store events) (left result events)) U.table_is
        (run_from n (size_fits n U.valid) events t result [] (rw U.table_is (set_up_grouped n)) (rw (U.table_is, U.store_is) (first_represents n)))

-- What is true of every network run, of its calls and the nodes that it leaves, is true of every run over table and store.
pub of_every_run : (P : ℕ → List Call → List Node → Type 0) → OfNetworkRuns (λ n calls net. P n calls net.nodes) →
    (n : ℕ) (table : List Node) (store : List ℕ) → (set_up n table store).answer ≡ answer.Ok → (events : List Event) → TagsFit events
    → P n (calls (set_up n table store).table (set_up n table store).store events) (left (set_up n table store) events).table
unfolding OfNetworkRuns RunsAreNetworkRuns
of_every_run P holds n table store ok events t =
    let R : NetworkRun n (calls (set_up n table store).table (set_up n table store).store events) (left (set_up n table store) events) =
    runs_are_network_runs n table store ok events t in
    subst (P n _) R.same_nodes (holds n (set_up_is n table store ok).valid _ R.net R.run)

pub every_return : EveryReturn
unfolding EveryReturn EveryNetworkReturn ReturnsAsItStood
every_return = of_every_run (λ n calls nodes. ReturnsAsItStood calls) every_network_return
