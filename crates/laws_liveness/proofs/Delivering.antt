-- One delivery that acts: its answer, and table and store afterwards.
use Prim.Native.Nat.{ℕ, zero, suc, ◌+◌, ◌≤◌, ◌<◌}
use native.Mathlib.Omega.{arith}
use native.Mathlib.Nat.{zero-add}
use mathlib.Core.Path.{◌≡◌, sym, ap, subst, ◌∙◌}
use mathlib.Core.Logic.{◌≢◌}
use mathlib.Core.Bool.{true, false}
use mathlib.Core.List.{List, Memᴰ}
use lib.ListN.{length, get_or, set}
use lib.Seq.{get_or-set_same, get_or-set_other}
use borrow.Author.Tests.{lt-ltb, le-ltb}
use Rattle.store_laws.proofs.Sound.{store_sound}
use Rattle.item.specs.Maxima.{max_nodes}
use Rattle.record.specs.Layout.{rows_of}
use Rattle.message.specs.declared.Envelope.{Envelope}
use Rattle.store.specs.Change.{put_each, count_outgoing}
use Rattle.store.specs.Records.{records_of, record_in, joined}
use Rattle.store.specs.Sound.{free_count, message_in}
use Rattle.operations.specs.Claim.{TagFits}
use Rattle.protocol.specs.Deliver.{deliver_step}
use Rattle.operations.specs.Operation.{Result, sent_by, carried_out, delivered, on_sound}
use Rattle.protocol.specs.Answer.{is_refused}
use Rattle.protocol.specs.Node.{row_items}
use Rattle.protocol.specs.Outgoing.{outgoing, outgoing_from, outgoing_to, message_to, envelope_to}
use Rattle.message.specs.declared.Message.{Message}
use Rattle.protocol.specs.Sound.{sound_node}
use Rattle.protocol.specs.Table.{no_node, node_at}
use Rattle.protocol.proofs.TableLaws.{table_count}
use Rattle.protocol.specs.declared.Event.TheVariants as event
use Rattle.protocol.specs.declared.Node.{Node}
use Rattle.protocol.specs.declared.Sends.{Sends}
use Rattle.protocol.specs.declared.Step.{Step}
use Rattle.laws_runs.specs.Laws.{LeavesSound}
use Rattle.laws_runs.proofs.Keeps.{Decided, group_table, delivered_sound, group_store, all_for_group, records_are, deliver_decided, performed_is, performs}
use Rattle.laws_liveness.specs.Delivery.{deliver}
use Rattle.laws_liveness.proofs.Puts.{Puts, puts}
use Rattle.std.specs.Prelude.{Option, Some}

-- a place for each node number
from_has : (node : Node) (s : Sends) (back k count to : ℕ) → to < count → Memᴰ (outgoing_to node s back (k + to)) (outgoing_from node s back k count)
unfolding outgoing_from
from_has node s back k zero to h = absurd (omega arith)
from_has node s back k (suc count) zero h = let z : k + 0 ≡ k = omega arith in Memᴰ.head (ap (outgoing_to node s back) z)
from_has node s back k (suc count) (suc to) h =
    let z : suc k + to ≡ k + suc to = omega arith in
    Memᴰ.tail (subst (λ (i : ℕ). Memᴰ (outgoing_to node s back i) (outgoing_from node s back (suc k) count)) z (from_has node s back (suc k) count to (omega arith)))

out_has : (node : Node) (s : Sends) (back to : ℕ) → to < max_nodes → Memᴰ (outgoing_to node s back to) (outgoing node s back)
unfolding outgoing
out_has node s back to h = subst (λ (i : ℕ). Memᴰ (outgoing_to node s back i) (outgoing_from node s back 0 max_nodes)) (zero-add to) (from_has node s back 0 max_nodes to h)

-- and so the message to node `to`
pub out_sent : (node : Node) (s : Sends) (back to : ℕ) (m : Message) → node.n ≤ max_nodes → to < node.n → message_to s node back to ≡ Some m
    → Memᴰ (Some (envelope_to node to m)) (outgoing node s back)
unfolding outgoing_to
out_sent node s back to m most low e =
    subst (λ (o : Option Envelope). Memᴰ o (outgoing node s back)) (rw (lt-ltb to node.n low, e)) (out_has node s back to (omega arith))

-- a decision of node k carried out, which acts
pub record Acted (n : ℕ) (before : Result) (k back : ℕ) (step : Step) (after : Result) : Type 0 where
  pub answer_is : after.answer ≡ step.answer
  pub table_is : after.table ≡ set before.table k step.node
  pub group : LeavesSound n after
  pub mail : Puts (records_of before.store) (records_of after.store) (outgoing step.node step.sends back)

module _ (n : ℕ) (before : Result) (G : LeavesSound n before) (k back : ℕ) (step : Step) (D : Decided n before.table k back step)
    (taken : is_refused step.answer ≡ false) (room : count_outgoing (outgoing step.node step.sends back) ≤ free_count (records_of before.store)) where
  carried_is : carried_out before.table before.store (records_of before.store) k back step
      ≡ record {
        answer = step.answer;
        table = set before.table k step.node;
        store = joined (put_each (records_of before.store) (outgoing step.node step.sends back) (row_items step.node));
      }
  unfolding carried_out sent_by
  carried_is = rw (taken, le-ltb (free_count (records_of before.store)) (count_outgoing (outgoing step.node step.sends back)) room)

  pub carried_acted : (after : Result) → after ≡ carried_out before.table before.store (records_of before.store) k back step → LeavesSound n after
      → Acted n before k back step after
  carried_acted after z g =
      let e = z ∙ carried_is in
      record {
        answer_is = ap (λ (r : Result). r.answer) e;
        table_is = ap (λ (r : Result). r.table) e;
        group = g;
        mail = subst (λ (rs : List (List ℕ)). Puts (records_of before.store) rs (outgoing step.node step.sends back))
            (sym (ap (λ (r : Result). records_of r.store) e ∙ records_are n before.table before.store G k back step D))
            (puts (outgoing step.node step.sends back) (records_of before.store) (row_items step.node)
            (store_sound before.store (group_store n before.table before.store G)) (all_for_group n before.table before.store G k back step D) room);
      }

-- the delivery of the message in record r
module _ (n : ℕ) (before : Result) (G : LeavesSound n before) (r : ℕ) (e : Envelope) (h : message_in (records_of before.store) r ≡ Some e) where
  deliver_is : deliver before r ≡ carried_out before.table before.store (records_of before.store) e.addressee e.sender
      (deliver_step (node_at before.table e.addressee) e (rows_of (record_in (records_of before.store) r)))
  unfolding deliver on_sound delivered
  deliver_is =
      performed_is n before.table before.store G (event.Deliver r)
      ∙ ap (λ (m : Option Envelope). delivered m r before.table before.store (records_of before.store)) h

  pub delivery_acted : is_refused (deliver_step (node_at before.table e.addressee) e (rows_of (record_in (records_of before.store) r))).answer ≡ false
      → count_outgoing (outgoing (deliver_step (node_at before.table e.addressee) e (rows_of (record_in (records_of before.store) r))).node
      (deliver_step (node_at before.table e.addressee) e (rows_of (record_in (records_of before.store) r))).sends e.sender) ≤ free_count (records_of before.store)
      → Acted n before e.addressee e.sender (deliver_step (node_at before.table e.addressee) e (rows_of (record_in (records_of before.store) r))) (deliver before r)
  unfolding deliver TagFits
  delivery_acted taken room =
      carried_acted n before G e.addressee e.sender _ (deliver_decided n before.table before.store G r e h) taken room (deliver before r) deliver_is
      (performs n before.table before.store G (event.Deliver r) tt)

  -- the same, where the decision is known
  pub delivery_as : (s : Step) → deliver_step (node_at before.table e.addressee) e (rows_of (record_in (records_of before.store) r)) ≡ s
      → is_refused s.answer ≡ false → count_outgoing (outgoing s.node s.sends e.sender) ≤ free_count (records_of before.store)
      → Acted n before e.addressee e.sender s (deliver before r)
  delivery_as s z =
      subst (λ (s : Step). is_refused s.answer ≡ false → count_outgoing (outgoing s.node s.sends e.sender) ≤ free_count (records_of before.store)
      → Acted n before e.addressee e.sender s (deliver before r)) z delivery_acted

  pub sound_as : (s : Step) → deliver_step (node_at before.table e.addressee) e (rows_of (record_in (records_of before.store) r)) ≡ s
      → sound_node n e.addressee s.node ≡ true
  sound_as s z =
      subst (λ (s : Step). sound_node n e.addressee s.node ≡ true) z (delivered_sound n before.table before.store G r e h)

-- the table with one node replaced
module _ (n : ℕ) (before after : Result) (G : LeavesSound n before) (k : ℕ) (low : k < n) (node : Node) (z : after.table ≡ set before.table k node) where
  pub replaced : node_at after.table k ≡ node
  unfolding node_at
  replaced =
      let c : length before.table ≡ n = table_count n before.table (group_table n before.table before.store G) in
      ap (λ (t : List Node). get_or t k no_node) z ∙ get_or-set_same before.table k node no_node (omega arith)

  pub left_alone : (j : ℕ) → j ≢ k → node_at after.table j ≡ node_at before.table j
  unfolding node_at
  left_alone j d = ap (λ (t : List Node). get_or t j no_node) z ∙ get_or-set_other before.table k j node no_node d
