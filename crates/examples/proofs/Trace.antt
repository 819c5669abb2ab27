-- The calls of a drill without Drop, on the table and the messages sent alone: no bytes, no records. Each branch is that of the
-- operation (crate `operations`); that the operations answer the same is shown in `Followed`.
use Prim.Native.Nat.{ℕ}
use mathlib.Core.Bool.{Bool, true, false, cond, ◌&&◌}
use mathlib.Core.List.{List, [], ◌∷◌}
use lib.Dec.{ltb}
use lib.ListN.{set}
use Rattle.store.specs.Change.{count_outgoing}
use Rattle.protocol.specs.Answer.{is_refused}
use Rattle.protocol.specs.Deliver.{deliver_step}
use Rattle.protocol.specs.Network.{Packet}
use Rattle.protocol.specs.Node.{row_items}
use Rattle.protocol.specs.Outgoing.{outgoing}
use Rattle.protocol.specs.Table.{node_at, sound_table}
use Rattle.protocol.specs.Write.{write_step, retry_step, crash_step, start_step}
use Rattle.protocol.specs.declared.Answer.{Answer}
use Rattle.protocol.specs.declared.Answer.TheVariants.{Refused}
use Rattle.protocol.specs.declared.Event.{Event}
use Rattle.protocol.specs.declared.Event.TheVariants as event
use Rattle.protocol.specs.declared.Node.{Node}
use Rattle.protocol.specs.declared.Refusal.TheVariants.{Unsound, NoNode, NoRoom, NoMessage}
use Rattle.protocol.specs.declared.Step.{Step}
use Rattle.examples.specs.Said.{Said, said}
use Rattle.examples.proofs.Contents.{found, beside, free_after, packets_put, all_fit}
use Rattle.std.specs.Prelude.{None, Option, Some}
use Rattle.message.specs.declared.Envelope.{Envelope}

-- ---- one call

-- the answer of a call, table and messages after it, and whether what it put fits its records
pub record After : Type 0 where
  pub answer : Answer
  pub table : List Node
  pub sent : List Packet
  pub fit : Bool

-- what a decision sends
abbrev pub out : Step → ℕ → List (Option Envelope)
out step back = outgoing step.node step.sends back

module _ (n : ℕ) (table : List Node) (sent : List Packet) where
  -- nothing changes
  abbrev pub stays : Answer → After
  stays answer = record { answer = answer; table = table; sent = sent; fit = true }

  -- the decision of node k is carried out
  unfoldable pub after_step : ℕ → ℕ → Step → After
  after_step k back step =
      cond (is_refused step.answer) (stays step.answer)
      (cond (ltb (free_after sent) (count_outgoing (out step back))) (stays (Refused NoRoom))
      (record {
        answer = step.answer;
        table = set table k step.node;
        sent = packets_put n (out step back) (row_items step.node) sent;
        fit = all_fit n (out step back) (row_items step.node);
      }))

  unfoldable pub after_call : (Node → Step) → ℕ → After
  after_call decide k = cond (ltb k n) (after_step k k (decide (node_at table k))) (stays (Refused NoNode))

  unfoldable pub after_delivery : Option Envelope → ℕ → After
  after_delivery None r = stays (Refused NoMessage)
  after_delivery (Some e) r = after_step e.addressee e.sender (deliver_step (node_at table e.addressee) e (beside sent r))

  -- a Drop is not followed
  unfoldable pub after_event : Event → After
  after_event (event.Write k tag) = after_call (λ node. write_step node tag) k
  after_event (event.Retry k) = after_call retry_step k
  after_event (event.Crash k) = after_call crash_step k
  after_event (event.Start k) = after_call start_step k
  after_event (event.Drop r) = record { answer = Refused NoMessage; table = table; sent = sent; fit = false }
  after_event (event.Deliver r) = after_delivery (found sent r) r

  unfoldable pub after : Event → After
  after e = cond (sound_table n table) (after_event e) (stays (Refused Unsound))

-- ---- some calls

-- their answers, and whether all that they put fits
pub record Trace : Type 0 where
  pub fit : Bool
  pub says : List Said

-- all fits, and this is said
abbrev pub saying : List Said → Trace
saying l = record { fit = true; says = l }

unfoldable pub trace : ℕ → List Node → List Packet → List Event → Trace
trace n table sent [] = saying []
trace n table sent (e ∷ es) =
    let a = after n table sent e in
    let t = trace n a.table a.sent es in
    record { fit = a.fit && t.fit; says = said a.answer ∷ t.says }
