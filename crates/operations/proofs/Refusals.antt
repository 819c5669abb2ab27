-- Demand 1: a refused call changes nothing, and its number is listed. A refusal is made by `refuse`, or by a decision, which
-- leaves all as it was; what is not refused bears no refusal.
use Prim.Native.Nat.{ℕ, zero, suc}
use native.Mathlib.Omega.{arith}
use mathlib.Core.Path.{◌≡◌, refl, sym, ap, subst, ◌∙◌}
use mathlib.Core.Bool.{true, false, ◌&&◌, false≢true}
use mathlib.Core.List.{List, [], ◌∷◌, Memᴰ}
use lib.Dec.{ltb, eqb}
use lib.ListN.{length}
use borrow.Author.Tests.{ltb-true}
use Rattle.item.specs.Maxima.{max_nodes, valid_size}
use Rattle.item.proofs.Tests.{by_cond}
use Rattle.record.specs.Layout.{rows_of}
use Rattle.store.specs.Records.{right_length, records_of, record_in}
use Rattle.store.specs.Head.{group_size}
use Rattle.store.specs.Sound.{sound_records, free_count, message_in}
use Rattle.store.specs.Change.{count_outgoing}
use Rattle.protocol.specs.Answer.{ok, refused, refusal_number, is_refused}
use Rattle.protocol.specs.Deliver.{on_message, deliver_step}
use Rattle.operations.specs.Operation.{Result, set_up, perform, refuse, sent_by, carried_out, at_node, dropped, delivered, on_sound, on_records}
use Rattle.protocol.specs.Outgoing.{message_to, outgoing_to, outgoing_from, outgoing}
use Rattle.message.proofs.Counted.{count_none}
use Rattle.protocol.specs.Phase.{is_down}
use Rattle.operations.specs.Refusal.{set_up_refusals, refusals_of, IfRefused, RefusalsChangeNothing}
use Rattle.protocol.specs.Table.{node_at, sound_table}
use Rattle.protocol.specs.Write.{write_step, retry_step, crash_step, start_step}
use Rattle.protocol.specs.declared.Event.{Event}
use Rattle.protocol.specs.declared.Event.TheVariants as event
use Rattle.protocol.specs.declared.Node.{Node}
use Rattle.protocol.specs.declared.Refusal.{Refusal}
use Rattle.protocol.specs.declared.Refusal.TheVariants.{GroupSize, StoreLength, Unsound, NoNode, NoRoom, NoMessage}
use Rattle.protocol.specs.declared.Sends.TheVariants as sends
use Rattle.protocol.specs.declared.Step.{Step}
use Rattle.protocol.proofs.Deciding.{found, RefusesBy, of_node, of_message, on_message_refuses, wider, write_refuses, retry_refuses, start_refuses, crash_refuses}
use Rattle.std.specs.Prelude.{None, Option, Some}
use Rattle.message.specs.declared.Envelope.{Envelope}

-- ---- operations

module _ (numbers : List ℕ) (table : List Node) (store : List ℕ) where
  by_refuse : (why : Refusal) → Memᴰ (refusal_number why) numbers → IfRefused numbers table store (refuse why table store)
  unfolding refuse IfRefused
  by_refuse why h why' e =
      let d : why ≡ why' = cc in
      record { same_table = refl; same_store = refl; is_listed = subst (λ (w : Refusal). Memᴰ (refusal_number w) numbers) d h }

  -- a result that is no refusal
  by_answer : (r : Result) → is_refused r.answer ≡ false → IfRefused numbers table store r
  unfolding IfRefused
  by_answer r h why e = absurd (false≢true (sym h ∙ ap is_refused e))

  -- a decision carried out, where 7 is listed or nothing is sent
  carried_refused : (rs : List (List ℕ)) (k back : ℕ) (step : Step) → RefusesBy numbers step
      → (ltb (free_count rs) (count_outgoing (outgoing step.node step.sends back)) ≡ true → Memᴰ 7 numbers)
      → IfRefused numbers table store (carried_out table store rs k back step)
  unfolding carried_out sent_by IfRefused
  carried_refused rs k back step h room =
      by_cond (IfRefused numbers table store) (is_refused step.answer) _ _
      (λ _ why e. record { same_table = refl; same_store = refl; is_listed = h why e })
      (λ z. by_cond (IfRefused numbers table store) (ltb (free_count rs) (count_outgoing (outgoing step.node step.sends back))) _ _
      (λ t. by_refuse NoRoom (room t)) (λ _. by_answer _ z))

  at_node_refused : (decide : Node → Step) (k : ℕ) (rs : List (List ℕ)) → Memᴰ 4 numbers → RefusesBy numbers (decide (node_at table k))
      → (ltb (free_count rs) (count_outgoing (outgoing (decide (node_at table k)).node (decide (node_at table k)).sends k)) ≡ true → Memᴰ 7 numbers)
      → IfRefused numbers table store (at_node decide k table store rs)
  unfolding at_node
  at_node_refused decide k rs four h room =
      by_cond (IfRefused numbers table store) (ltb k (group_size rs)) _ _
      (λ _. carried_refused rs k k (decide (node_at table k)) h room)
      (λ _. by_refuse NoNode four)

-- ---- Crash sends nothing, so that it needs no free record

none_to : (node : Node) (back k : ℕ) → outgoing_to node sends.Nothing back k ≡ None
unfolding outgoing_to message_to
none_to node back k = by_cond (λ (o : Option Envelope). o ≡ None) (ltb k node.n) _ _ (λ _. refl) (λ _. refl)

none_sent : (node : Node) (back k count : ℕ) → count_outgoing (outgoing_from node sends.Nothing back k count) ≡ 0
unfolding outgoing_from count_outgoing
none_sent node back k zero = refl
none_sent node back k (suc count) =
    rw (none_to node back k) (count_none (outgoing_from node sends.Nothing back (suc k) count) ∙ none_sent node back (suc k) count)

crash_sends : (node : Node) → (crash_step node).sends ≡ sends.Nothing
unfolding crash_step refused ok
crash_sends node =
    by_cond (λ (s : Step). s.sends ≡ sends.Nothing) (is_down node.phase) _ _ (λ _. refl) (λ _. refl)

crash_room : (rs : List (List ℕ)) (node : Node) (back : ℕ) (P : Type 0)
    → ltb (free_count rs) (count_outgoing (outgoing (crash_step node).node (crash_step node).sends back)) ≡ true → P
unfolding outgoing
crash_room rs node back P e =
    absurd (omega (arith, ltb-true (free_count rs) 0 (rw (crash_sends node, none_sent (crash_step node).node back 0 max_nodes) at e)))

-- ---- every event

module _ (table : List Node) (store : List ℕ) (rs : List (List ℕ)) where
  dropped_refused : (r : ℕ) (m : Option Envelope) → IfRefused (refusals_of (event.Drop r)) table store (dropped m r table store rs)
  unfolding dropped refusals_of
  dropped_refused r None = by_refuse _ table store NoMessage (found _ _ refl)
  dropped_refused r (Some e) = by_answer _ table store _ refl

  delivered_refused : (r : ℕ) (m : Option Envelope) → IfRefused (refusals_of (event.Deliver r)) table store (delivered m r table store rs)
  unfolding delivered deliver_step refusals_of
  delivered_refused r None = by_refuse _ table store NoMessage (found _ _ refl)
  delivered_refused r (Some e) =
      let step : Step = on_message e.message (node_at table e.addressee) e.sender e.incarnation (rows_of (record_in rs r)) in
      carried_refused _ table store rs e.addressee e.sender step
      (wider of_message _ refl step (on_message_refuses e.message (node_at table e.addressee) e.sender e.incarnation (rows_of (record_in rs r))))
      (λ _. found _ _ refl)

  on_sound_refused : (e : Event) → IfRefused (refusals_of e) table store (on_sound e table store rs)
  unfolding on_sound refusals_of
  on_sound_refused (event.Write k tag) =
      let step : Step = write_step (node_at table k) tag in
      at_node_refused _ table store (λ node. write_step node tag) k rs (found _ _ refl)
      (wider of_node _ refl step (write_refuses (node_at table k) tag)) (λ _. found _ _ refl)
  on_sound_refused (event.Retry k) =
      let step : Step = retry_step (node_at table k) in
      at_node_refused _ table store retry_step k rs (found _ _ refl)
      (wider of_node _ refl step (retry_refuses (node_at table k))) (λ _. found _ _ refl)
  on_sound_refused (event.Crash k) =
      let step : Step = crash_step (node_at table k) in
      at_node_refused _ table store crash_step k rs (found _ _ refl)
      (wider (5 ∷ []) _ refl step (crash_refuses (node_at table k))) (crash_room rs (node_at table k) k _)
  on_sound_refused (event.Start k) =
      let step : Step = start_step (node_at table k) in
      at_node_refused _ table store start_step k rs (found _ _ refl)
      (wider of_node _ refl step (start_refuses (node_at table k))) (λ _. found _ _ refl)
  on_sound_refused (event.Drop r) = dropped_refused r (message_in rs r)
  on_sound_refused (event.Deliver r) = delivered_refused r (message_in rs r)

-- 2 and 3 are listed for every event
two_three : (e : Event) → Memᴰ 2 (refusals_of e) × Memᴰ 3 (refusals_of e)
unfolding refusals_of
two_three (event.Write k tag) = (found _ _ refl, found _ _ refl)
two_three (event.Retry k) = (found _ _ refl, found _ _ refl)
two_three (event.Crash k) = (found _ _ refl, found _ _ refl)
two_three (event.Start k) = (found _ _ refl, found _ _ refl)
two_three (event.Drop r) = (found _ _ refl, found _ _ refl)
two_three (event.Deliver r) = (found _ _ refl, found _ _ refl)

perform_refused : (e : Event) (table : List Node) (store : List ℕ) → IfRefused (refusals_of e) table store (perform e table store)
unfolding perform on_records
perform_refused e table store =
    by_cond (IfRefused (refusals_of e) table store) (right_length store) _ _
    (λ _. by_cond (IfRefused (refusals_of e) table store) (sound_records (records_of store) && sound_table (group_size (records_of store)) table) _ _
    (λ _. on_sound_refused table store (records_of store) e)
    (λ _. by_refuse (refusals_of e) table store Unsound (two_three e).1))
    (λ _. by_refuse (refusals_of e) table store StoreLength (two_three e).0)

set_up_refused : (n : ℕ) (table : List Node) (store : List ℕ) → IfRefused set_up_refusals table store (set_up n table store)
unfolding set_up set_up_refusals
set_up_refused n table store =
    by_cond (IfRefused set_up_refusals table store) (valid_size n && eqb (length table) n) _ _
    (λ _. by_cond (IfRefused set_up_refusals table store) (right_length store) _ _
    (λ _. by_answer set_up_refusals table store _ refl)
    (λ _. by_refuse set_up_refusals table store StoreLength (found _ _ refl)))
    (λ _. by_refuse set_up_refusals table store GroupSize (found _ _ refl))

pub refusals_change_nothing : RefusalsChangeNothing
unfolding RefusalsChangeNothing
refusals_change_nothing = (set_up_refused, perform_refused)
