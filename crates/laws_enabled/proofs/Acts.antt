-- The laws: an event on a sound table and store acts exactly when the test of `Acting` says so.
use Prim.Native.Nat.{ℕ, ◌≤◌, ◌<◌}
use native.Mathlib.Omega.{arith}
use mathlib.Core.Path.{◌≡◌, refl, sym, ap, ◌∙◌}
use mathlib.Core.Bool.{Bool, true, false, not, ◌&&◌}
use mathlib.Core.List.{List}
use lib.Dec.{eqb, ltb}
use lib.ListN.{length}
use borrow.Author.Tests.{ltb-true, ltb-false, lt-ltb, le-ltb}
use Rattle.store_laws.specs.Lists.{inbox_list, times_on}
use Rattle.store_laws.proofs.Message.{MessageTo, inbox_message, message_inbox}
use Rattle.store_laws.proofs.Times.{stands_on, stands_where}
use Rattle.endian.proofs.PartLaws.{by_order}
use Rattle.item.specs.Maxima.{max_nodes, valid_size}
use Rattle.item.proofs.Tests.{by_cond}
use Rattle.record.specs.Layout.{rows_of}
use Rattle.message.specs.declared.Envelope.{Envelope}
use Rattle.store.specs.Head.{group_size}
use Rattle.store.specs.Records.{right_length, records_of, record_in}
use Rattle.store.specs.Sound.{message_in}
use Rattle.protocol.specs.Deliver.{deliver_step}
use Rattle.operations.specs.Operation.{Result, refuse, carried_out, at_node, dropped, delivered, on_sound, set_up}
use Rattle.protocol.specs.Answer.{is_refused}
use Rattle.protocol.specs.Table.{node_at}
use Rattle.protocol.specs.Write.{write_step, retry_step, crash_step, start_step}
use Rattle.protocol.specs.declared.Event.TheVariants as event
use Rattle.protocol.specs.declared.Node.{Node}
use Rattle.protocol.specs.declared.Step.{Step}
use Rattle.operations.proofs.Inbox.{no_fault}
use Rattle.protocol.proofs.InView.{size_fits}
use Rattle.protocol.proofs.Shapes.{deliver_shaped}
use Rattle.laws_node.specs.Decision.{Write, Retry, Start, decide, MayCome}
use Rattle.laws_node.specs.Laws.{SoundStaysSound}
use Rattle.laws_node.proofs.Sound.{sound_stays_sound}
use Rattle.laws_runs.specs.Laws.{SoundGroup}
use Rattle.laws_runs.proofs.Keeps.{group_records, group_valid, stands, addressed, delivered_sound, performed_is}
use Rattle.laws_enabled.specs.Acting.{acted, may_write, may_retry, may_crash, may_start, on_inbox, is_taken, may_deliver}
use Rattle.laws_enabled.specs.Laws.{SetUpActs, WriteActs, RetryActs, CrashActs, StartActs, DropActs, DeliverActs}
use Rattle.laws_enabled.proofs.Calls.{write_node, retry_node, crash_node, start_node}
use Rattle.laws_enabled.proofs.Deliveries.{message_node}
use Rattle.std.specs.Prelude.{None, Option, Some}

pub set_up_acts : SetUpActs
unfolding SetUpActs set_up refuse acted
set_up_acts n table store =
    by_cond Test (valid_size n && eqb (length table) n) _ _
    (λ v. by_cond Test (right_length store) _ _ (λ l. rw (v, l)) (λ l. rw (v, l)))
    (λ v. rw v)
  where
    Test : Result → Type 0
    Test r = not (is_refused r.answer) ≡ ((valid_size n && eqb (length table) n) && right_length store)

module _ (n : ℕ) (table : List Node) (store : List ℕ) (G : SoundGroup n table store) where
  most : n ≤ max_nodes
  most = size_fits n (group_valid n table store G)

  -- an event at node k
  at_node_lem : (f : Node → Step) (k : ℕ) (test : Bool)
      → (k < n → acted (carried_out table store (records_of store) k k (f (node_at table k))) ≡ test)
      → acted (at_node f k table store (records_of store)) ≡ (ltb k n && test)
  unfolding at_node refuse acted
  at_node_lem f k test h =
      by_cond (λ (r : Result). acted r ≡ (ltb k n && test)) (ltb k (group_size (records_of store))) _ _
      (λ e.
      let low : k < n = omega (arith, ltb-true k (group_size (records_of store)) e, G.size) in
      rw (lt-ltb k n low) (h low))
      (λ e. rw (le-ltb k n (omega (arith, ltb-false k (group_size (records_of store)) e, G.size))))

  -- ---- a record on an inbox

  found_on : (r : ℕ) (e : Envelope) → message_in (records_of store) r ≡ Some e → on_inbox n r (records_of store) ≡ true
  unfolding on_inbox
  found_on r e h =
      let w = message_inbox (records_of store) (group_records n table store G) r e h in
      let low : e.addressee < n = omega (arith, w.0, G.size) in
      lt-ltb 0 (times_on r n (inbox_list (records_of store)) 0) (omega (arith, w.1, stands_on r n (inbox_list (records_of store)) 0 e.addressee (omega arith) (omega arith)))

  fault_off : (r : ℕ) → message_in (records_of store) r ≡ None → on_inbox n r (records_of store) ≡ false
  unfolding on_inbox
  fault_off r h =
      by_order 1 (times_on r n (inbox_list (records_of store)) 0)
      (λ some.
      let w = stands_where r n (inbox_list (records_of store)) 0 some in
      let m : MessageTo (group_size (records_of store)) w.0 (message_in (records_of store) r)
      = inbox_message (records_of store) (group_records n table store G) w.0 (omega (arith, w.1, G.size)) r w.2 in
      absurd (no_fault m.envelope _ m.found h))
      (λ none. le-ltb 0 (times_on r n (inbox_list (records_of store)) 0) (omega arith))

  drops : (r : ℕ) (m : Option Envelope) → message_in (records_of store) r ≡ m
      → acted (dropped m r table store (records_of store)) ≡ on_inbox n r (records_of store)
  unfolding dropped refuse acted
  drops r None h = sym (fault_off r h)
  drops r (Some e) h = sym (found_on r e h)

  delivers : (r : ℕ) (m : Option Envelope) → message_in (records_of store) r ≡ m
      → acted (delivered m r table store (records_of store))
      ≡ (on_inbox n r (records_of store) && is_taken n m (rows_of (record_in (records_of store) r)) table (records_of store))
  unfolding delivered refuse acted is_taken deliver_step
  delivers r None h = rw (fault_off r h)
  delivers r (Some e) h =
      rw (found_on r e h)
      (message_node table store (records_of store) n e.addressee (addressed n table store G r e h).addressee_below most
      e.sender (addressed n table store G r e h).sender_below (node_at table e.addressee) e.incarnation e.message
      (rows_of (record_in (records_of store) r)) (delivered_sound n table store G r e h)
      (deliver_shaped (node_at table e.addressee) e (rows_of (record_in (records_of store) r)) (G.within.shaped e.addressee)))

-- ---- the laws

pub write_acts : WriteActs
unfolding WriteActs on_sound may_write SoundStaysSound MayCome decide
write_acts k tag n table store G =
    ap acted (performed_is n table store G (event.Write k tag))
    ∙ at_node_lem n table store G (λ node. write_step node tag) k _
    (λ low. write_node table store (records_of store) n k low (most n table store G) (node_at table k) tag
    (sound_stays_sound n k (Write tag) (node_at table k) (stands n table store G k low) tt))

pub retry_acts : RetryActs
unfolding RetryActs on_sound may_retry SoundStaysSound MayCome decide
retry_acts k n table store G =
    ap acted (performed_is n table store G (event.Retry k))
    ∙ at_node_lem n table store G retry_step k _
    (λ low. retry_node table store (records_of store) n k low (most n table store G) (node_at table k)
    (sound_stays_sound n k Retry (node_at table k) (stands n table store G k low) tt))

pub crash_acts : CrashActs
unfolding CrashActs on_sound may_crash
crash_acts k n table store G =
    ap acted (performed_is n table store G (event.Crash k))
    ∙ at_node_lem n table store G crash_step k _
    (λ low. crash_node table store (records_of store) n k low (most n table store G) (node_at table k))

pub start_acts : StartActs
unfolding StartActs on_sound may_start SoundStaysSound MayCome decide
start_acts k n table store G =
    ap acted (performed_is n table store G (event.Start k))
    ∙ at_node_lem n table store G start_step k _
    (λ low. start_node table store (records_of store) n k low (most n table store G) (node_at table k)
    (sound_stays_sound n k Start (node_at table k) (stands n table store G k low) tt))

pub drop_acts : DropActs
unfolding DropActs on_sound
drop_acts r n table store G =
    ap acted (performed_is n table store G (event.Drop r)) ∙ drops n table store G r (message_in (records_of store) r) refl

pub deliver_acts : DeliverActs
unfolding DeliverActs on_sound may_deliver
deliver_acts r n table store G =
    ap acted (performed_is n table store G (event.Deliver r)) ∙ delivers n table store G r (message_in (records_of store) r) refl
