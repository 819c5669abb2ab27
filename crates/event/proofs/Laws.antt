-- What each definition of specs/Act gives in each case, as the code comes to it.
use Prim.Native.Nat.{ℕ, ◌≤◌, ◌<◌}
use mathlib.Core.Path.{◌≡◌, refl, sym, ap, ◌∙◌}
use mathlib.Core.Bool.{false}
use mathlib.Core.List.{List}
use borrow.Author.Tests.{lt-ltb, le-ltb}
use Rattle.item.specs.declared.Tag.{Tag}
use Rattle.message.specs.declared.Envelope.{Envelope}
use Rattle.record.specs.Layout.{record_of, rows_of}
use Rattle.store.specs.Records.{on_records}
use Rattle.store.specs.Change.{put_each, count_outgoing, drop_in}
use Rattle.protocol.specs.Deliver.{deliver_step}
use Rattle.protocol.specs.Answer.{is_refused, refused}
use Rattle.protocol.specs.Node.{row_items}
use Rattle.protocol.specs.Outgoing.{outgoing}
use Rattle.protocol.specs.Write.{write_step, retry_step, crash_step, start_step}
use Rattle.protocol.specs.declared.Answer.TheVariants as answer
use Rattle.protocol.specs.declared.Event.{Event}
use Rattle.protocol.specs.declared.Event.TheVariants as event
use Rattle.protocol.specs.declared.Node.{Node}
use Rattle.protocol.specs.declared.Refusal.{Refusal}
use Rattle.protocol.specs.declared.Refusal.TheVariants.{NoNode, NoRoom, NoMessage}
use Rattle.protocol.specs.declared.Step.{Step}
use Rattle.protocol.specs.declared.Answer.{Answer}
use Rattle.store.specs.declared.Survey.{Survey}
use Rattle.event.specs.Act.{Outcome, drop_target_of, refuse, sent_by, carried_out, at_node, dropped, delivered, on_sound}
use Rattle.std.specs.Prelude.{None, Option, Some}

-- what a call gives, from what the definition gives in its case
pub given : {o p : Outcome} → o ≡ p → (p.answer ≡ o.answer) × (p.node ≡ o.node) × (p.store ≡ o.store)
given e = (ap (λ (o : Outcome). o.answer) (sym e), ap (λ (o : Outcome). o.node) (sym e), ap (λ (o : Outcome). o.store) (sym e))

not_refused : (a : Answer) → ((why : Refusal) → a ≡ answer.Refused why → ⊥) → is_refused a ≡ false
not_refused answer.Ok d = refl
not_refused (answer.Settled item) d = refl
not_refused (answer.Accepted item) d = refl
not_refused (answer.Stopped row) d = refl
not_refused (answer.Refused why) d = absurd (d why refl)

module _ (node : Node) (store : List ℕ) (free back : ℕ) (step : Step) where
  pub carried_refused : {why : Refusal} → step.answer ≡ answer.Refused why → carried_out node store free back step ≡ refuse why node store
  unfolding carried_out
  carried_refused e = rw e

  pub carried_err : {why : Refusal} → refused node why ≡ step → carried_out node store free back step ≡ refuse why node store
  unfolding carried_out refused
  carried_err e = ap (carried_out node store free back) (sym e)

  pub carried_full : ((why : Refusal) → step.answer ≡ answer.Refused why → ⊥) → free < count_outgoing (outgoing step.node step.sends back) → carried_out node store free back step ≡ refuse NoRoom node store
  unfolding carried_out sent_by
  carried_full e h = rw (not_refused step.answer e, lt-ltb free (count_outgoing (outgoing step.node step.sends back)) h)

  pub carried_sent : ((why : Refusal) → step.answer ≡ answer.Refused why → ⊥) → count_outgoing (outgoing step.node step.sends back) ≤ free
      → carried_out node store free back step
      ≡ record { answer = step.answer; node = step.node; store = on_records (λ rs. put_each rs (outgoing step.node step.sends back) (row_items step.node)) store }
  unfolding carried_out sent_by
  carried_sent e h = rw (not_refused step.answer e, le-ltb free (count_outgoing (outgoing step.node step.sends back)) h)

module _ (node : Node) (store : List ℕ) (seen : Survey) (k : ℕ) (step : Step) where
  pub at_none : seen.n ≤ k → at_node node store seen k step ≡ refuse NoNode node store
  unfolding at_node
  at_none h = rw (le-ltb k seen.n h)

  pub at_some : k < seen.n → at_node node store seen k step ≡ carried_out node store seen.free k step
  unfolding at_node
  at_some h = rw (lt-ltb k seen.n h)

module _ (node : Node) (store : List ℕ) (r : ℕ) {m : Option Envelope} where
  pub dropped_none : m ≡ None → dropped m node store r ≡ refuse NoMessage node store
  unfolding dropped
  dropped_none e = ap (λ (k : Option Envelope). dropped k node store r) e

  pub dropped_some : {e : Envelope} → m ≡ Some e → dropped m node store r ≡ record { answer = answer.Ok; node = node; store = on_records (λ rs. drop_in rs e.addressee r) store }
  unfolding dropped
  dropped_some e = ap (λ (k : Option Envelope). dropped k node store r) e

  pub delivered_none : (free : ℕ) → m ≡ None → delivered m node store free r ≡ refuse NoMessage node store
  unfolding delivered
  delivered_none free e = ap (λ (k : Option Envelope). delivered k node store free r) e

  pub delivered_some : (free : ℕ) {e : Envelope} (step : Step) → m ≡ Some e → step ≡ deliver_step node e (rows_of (record_of store r))
      → delivered m node store free r ≡ carried_out node store free e.sender step
  unfolding delivered
  delivered_some free {e} step em es =
      ap (λ (k : Option Envelope). delivered k node store free r) em ∙ ap (carried_out node store free e.sender) (sym es)

module _ (node : Node) (store : List ℕ) (seen : Survey) (reading : Option Envelope) {e : Event} where
  pub sound_write : {k : ℕ} {tag : Tag} (step : Step) → e ≡ event.Write k tag → step ≡ write_step node tag → on_sound e node store seen reading ≡ at_node node store seen k step
  unfolding on_sound
  sound_write {k} step p q = ap (λ (v : Event). on_sound v node store seen reading) p ∙ ap (at_node node store seen k) (sym q)

  pub sound_retry : {k : ℕ} (step : Step) → e ≡ event.Retry k → step ≡ retry_step node → on_sound e node store seen reading ≡ at_node node store seen k step
  unfolding on_sound
  sound_retry {k} step p q = ap (λ (v : Event). on_sound v node store seen reading) p ∙ ap (at_node node store seen k) (sym q)

  pub sound_crash : {k : ℕ} (step : Step) → e ≡ event.Crash k → step ≡ crash_step node → on_sound e node store seen reading ≡ at_node node store seen k step
  unfolding on_sound
  sound_crash {k} step p q = ap (λ (v : Event). on_sound v node store seen reading) p ∙ ap (at_node node store seen k) (sym q)

  pub sound_start : {k : ℕ} (step : Step) → e ≡ event.Start k → step ≡ start_step node → on_sound e node store seen reading ≡ at_node node store seen k step
  unfolding on_sound
  sound_start {k} step p q = ap (λ (v : Event). on_sound v node store seen reading) p ∙ ap (at_node node store seen k) (sym q)

  pub sound_drop : {r : ℕ} → e ≡ event.Drop r → on_sound e node store seen reading ≡ dropped reading node store r
  unfolding on_sound
  sound_drop p = ap (λ (v : Event). on_sound v node store seen reading) p

  pub sound_deliver : {r : ℕ} → e ≡ event.Deliver r → on_sound e node store seen reading ≡ delivered reading node store seen.free r
  unfolding on_sound
  sound_deliver p = ap (λ (v : Event). on_sound v node store seen reading) p

-- ---- a Drop looks at no node

pub dropped_node : (m : Option Envelope) (node : Node) (store : List ℕ) (r : ℕ) → (dropped m node store r).node ≡ node
unfolding dropped
dropped_node None node store r = refl
dropped_node (Some e) node store r = refl

pub drop_target_is : (e : Event) {r : ℕ} → drop_target_of e ≡ Some r → e ≡ event.Drop r
unfolding drop_target_of
drop_target_is (event.Write k tag) p = cc
drop_target_is (event.Retry k) p = cc
drop_target_is (event.Crash k) p = cc
drop_target_is (event.Start k) p = cc
drop_target_is (event.Drop r) p = cc
drop_target_is (event.Deliver r) p = cc
