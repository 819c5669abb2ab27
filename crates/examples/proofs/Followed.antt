-- A store that holds the messages sent answers as `Trace` says: call by call the operation takes the same branch, and the store
-- afterwards holds the messages sent by then.
use Prim.Native.Nat.{ℕ}
use mathlib.Core.Path.{◌≡◌, refl, ap, ◌∙◌}
use mathlib.Core.Bool.{Bool, true, false, cond, false≢true}
use mathlib.Core.List.{List, [], ◌∷◌}
use lib.Dec.{ltb}
use borrow.Author.Tests.{ltb-false}
use Rattle.item.proofs.Tests.{and_left, and_right}
use Rattle.store.specs.Change.{count_outgoing}
use Rattle.store.proofs.Joined.{records_joined, joined_right}
use Rattle.store.specs.Records.{joined}
use Rattle.protocol.specs.Answer.{is_refused}
use Rattle.protocol.specs.Network.{Packet}
use Rattle.protocol.specs.Node.{row_items}
use Rattle.protocol.specs.Table.{node_at, sound_table}
use Rattle.protocol.specs.Write.{write_step, retry_step, crash_step, start_step}
use Rattle.protocol.specs.declared.Answer.{Answer}
use Rattle.protocol.specs.declared.Answer.TheVariants.{Refused}
use Rattle.protocol.specs.declared.Event.{Event}
use Rattle.protocol.specs.declared.Event.TheVariants as event
use Rattle.protocol.specs.declared.Node.{Node}
use Rattle.protocol.specs.declared.Refusal.TheVariants.{Unsound, NoNode, NoRoom, NoMessage}
use Rattle.protocol.specs.declared.Step.{Step}
use Rattle.operations.specs.Operation.{Result, refuse, sent_by, carried_out, at_node, delivered, on_sound, on_records, perform}
use Rattle.operations.specs.Run.{call_of, calls}
use Rattle.examples.specs.Said.{Said, said, answers}
use Rattle.examples.proofs.Contents.{found, free_after, Holds, free_are, holds_more}
use Rattle.examples.proofs.Trace.{After, out, stays, after_step, after_call, after_delivery, after_event, after, Trace, saying, trace}
use Rattle.std.specs.Prelude.{None, Option, Some}
use Rattle.message.specs.declared.Envelope.{Envelope}

-- the result of an operation is what was followed
record Same (n : ℕ) (a : After) (result : Result) : Type 0 where
  answer_is : result.answer ≡ a.answer
  table_is : result.table ≡ a.table
  rs : List (List ℕ)
  store_is : result.store ≡ joined rs
  holds : Holds n rs a.sent

abbrev Follows : ℕ → After → Result → Type 0
Follows n a result = a.fit ≡ true → Same n a result

-- two times two branches by one test
by_both : {A B : Type 0} (P : A → B → Type 0) (t : Bool) {a a' : A} {b b' : B} → (t ≡ true → P a b) → (t ≡ false → P a' b')
    → P (cond t a a') (cond t b b')
by_both P true h k = h refl
by_both P false h k = k refl

module _ (n : ℕ) (table : List Node) (rs : List (List ℕ)) (sent : List Packet) (H : Holds n rs sent) where
  stays_same : (answer : Answer) → Follows n (stays n table sent answer) (record { answer = answer; table = table; store = joined rs })
  stays_same answer _ = record { answer_is = refl; table_is = refl; rs = rs; store_is = refl; holds = H }

  step_same : (k back : ℕ) (step : Step) → Follows n (after_step n table sent k back step) (carried_out table (joined rs) rs k back step)
  unfolding after_step carried_out sent_by refuse
  step_same k back step =
      by_both (Follows n) (is_refused step.answer)
      (λ _. stays_same step.answer)
      (λ _. rw (free_are H) (by_both (Follows n) (ltb (free_after sent) (count_outgoing (out step back)))
      (λ _. stays_same (Refused NoRoom))
      (λ room fit. record {
        answer_is = refl;
        table_is = refl;
        rs = _;
        store_is = refl;
        holds = holds_more (out step back) (row_items step.node) H fit
            (ltb-false (free_after sent) (count_outgoing (out step back)) room);
      })))

  call_same : (decide : Node → Step) (k : ℕ) → Follows n (after_call n table sent decide k) (at_node decide k table (joined rs) rs)
  unfolding after_call at_node refuse
  call_same decide k =
      rw H.size (by_both (Follows n) (ltb k n) (λ _. step_same k k (decide (node_at table k))) (λ _. stays_same (Refused NoNode)))

  delivery_same : (m : Option Envelope) (r : ℕ) → found sent r ≡ m → Follows n (after_delivery n table sent m r) (delivered m r table (joined rs) rs)
  unfolding after_delivery delivered refuse
  delivery_same None r h = stays_same (Refused NoMessage)
  delivery_same (Some e) r h = rw (H.items r e h) (step_same e.addressee e.sender _)

  event_same : (e : Event) → Follows n (after_event n table sent e) (on_sound e table (joined rs) rs)
  unfolding after_event on_sound
  event_same (event.Write k tag) = call_same (λ node. write_step node tag) k
  event_same (event.Retry k) = call_same retry_step k
  event_same (event.Crash k) = call_same crash_step k
  event_same (event.Start k) = call_same start_step k
  event_same (event.Drop r) = λ fit. absurd (false≢true fit)
  event_same (event.Deliver r) = rw (H.messages r) (delivery_same (found sent r) r refl)

  same : (e : Event) → Follows n (after n table sent e) (perform e table (joined rs))
  unfolding after perform on_records refuse
  same e =
      rw (joined_right rs H.many H.sound.sized, records_joined rs H.many H.sound.sized, H.sound.is_sound, H.size)
      (by_both (Follows n) (sound_table n table) (λ _. event_same e) (λ _. stays_same (Refused Unsound)))

followed : {n : ℕ} (es : List Event) (table : List Node) {rs : List (List ℕ)} {sent : List Packet} → Holds n rs sent
    → (trace n table sent es).fit ≡ true → answers table (joined rs) es ≡ (trace n table sent es).says
unfolding trace calls call_of
followed [] table H fit = refl
followed {n} (e ∷ es) table {rs} {sent} H fit =
    let a = after n table sent e in
    let t = trace n a.table a.sent es in
    let S : Same n a (perform e table (joined rs)) = same n table rs sent H e (and_left a.fit t.fit fit) in
    (λ i. said (S.answer_is i) ∷ answers (S.table_is i) (S.store_is i) es)
    ∙ ap (λ (l : List Said). said a.answer ∷ l) (followed es a.table S.holds (and_right a.fit t.fit fit))

pub answered : {n : ℕ} {rs : List (List ℕ)} {sent : List Packet} → Holds n rs sent → (table : List Node) (es : List Event) {l : List Said}
    → trace n table sent es ≡ saying l → answers table (joined rs) es ≡ l
answered H table es e = followed es table H (ap (λ (t : Trace). t.fit) e) ∙ ap (λ (t : Trace). t.says) e
