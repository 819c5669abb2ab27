-- On a sound table and store no operation answers with refusal 1, 2 or 3: what it refuses with then is 4 or more.
use Prim.Native.Nat.{ℕ, ◌≤◌}
use native.Mathlib.Omega.{arith}
use mathlib.Core.Path.{◌≡◌, refl, sym, ap, subst, ◌∙◌}
use mathlib.Core.Logic.{◌⊎◌, inl, inr}
use mathlib.Core.Bool.{Bool, true, false, ◌&&◌, false≢true}
use mathlib.Core.List.Memᴰ
use mathlib.Core.List.{List, [], ◌∷◌, Memᴰ}
use lib.Dec.{leb, ltb}
use borrow.Author.Tests.{leb-true}
use Rattle.item.proofs.Tests.{by_cond, and_left, and_right}
use Rattle.record.specs.Layout.{rows_of}
use Rattle.store.specs.Change.{count_outgoing}
use Rattle.store.specs.Head.{group_size}
use Rattle.store.specs.Records.{record_in}
use Rattle.store.specs.Sound.{free_count, message_in}
use Rattle.protocol.specs.Answer.{refusal_number, is_refused}
use Rattle.protocol.specs.Deliver.{deliver_step}
use Rattle.operations.specs.Operation.{Result, refuse, sent_by, carried_out, at_node, dropped, delivered, on_sound}
use Rattle.protocol.specs.Outgoing.{outgoing}
use Rattle.protocol.specs.Table.{node_at}
use Rattle.protocol.specs.Write.{write_step, retry_step, crash_step, start_step}
use Rattle.protocol.specs.declared.Answer.{Answer}
use Rattle.protocol.specs.declared.Answer.TheVariants as answer
use Rattle.protocol.specs.declared.Event.{Event}
use Rattle.protocol.specs.declared.Event.TheVariants as event
use Rattle.protocol.specs.declared.Node.{Node}
use Rattle.protocol.specs.declared.Refusal.{Refusal}
use Rattle.protocol.specs.declared.Refusal.TheVariants.{NoNode, NoRoom, NoMessage}
use Rattle.protocol.specs.declared.Step.{Step}
use Rattle.protocol.proofs.Deciding.{RefusesBy, of_node, of_message, write_refuses, retry_refuses, start_refuses, crash_refuses, on_message_refuses}
use Rattle.std.specs.Prelude.{None, Option, Some}
use Rattle.message.specs.declared.Envelope.{Envelope}

-- numbers from 4 on
all_above : List ℕ → Bool
all_above [] = true
all_above (k ∷ l) = leb 4 k && all_above l

above : (numbers : List ℕ) → all_above numbers ≡ true → (k : ℕ) → Memᴰ k numbers → 4 ≤ k
unfolding all_above
above [] e k m = absurd (Memᴰ.not-nil m)
above (j ∷ l) e k m = go (above l (and_right (leb 4 j) (all_above l) e) k) (Memᴰ.cases_cons m)
  where
    go : (Memᴰ k l → 4 ≤ k) → (k ≡ j) ⊎ Memᴰ k l → 4 ≤ k
    go r (inl z) = let h : 4 ≤ j = leb-true 4 j (and_left (leb 4 j) (all_above l) e) in omega arith
    go r (inr t) = r t

-- a refusal, if it is one, with a number from 4 on
abbrev pub Above : Result → Type 0
Above result = (why : Refusal) → result.answer ≡ answer.Refused why → 4 ≤ refusal_number why

by_refuse : (why : Refusal) (table : List Node) (store : List ℕ) → 4 ≤ refusal_number why → Above (refuse why table store)
unfolding refuse
by_refuse why table store h why' e = let d : why ≡ why' = cc in subst (λ (w : Refusal). 4 ≤ refusal_number w) d h

no_refusal : (a : Answer) → is_refused a ≡ false → (why : Refusal) → a ≡ answer.Refused why → 4 ≤ refusal_number why
no_refusal a h why e = absurd (false≢true (sym h ∙ ap is_refused e))

module _ (table : List Node) (store : List ℕ) (rs : List (List ℕ)) where
  carried_above : (numbers : List ℕ) → all_above numbers ≡ true → (k back : ℕ) (step : Step) → RefusesBy numbers step
      → Above (carried_out table store rs k back step)
  unfolding carried_out sent_by
  carried_above numbers a k back step h =
      by_cond Above (is_refused step.answer) _ _
      (λ _ why e. above numbers a (refusal_number why) (h why e))
      (λ z. by_cond Above (ltb (free_count rs) (count_outgoing (outgoing step.node step.sends back))) _ _
      (λ _. by_refuse NoRoom table store (omega arith)) (λ _. no_refusal step.answer z))

  at_node_above : (numbers : List ℕ) → all_above numbers ≡ true → (decide : Node → Step) (k : ℕ) → RefusesBy numbers (decide (node_at table k))
      → Above (at_node decide k table store rs)
  unfolding at_node
  at_node_above numbers a decide k h =
      by_cond Above (ltb k (group_size rs)) _ _
      (λ _. carried_above numbers a k k (decide (node_at table k)) h)
      (λ _. by_refuse NoNode table store (omega arith))

  dropped_above : (r : ℕ) (m : Option Envelope) → Above (dropped m r table store rs)
  unfolding dropped
  dropped_above r None = by_refuse NoMessage table store (omega arith)
  dropped_above r (Some e) = no_refusal answer.Ok refl

  delivered_above : (r : ℕ) (m : Option Envelope) → Above (delivered m r table store rs)
  unfolding delivered deliver_step all_above
  delivered_above r None = by_refuse NoMessage table store (omega arith)
  delivered_above r (Some e) =
      carried_above of_message refl e.addressee e.sender _
      (on_message_refuses e.message (node_at table e.addressee) e.sender e.incarnation (rows_of (record_in rs r)))

  pub on_sound_above : (e : Event) → Above (on_sound e table store rs)
  unfolding on_sound all_above
  on_sound_above (event.Write k tag) = at_node_above of_node refl (λ node. write_step node tag) k (write_refuses (node_at table k) tag)
  on_sound_above (event.Retry k) = at_node_above of_node refl retry_step k (retry_refuses (node_at table k))
  on_sound_above (event.Crash k) = at_node_above (5 ∷ []) refl crash_step k (crash_refuses (node_at table k))
  on_sound_above (event.Start k) = at_node_above of_node refl start_step k (start_refuses (node_at table k))
  on_sound_above (event.Drop r) = dropped_above r (message_in rs r)
  on_sound_above (event.Deliver r) = delivered_above r (message_in rs r)
