-- When a decision that is carried out acts: never if it is refused, else exactly if there is a free record for each message.
use Prim.Native.Nat.{ℕ, ◌-◌, ◌≤◌, ◌<◌}
use native.Mathlib.Omega.{arith}
use mathlib.Core.Path.{◌≡◌, refl, sym, ap, subst, ◌∙◌}
use mathlib.Core.Bool.{true, false, not}
use mathlib.Core.List.{List}
use lib.Dec.{leb, ltb, eqb}
use borrow.Author.Tests.{ltb-true, ltb-false, lt-leb, le-leb, eqb-true}
use Rattle.item.specs.Maxima.{max_nodes}
use Rattle.item.proofs.Tests.{by_cond, and_right}
use Rattle.message.specs.declared.Message.{Message}
use Rattle.store.specs.Change.{count_outgoing}
use Rattle.store.specs.Sound.{free_count}
use Rattle.protocol.specs.Answer.{ok, refused, is_refused}
use Rattle.protocol.specs.Node.{half, count_peers, confirming_begun}
use Rattle.operations.specs.Operation.{Result, refuse, sent_by, carried_out}
use Rattle.protocol.specs.Outgoing.{outgoing}
use Rattle.protocol.specs.Phase.{is_storing, at_stage}
use Rattle.protocol.specs.Sound.{stage_counts, phase_counts, peers_sound, sound_node}
use Rattle.protocol.specs.Storing.{send_confirm}
use Rattle.protocol.specs.Write.{send_store, send_fetch}
use Rattle.protocol.specs.declared.Answer.{Answer}
use Rattle.protocol.specs.declared.Node.{Node}
use Rattle.protocol.specs.declared.Refusal.{Refusal}
use Rattle.protocol.specs.declared.Sends.TheVariants as sends
use Rattle.protocol.specs.declared.Stage.TheVariants.{Confirming}
use Rattle.protocol.specs.declared.Step.{Step}
use Rattle.protocol.specs.Shaped.{Shaped}
use Rattle.protocol.proofs.InView.{number_is, size_is}
use Rattle.laws_node.proofs.PhaseCases.{storing_cases}
use Rattle.laws_node.proofs.Soundly.{read_sound}
use Rattle.laws_enabled.specs.Acting.{acted, is_room_for}
use Rattle.laws_enabled.proofs.Sent.{nothing_sent_lem, others_sent, one_sent, asked_sent}

module _ (table : List Node) (store : List ℕ) (rs : List (List ℕ)) (k back : ℕ) where
  pub refused_acts : (node : Node) (why : Refusal) → acted (carried_out table store rs k back (refused node why)) ≡ false
  unfolding carried_out refused acted
  refused_acts node why = refl

  sent_acts : (step : Step) (c : ℕ) → is_refused step.answer ≡ false → count_outgoing (outgoing step.node step.sends back) ≡ c
      → acted (carried_out table store rs k back step) ≡ is_room_for c rs
  unfolding carried_out sent_by acted is_room_for refuse
  sent_acts step c e z =
      rw e (by_cond (λ (r : Result). not (is_refused r.answer) ≡ leb c (free_count rs))
      (ltb (free_count rs) (count_outgoing (outgoing step.node step.sends back))) _ _
      (λ t.
      let h : free_count rs < count_outgoing (outgoing step.node step.sends back) = ltb-true (free_count rs) _ t in
      sym (lt-leb c (free_count rs) (omega arith)))
      (λ t.
      let h : count_outgoing (outgoing step.node step.sends back) ≤ free_count rs = ltb-false (free_count rs) _ t in
      rw e (sym (le-leb c (free_count rs) (omega arith)))))

  -- nothing is sent
  pub quiet_acts : (a : Answer) (node : Node) → is_refused a ≡ false
      → acted (carried_out table store rs k back (record { answer = a; node = node; sends = sends.Nothing })) ≡ is_room_for 0 rs
  quiet_acts a node e = sent_acts (record { answer = a; node = node; sends = sends.Nothing }) 0 e (nothing_sent_lem node back)

  module _ (n : ℕ) (low : k < n) (most : n ≤ max_nodes) (node : Node) (sound : sound_node n k node ≡ true) where
    others_count : (m : Message) → count_outgoing (outgoing node (sends.Others m) back) ≡ n - 1
    others_count m =
        let number : node.number ≡ k = number_is n k node sound in
        let size : node.n ≡ n = size_is n k node sound in
        others_sent node back m (omega arith) (omega arith) ∙ ap (λ (i : ℕ). i - 1) size

    pub store_acts : acted (carried_out table store rs k back (send_store node)) ≡ is_room_for (n - 1) rs
    unfolding send_store ok
    store_acts = sent_acts (send_store node) (n - 1) refl (others_count _)

    pub fetch_acts : acted (carried_out table store rs k back (send_fetch node)) ≡ is_room_for (n - 1) rs
    unfolding send_fetch ok
    fetch_acts = sent_acts (send_fetch node) (n - 1) refl (others_count _)

    pub back_acts : (m : Message) → back < n → acted (carried_out table store rs k back (ok node (sends.Back m))) ≡ is_room_for 1 rs
    unfolding ok
    back_acts m b =
        let size : node.n ≡ n = size_is n k node sound in
        sent_acts (ok node (sends.Back m)) 1 refl (one_sent node back m (omega arith) (omega arith))

    pub confirm_acts : Shaped node → count_peers node.asked ≡ half n
        → acted (carried_out table store rs k back (send_confirm node)) ≡ is_room_for (half n) rs
    unfolding send_confirm ok
    confirm_acts shaped f =
        sent_acts (send_confirm node) (half n) refl
        (asked_sent node back _ _ k
        (subst (λ (i : ℕ). peers_sound k i node.asked ≡ true) (sym (size_is n k node sound)) (read_sound n k node sound).asked_sound)
        shaped.asked_length ∙ f)

-- those asked in a sound node that has just begun to confirm are f
pub asked_half : (n k : ℕ) (node : Node) → is_storing node.phase ≡ true
    → sound_node n k (confirming_begun node (at_stage node.phase Confirming)) ≡ true → count_peers node.counted ≡ half n
unfolding confirming_begun phase_counts stage_counts at_stage
asked_half n k node e sound =
    go (count_peers _) (read_sound n k (confirming_begun node (at_stage node.phase Confirming)) sound).counts_fit
  where
    go : (c : ℕ) → phase_counts (at_stage node.phase Confirming) (half n) c (count_peers node.counted) ≡ true → count_peers node.counted ≡ half n
    go c = storing_cases (λ p. phase_counts (at_stage p Confirming) (half n) c (count_peers node.counted) ≡ true → count_peers node.counted ≡ half n)
        (λ h. eqb-true (count_peers node.counted) (half n) (and_right (ltb c (half n)) (eqb (count_peers node.counted) (half n)) h))
        (λ h. eqb-true (count_peers node.counted) (half n) (and_right (ltb c (half n)) (eqb (count_peers node.counted) (half n)) h))
        node.phase e
