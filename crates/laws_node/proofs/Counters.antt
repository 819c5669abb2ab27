-- Incarnations never fall: only Start changes one, and it rises. Attempts never fall within an incarnation: Write and Retry
-- raise them, and the write-back has attempt 1 where a sound node that is Fetching has 0.
use Prim.Native.Nat.{ℕ, suc, ◌≤◌}
use native.Mathlib.Omega.{arith}
use mathlib.Core.Path.{◌≡◌, refl, sym, ap}
use mathlib.Core.Bool.{true, false, false≢true}
use mathlib.Core.List.{List}
use Rattle.item.specs.Counter.{next_incarnation, incarnation_at_largest, next_attempt, attempt_at_largest}
use Rattle.item.proofs.Laws.{next_incarnation_lem, same_attempt_lem}
use Rattle.item.proofs.Tests.{by_cond, and_left, and_right}
use Rattle.item.specs.declared.counters.Attempt.{Attempt}
use Rattle.item.specs.declared.counters.Incarnation.{Incarnation}
use Rattle.item.specs.declared.Item.{Item}
use Rattle.message.specs.declared.Message.{Message}
use Rattle.protocol.specs.Answer.{ok, refused}
use Rattle.protocol.specs.Fetching.{with_table, stopped, written_back}
use Rattle.protocol.specs.Node.{blank_node, crashed, started, storing_begun, with_row, with_rows, with_counted, confirming_begun, write_ended}
use Rattle.protocol.specs.Phase.{is_down, is_fetching}
use Rattle.protocol.specs.Sound.{sound_node, attempt_fits}
use Rattle.protocol.specs.Storing.{send_confirm, store_success}
use Rattle.protocol.specs.Write.{send_store, send_fetch, written, retried}
use Rattle.protocol.specs.declared.Node.{Node}
use Rattle.protocol.specs.declared.Phase.{Phase}
use Rattle.protocol.specs.declared.Phase.TheVariants.{Down, Fetching, Returning, Up}
use Rattle.protocol.specs.declared.Step.{Step}
use Rattle.laws_node.specs.Decision.{Decision}
use Rattle.laws_node.specs.Laws.{IncarnationsNeverFall, AttemptsNeverFall}
use Rattle.laws_node.proofs.Outcome.{Received, declines, takes, counts_stored, asks, confirms, counts_confirmed, ends, tells, counts_table, stops, writes_back, Outcome, refuses, writes, fetches_again, retries, crashes, starts, receives, outcome}

-- ---- incarnations

same_not_less : (a b : ℕ) → b ≡ a → a ≤ b
same_not_less a b e = omega arith

incarnation_rises : (i : Incarnation) → i.0 ≤ (next_incarnation i).0
unfolding next_incarnation
incarnation_rises i = by_cond (λ (j : Incarnation). i.0 ≤ j.0) (incarnation_at_largest i) _ _ (λ _. omega arith) (λ _. omega arith)

received_incarnation : (node : Node) (s : ℕ) (i : Incarnation) (items : List Item) (m : Message) (step : Step)
    → Received node s i items m step → step.node.incarnation ≡ node.incarnation
unfolding refused ok send_confirm send_store store_success stopped written_back storing_begun crashed blank_node with_table with_counted with_row with_rows confirming_begun write_ended
received_incarnation node s i items m step (declines m' why) = refl
received_incarnation node s i items m step (takes a item up) = refl
received_incarnation node s i items m step (counts_stored o a item e l) = refl
received_incarnation node s i items m step (asks o a item e l) = refl
received_incarnation node s i items m step (confirms o a item) = refl
received_incarnation node s i items m step (counts_confirmed o a item e h l) = refl
received_incarnation node s i items m step (ends o a item e) = refl
received_incarnation node s i items m step (tells e) = refl
received_incarnation node s i items m step (counts_table o e l) = refl
received_incarnation node s i items m step (stops o row) = refl
received_incarnation node s i items m step (writes_back o e c) = refl

not_less : (node : Node) (d : Decision) (step : Step) → Outcome node d step → node.incarnation.0 ≤ step.node.incarnation.0
unfolding refused ok send_fetch send_store written retried storing_begun crashed blank_node started
not_less node d step (refuses d' why) = same_not_less _ _ refl
not_less node d step (writes tag e) = same_not_less _ _ refl
not_less node d step fetches_again = same_not_less _ _ refl
not_less node d step (retries e f) = same_not_less _ _ refl
not_less node d step crashes = same_not_less _ _ refl
not_less node d step (starts e l) = incarnation_rises node.incarnation
not_less node d step (receives e items step' r) =
    same_not_less _ _ (ap (λ (j : Incarnation). j.0) (received_incarnation node e.sender e.incarnation items e.message step r))

pub incarnations_never_fall : IncarnationsNeverFall
unfolding IncarnationsNeverFall
incarnations_never_fall d node = not_less node d _ (outcome node d)

-- ---- attempts

attempt_rises : (a : Attempt) → a.0 ≤ (next_attempt a).0
unfolding next_attempt
attempt_rises a = by_cond (λ (b : Attempt). a.0 ≤ b.0) (attempt_at_largest a) _ _ (λ _. omega arith) (λ _. omega arith)

-- the attempt does not fall from this node to the other, in one incarnation and unless it is Down
abbrev Rises : Node → Node → Type 0
Rises node after =
    after.incarnation ≡ node.incarnation → is_down after.phase ≡ false → node.attempt.0 ≤ after.attempt.0

-- a node that starts has another incarnation
starts_anew : (node : Node) → incarnation_at_largest node.incarnation ≡ false → Rises node (started node)
unfolding started
starts_anew node l e d =
    let next : (next_incarnation node.incarnation).0 ≡ suc node.incarnation.0 = next_incarnation_lem node.incarnation l in
    let same : (next_incarnation node.incarnation).0 ≡ node.incarnation.0 = ap (λ (j : Incarnation). j.0) e in
    absurd (omega arith)

-- a sound node that is Fetching has attempt 0
fetching_attempt : (p : Phase) (a : Attempt) → is_fetching p ≡ true → attempt_fits p a ≡ true → a.0 ≤ 1
unfolding attempt_fits
fetching_attempt Down a e h = absurd (false≢true e)
fetching_attempt Fetching a e h = omega (arith, ap (λ (b : Attempt). b.0) (same_attempt_lem a (record { 0 = 0 }) h))
fetching_attempt (Returning s) a e h = absurd (false≢true e)
fetching_attempt (Up s) a e h = absurd (false≢true e)

received_rises : (node : Node) (s : ℕ) (i : Incarnation) (items : List Item) (m : Message) (step : Step)
    → attempt_fits node.phase node.attempt ≡ true → Received node s i items m step → Rises node step.node
unfolding refused ok send_confirm send_store store_success stopped written_back storing_begun crashed blank_node with_table with_counted with_row with_rows confirming_begun write_ended
received_rises node s i items m step h (declines m' why) = λ _ _. same_not_less _ _ refl
received_rises node s i items m step h (takes a item up) = λ _ _. same_not_less _ _ refl
received_rises node s i items m step h (counts_stored o a item e l) = λ _ _. same_not_less _ _ refl
received_rises node s i items m step h (asks o a item e l) = λ _ _. same_not_less _ _ refl
received_rises node s i items m step h (confirms o a item) = λ _ _. same_not_less _ _ refl
received_rises node s i items m step h (counts_confirmed o a item e z l) = λ _ _. same_not_less _ _ refl
received_rises node s i items m step h (ends o a item e) = λ _ _. same_not_less _ _ refl
received_rises node s i items m step h (tells e) = λ _ _. same_not_less _ _ refl
received_rises node s i items m step h (counts_table o e l) = λ _ _. same_not_less _ _ refl
received_rises node s i items m step h (stops o row) = λ _ d'. absurd (false≢true (sym d'))
received_rises node s i items m step h (writes_back o e c) =
    λ _ _. fetching_attempt node.phase node.attempt e h

outcome_rises : (node : Node) (d : Decision) (step : Step) → attempt_fits node.phase node.attempt ≡ true
    → Outcome node d step → Rises node step.node
unfolding refused ok send_fetch send_store written retried storing_begun crashed blank_node
outcome_rises node d step h (refuses d' why) = λ _ _. same_not_less _ _ refl
outcome_rises node d step h (writes tag e) = λ _ _. attempt_rises node.attempt
outcome_rises node d step h fetches_again = λ _ _. same_not_less _ _ refl
outcome_rises node d step h (retries e f) = λ _ _. attempt_rises node.attempt
outcome_rises node d step h crashes = λ _ d'. absurd (false≢true (sym d'))
outcome_rises node d step h (starts e l) = starts_anew node l
outcome_rises node d step h (receives e items step' r) =
    received_rises node e.sender e.incarnation items e.message step h r

attempt_sound : (n k : ℕ) (node : Node) → sound_node n k node ≡ true → attempt_fits node.phase node.attempt ≡ true
unfolding sound_node
attempt_sound n k node e = search (and_left, and_right)

pub attempts_never_fall : AttemptsNeverFall
unfolding AttemptsNeverFall
attempts_never_fall n k d node e = outcome_rises node d _ (attempt_sound n k node e) (outcome node d)
