-- A sound node stays sound: each outcome of a decision is a change that keeps it so.
use Prim.Native.Nat.{ℕ, ◌≤◌, ◌<◌}
use native.Mathlib.Omega.{arith}
use mathlib.Core.Path.{◌≡◌, refl}
use mathlib.Core.Logic.{◌≢◌}
use mathlib.Core.Bool.{Bool, true, false, ◌||◌}
use mathlib.Core.List.{List}
use lib.ListN.{length, get_or}
use borrow.Author.Tests.{leb-true}
use Rattle.item.specs.Item.{zero_item}
use Rattle.item.specs.Maxima.{max_nodes, valid_size}
use Rattle.item.proofs.Tests.{and_left}
use Rattle.item.specs.declared.counters.Incarnation.{Incarnation}
use Rattle.item.specs.declared.Item.{Item}
use Rattle.message.specs.declared.Message.{Message}
use Rattle.protocol.specs.Answer.{ok, refused}
use Rattle.protocol.specs.Fetching.{with_table, stopped}
use Rattle.protocol.specs.Node.{half, count_peers, with_rows, with_counted}
use Rattle.protocol.specs.Phase.{is_down, is_idle, is_storing, at_stage}
use Rattle.protocol.specs.Sound.{every_from, row_sound, row_use}
use Rattle.protocol.specs.Storing.{send_confirm, store_success}
use Rattle.protocol.specs.Write.{send_store, send_fetch, written, retried, nothing_to_retry}
use Rattle.protocol.specs.declared.Node.{Node}
use Rattle.protocol.specs.declared.RowUse.TheVariants as row_uses
use Rattle.protocol.specs.declared.Stage.TheVariants.{Storing}
use Rattle.protocol.specs.declared.Step.{Step}
use Rattle.protocol.proofs.InView.{size_fits}
use Rattle.laws_node.specs.Decision.{Decision, MayCome}
use Rattle.laws_node.specs.Laws.{SoundStaysSound}
use Rattle.laws_node.proofs.Outcome.{Received, declines, takes, counts_stored, asks, confirms, counts_confirmed, ends, tells, counts_table, stops, writes_back, Outcome, refuses, writes, fetches_again, retries, crashes, starts, receives, outcome}
use Rattle.laws_node.proofs.PhaseCases.{idle_cases, live_cases}
use Rattle.laws_node.proofs.Soundly.{Soundly, read_sound, is_sound, rows_of, crashed_sound, started_sound, begun_sound}
use Rattle.laws_node.proofs.SoundMessages.{row_sound_lem, stored_counted_lem, asking_sound, confirmed_counted_lem, ended_sound, table_counted, back_sound}

-- a group has at least three nodes
some_half : (n : ℕ) → valid_size n ≡ true → 0 < half n
unfolding valid_size half
some_half n e = let three : 3 ≤ n = search (and_left, leb-true) in omega arith

or_left : (a b : Bool) → (a || b) ≡ false → a ≡ false
or_left true b e = e
or_left false b e = refl

-- ---- a message

module _ (n k : ℕ) (node : Node) (S : Soundly n k node) (f : 0 < half n) (below : k < n) (fits : n ≤ max_nodes)
    (rows : length node.rows ≡ max_nodes) (counted : length node.counted ≡ max_nodes) where
  received_sound : (s : ℕ) (i : Incarnation) (items : List Item) (m : Message) (step : Step) → s < n → s ≢ k
      → ((j : ℕ) → n ≤ j → get_or items j zero_item ≡ zero_item) → Received node s i items m step → Soundly n k step.node
  unfolding refused ok send_confirm send_store store_success stopped with_table with_rows with_counted
  received_sound s i items m step l d z (declines m' why) = S
  received_sound s i items m step l d z (takes a item up) = row_sound_lem n k node S s l item i a up
  received_sound s i items m step l d z (counts_stored o a item e less) = stored_counted_lem n k node S s l i d e less
  received_sound s i items m step l d z (asks o a item e full) = asking_sound n k node S s l i d e full f
  received_sound s i items m step l d z (confirms o a item) = S
  received_sound s i items m step l d z (counts_confirmed o a item e under less) = confirmed_counted_lem n k node S s l i d e under less
  received_sound s i items m step l d z (ends o a item e) = ended_sound n k node S s l i d e
  received_sound s i items m step l d z (tells e) = S
  received_sound s i items m step l d z (counts_table o e less) = table_counted n k node S s l i d items z e (omega arith) less
  received_sound s i items m step l d z (stops o row) = crashed_sound n k (with_table node s i items) S.number_is S.size_is
  received_sound s i items m step l d z (writes_back o e none) = back_sound n k node S s l i d items z e rows below f none

  -- ---- any decision

  stored_rows : row_use node.phase (count_peers node.counted) ≡ row_uses.Stored → every_from (row_sound row_uses.Stored n) 0 node.rows ≡ true
  stored_rows e = rows_of row_uses.Stored n node.phase (count_peers node.counted) node.rows e S.rows_sound

  outcome_sound : (d : Decision) (step : Step) → MayCome n k d → Outcome node d step → Soundly n k step.node
  unfolding refused ok send_fetch send_store written retried nothing_to_retry at_stage row_use MayCome
  outcome_sound d step come (refuses d' why) = S
  outcome_sound d step come (writes tag e) =
      begun_sound n k node S.number_is S.size_is _ _ _ refl below f
      (stored_rows (idle_cases (λ p. row_use p (count_peers node.counted) ≡ row_uses.Stored) (λ _. refl) node.phase e))
  outcome_sound d step come fetches_again = S
  outcome_sound d step come (retries e live) =
      begun_sound n k node S.number_is S.size_is _ _ _
      (live_cases (λ p. is_storing (at_stage p Storing) ≡ true) (λ _. refl) (λ _. refl) node.phase (or_left (is_down node.phase) (is_idle node.phase) e) live)
      below f
      (stored_rows (live_cases (λ p. row_use p (count_peers node.counted) ≡ row_uses.Stored) (λ _. refl) (λ _. refl) node.phase
      (or_left (is_down node.phase) (is_idle node.phase) e) live))
  outcome_sound d step come crashes = crashed_sound n k node S.number_is S.size_is
  outcome_sound d step come (starts e l) = started_sound n k node S.number_is S.size_is
  outcome_sound d step come (receives e items step' r) =
      received_sound e.sender e.incarnation items e.message step come.sender_below come.from_other come.items_zero r

pub sound_stays_sound : SoundStaysSound
unfolding SoundStaysSound
sound_stays_sound n k d node s come =
    is_sound n k _ (outcome_sound n k node (read_sound n k node s.sound) (some_half n s.valid) s.below (size_fits n s.valid)
    s.rows_length s.counted_length d _ come (outcome node d))
