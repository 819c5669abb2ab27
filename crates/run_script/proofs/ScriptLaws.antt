-- Laws of a whole script: how long its output may be, what its store holds, and what a piece that is the whole script gives.
use Prim.Native.Nat.{ℕ, zero, suc, ◌+◌, ◌-◌, ◌*◌, ◌<◌, ◌≤◌}
use native.Mathlib.Omega.{arith}
use mathlib.Core.Path.{◌≡◌, refl, sym, ap, ◌∙◌}
use mathlib.Core.Bool.{Bool, true, false}
use mathlib.Core.List.{List, [], ◌∷◌, ◌++◌, append-nil}
use lib.Dec.{eqb}
use mathlib.Core.Logic.{⊎_elim}
use borrow.Rule.Slice.PartMut.{mid_of, put_mid, post_of}
use lib.ListN.{length, take, drop, replicate, length-append, drop_of_length-le}
use lib.Seq.{take_at, take-take, take-append-le, take-append-add, length-take-le}
use borrow.Author.Tests.{eq-eqb}
use Rattle.item.proofs.Tests.{by_cond}
use Rattle.answers.specs.Output.{output_line, line_room}
use Rattle.answers.proofs.Printing.{line_length}
use Rattle.std.specs.Prelude.{None}
use Rattle.script.specs.Bytes.{line_feed}
use Rattle.record.specs.Layout.{record_size}
use Rattle.store.specs.Records.{record_count}
use Rattle.drill_state.specs.Turn.{line_done}
use Rattle.drill_state.specs.Drill.{last_output, output_from, drill_output}
use Rattle.drill_state.specs.Feeding.{at_start, buffered_output, progress_output, line_feeds, Taken}
use Rattle.drill_state.proofs.FeedingLaws.{program_alike}
use Rattle.drill_state.specs.declared.Drill.{Drill}
use Rattle.drill_state.specs.declared.Progress.{Progress}
use Rattle.script.specs.Line.{line_of}
use Rattle.script.specs.LineBuffer.{none_yet}
use Rattle.run_script.specs.Script.{not_all, ScriptRun}

-- ---- how long the output may be

last_length : (count len : ℕ) → length (last_output count len) ≤ line_room
unfolding last_output
last_length count len =
    by_cond (λ (l : List ℕ). length l ≤ line_room) (eqb len 0) [] (output_line (suc count) None)
    (λ _. omega arith)
    (λ _. line_length (suc count) None)

output_length : (bs : List ℕ) (count : ℕ) (line : List ℕ) (drill : Drill) (store : List ℕ)
    → length (output_from count line drill store bs) ≤ line_room * (line_feeds bs + 1)
unfolding output_from line_feeds
output_length [] count line drill store = omega (arith, last_length count (length line))
output_length (b ∷ bs) count line drill store =
    by_test (eqb b line_feed) refl
    (let done = line_done (line_of line) drill store in output_length bs (suc count) [] done.turn.drill done.store)
    (output_length bs count (line ++ (b ∷ [])) drill store)
  where
    by_test : (t : Bool) → eqb b line_feed ≡ t
        → length (output_from (suc count) [] (line_done (line_of line) drill store).turn.drill (line_done (line_of line) drill store).store bs) ≤ line_room * (line_feeds bs + 1)
        → length (output_from count (line ++ (b ∷ [])) drill store bs) ≤ line_room * (line_feeds bs + 1)
        → length (output_from count line drill store (b ∷ bs)) ≤ line_room * (line_feeds (b ∷ bs) + 1)
    by_test true e ended longer = rw (e, length-append) (omega (arith, line_length (suc count) (line_done (line_of line) drill store).turn.reply, ended))
    by_test false e ended longer = rw e longer

drill_length : (script : List ℕ) → length (drill_output script) ≤ line_room * (line_feeds script + 1)
unfolding drill_output
drill_length script = output_length script 0 [] _ _

-- ---- the store

-- the first n of more elements that all are a
pub first_of_replicate : (n k a : ℕ) → n ≤ k → take n (replicate k a) ≡ replicate n a
first_of_replicate zero k a h = refl
first_of_replicate (suc n) zero a h = absurd (omega arith)
first_of_replicate (suc n) (suc k) a h = ap (λ (l : List ℕ). a ∷ l) (first_of_replicate n k a (omega arith))

-- ---- all was printed

all_printed : (script out : List ℕ) (r : ℕ) {len : ℕ} → r ≤ length out → length out ≡ len → len < 18446744073709551616 → drill_output script ≡ take r out → ScriptRun script out r
all_printed script out r h same fits e =
    let l : length (drill_output script) ≡ r = ap length e ∙ length-take-le r out h in
    record {
      printed = λ _. sym e;
      within = λ _. h;
      unprinted = λ n. record { at = r; within = h; begun = sym (ap (take r) e ∙ take-take r r out (omega arith)); full = omega (arith, n, h, fits) };
      enough = λ room n. omega (arith, l, room, n, fits, drill_length script);
    }

-- text that was printed after what stood before
printed_after : (out part : List ℕ) (at k : ℕ) → at ≤ length out → k ≤ length part → take (at + k) (put_mid at (length out - at) out part) ≡ take at out ++ take k part
printed_after out part at k h m =
    let rest : List ℕ = post_of at (length out - at) out in
    ap (λ (n : ℕ). take (n + k) (take at out ++ (part ++ rest))) (sym (length-take-le at out h))
    ∙ take-append-add (take at out) (part ++ rest) k
    ∙ ap (λ (l : List ℕ). take at out ++ l) (take-append-le k part rest m)

-- ---- the script as one piece

module _ (script store out : List ℕ) (start last : Progress) (zeros : List ℕ) (next at : ℕ)
    (t : Taken script start zeros next at out last store) (s : start ≡ at_start) (z : zeros ≡ replicate (record_count * record_size) 0) where
  all_output : drill_output script ≡ take at out ++ progress_output last store (drop next script)
  all_output =
      sym (program_alike script)
      ∙ (λ i. progress_output (sym s i) (sym z i) (sym (append-nil script) i))
      ∙ t.output []
      ∙ ap (λ (l : List ℕ). take at out ++ progress_output last store l) (append-nil (drop next script))

  length_printed : length (take at out) ≡ at
  length_printed = length-take-le at out t.within.1

  begins : take at out ≡ take at (drill_output script)
  begins = sym (ap (take at) all_output ∙ take_at (take at out) (progress_output last store (drop next script)) at length_printed)

  -- no more was printed than the longest line for each line feed
  printed_most : at ≤ line_room * line_feeds script
  unfolding at_start
  printed_most = let k = rw s at t.counted in omega (arith, k.lines, k.room)

  -- where a line had no room left
  pub none_left : length out < at + line_room → ScriptRun script out not_all
  none_left h =
      record {
        printed = λ n. absurd (n refl);
        within = λ n. absurd (n refl);
        unprinted = λ _. record { at = at; within = t.within.1; begun = begins; full = h };
        enough = λ room _. omega (arith, room, h, printed_most);
      }

  -- the piece ended before the script only for want of room: there is a count for each of its bytes
  stopped : next < length script → length script < 18446744073709551616 → length out < at + line_room
  unfolding at_start none_yet
  stopped h fits =
      let k = rw s at t.counted in
      ⊎_elim (λ e. absurd (omega (arith, e, h))) (⊎_elim (λ e. e) (λ e. absurd (omega (arith, e, k.bytes, h, fits)))) t.ended

  -- the script was taken whole: what is left to print is the unended last line
  whole : length script ≤ next → drill_output script ≡ take at out ++ last_output last.count last.pending.len
  unfolding progress_output buffered_output
  whole h = all_output ∙ ap (λ (l : List ℕ). take at out ++ progress_output last store l) (drop_of_length-le script h)

  whole_ended : length script ≤ next → last.pending.len ≡ 0 → drill_output script ≡ take at out
  unfolding last_output
  whole_ended h e = whole h ∙ rw (eq-eqb last.pending.len 0 e) (append-nil (take at out))

  -- and there is a count for it
  count_left : length script < 18446744073709551616 → (last.pending.len ≡ 0 → ⊥) → last.count + 1 < 18446744073709551616
  unfolding at_start none_yet
  count_left fits n = let k = rw s at t.counted in omega (arith, k.bytes, n, fits, t.within.0)

  -- ---- a run, by where it ends

  -- before the script's end
  pub cut_short : next < length script → length script < 18446744073709551616 → ScriptRun script out not_all
  cut_short h fits = none_left (stopped h fits)

  -- after the last line feed
  pub ended : {len : ℕ} → length out ≡ len → len < 18446744073709551616 → length script ≤ next → last.pending.len ≡ 0 → ScriptRun script out at
  ended same fits h e = all_printed script out at t.within.1 same fits (whole_ended h e)

  -- after an unended last line, that stands in the first r bytes of what stood after the others
  pub unended : (part : List ℕ) (r : ℕ) {len : ℕ} → length out ≡ len → len < 18446744073709551616 → length script < 18446744073709551616
      → length script ≤ next → (last.pending.len ≡ 0 → ⊥) → at + line_room ≤ length out
      → length (mid_of at (length out - at) out) ≡ length out - at
      → length part ≡ length (mid_of at (length out - at) out)
      → length (put_mid at (length out - at) out part) ≡ length out
      → r ≤ length part
      → (last.count + 1 < 18446744073709551616 → line_room ≤ length (mid_of at (length out - at) out) → take r part ≡ last_output last.count last.pending.len)
      → ScriptRun script (put_mid at (length out - at) out part) (at + r)
  unended part r same fits few h n room mid held put m text =
      let line = text (count_left few n) (omega (arith, mid, room, t.within.1)) in
      all_printed script (put_mid at (length out - at) out part) (at + r) (omega (arith, mid, held, put, m, t.within.1)) (put ∙ same) fits
      (whole h
      ∙ ap (λ (l : List ℕ). take at out ++ l) (sym line)
      ∙ sym (printed_after out part at r t.within.1 m))
