-- Laws of a position that was reached: a byte more, a line that is unread, one that asks something, and its answer.
use Prim.Native.Nat.{ℕ, suc, ◌+◌, ◌^◌, ◌<◌, ◌≤◌}
use native.Mathlib.Numerals.{add-one}
use native.Mathlib.Omega.{arith}
use mathlib.Core.Path.{◌≡◌, refl, sym, ap, subst, ◌∙◌}
use mathlib.Core.Bool.{true, false}
use mathlib.Core.Logic.{◌⊎◌}
use mathlib.Core.List.{List, ◌++◌, append_assoc}
use lib.ListN.{length, get_or, take, drop}
use lib.Seq.{drop-cons}
use Rattle.answers.specs.Output.{output_line, line_room}
use Rattle.std.specs.Prelude.{Option, Some, None, option_map, is_some}
use Rattle.script.specs.declared.Asked.TheVariants as ask
use Rattle.script.specs.Bytes.{line_feed}
use Rattle.answers.specs.Place.{placed, place_after}
use Rattle.script.specs.declared.Asked.{Asked}
use Rattle.script.specs.Operated.{operated, operated_first, put_first, asked_size}
use Rattle.script.specs.LineBuffer.{none_yet, pushed, buffered_line}
use Rattle.script.specs.declared.buffer.LineBuffer.{LineBuffer}
use Rattle.drill_state.specs.Feeding.{buffered_output, progress_output, Counted}
use Rattle.drill_state.proofs.FeedingLaws.{one_byte, one_line, ends_line, line_stands, line_within, line_room_lem, byte_kept, none_kept, counted_start, counted_byte, counted_line}
use Rattle.drill_state.specs.Turn.{Done, answered, begun, called, line_done, line_for, read_done, unread}
use Rattle.drill_state.specs.declared.Drill.{Drill}
use Rattle.drill_state.specs.declared.Progress.{Progress}
use Rattle.drill_state.specs.declared.Turn.{Turn}
use Rattle.operations.specs.Operation.{Result}
use Rattle.protocol.specs.declared.Answer.{Answer}
use Rattle.protocol.specs.declared.Node.{Node}
use Rattle.script.specs.declared.Line.{Line}
use Rattle.script.specs.declared.Line.TheVariants.{SetUp, Call}
use Rattle.drill_state.specs.Position.{asked_of, asked_by, size_then, resting_at, nothing_asked, rest_output, answer_output, asked_output, position_output, room_taken, Reached}
use Rattle.drill_state.specs.Steps.{Reads}
use Rattle.drill_state.specs.declared.line_reader.Position.{Position}

-- what a line does is what the operation does that it asks for
abbrev done : Asked → ℕ → Result → Done
done asked n result =
    record { turn = record { reply = Some result.answer; drill = record { n = size_then (Some asked) n result.answer; nodes = result.table } }; store = result.store }

asked_done : (line : Option Line) (n : ℕ) (nodes : List Node) (store : List ℕ) (asked : Asked) → asked_by n line ≡ Some asked
    → read_done (line_for n line) (record { n = n; nodes = nodes }) store ≡ done asked n (operated_first asked nodes store)
unfolding asked_by asked_of read_done begun called answered operated operated_first put_first asked_size size_then
asked_done line n nodes store asked e = of_line (line_for n line) e
  where
    of_line : (l : Option Line) → option_map (asked_of n) l ≡ Some asked
        → read_done l (record { n = n; nodes = nodes }) store ≡ done asked n (operated_first asked nodes store)
    of_line None t = absurd (cc)
    of_line (Some (SetUp k)) t = let f : ask.SetUp k ≡ asked = cc in rw (sym f)
    of_line (Some (Call e)) t = let f : ask.Call n e ≡ asked = cc in rw (sym f)

not_asked : (line : Option Line) (n : ℕ) → asked_by n line ≡ None → line_for n line ≡ None
unfolding asked_by
not_asked line n e = of_line (line_for n line) e
  where
    of_line : (l : Option Line) → option_map (asked_of n) l ≡ None → l ≡ None
    of_line None t = refl
    of_line (Some l) t = absurd (cc)

-- the last line ended asks this
abbrev asking_at : ℕ → ℕ → ℕ → ℕ → Asked → Position
asking_at next at count n asked = record { next = next; at = at; count = count; pending = none_yet; n = n; asked = Some asked }

abbrev Printed : List ℕ → ℕ → List ℕ → List ℕ → ℕ → Type 0
Printed out at text out' at' = (at' ≡ place_after line_room out at text) × (out' ≡ placed line_room out at text)

module _ (piece : List ℕ) (before : Progress) (store_before : List ℕ) (nodes : List Node) (store : List ℕ) where
  abbrev At : List ℕ → Position → Type 0
  At out p = Reached piece before store_before out p nodes store

  module _ (out : List ℕ) (next at count : ℕ) (pending : LineBuffer) (n : ℕ) (h : next < length piece) (so : At out (resting_at next at count pending n)) where
    pub rest_byte : (get_or piece next 0 ≡ line_feed → ⊥) → (pending' : LineBuffer) → pending' ≡ pushed pending (get_or piece next 0) → At out (resting_at (next + 1) at count pending' n)
    unfolding resting_at position_output asked_output rest_output room_taken progress_output
    rest_byte f pending' e =
        record {
          output = rw e (one_byte piece before.count before.pending before.drill store_before out at next count pending (record { n = n; nodes = nodes }) store h f so.output);
          within = (omega arith, so.within.1);
          counted = counted_byte piece before.count before.pending.len next at count pending.len so.counted h pending'.len f (byte_kept pending pending' (get_or piece next 0) e);
        }

    module _ (f : get_or piece next 0 ≡ line_feed) (room : at + line_room ≤ length out) where
      pub rest_unread : asked_by n (buffered_line pending) ≡ None → (out' : List ℕ) (at' : ℕ) → Printed out at (output_line (count + 1) None) out' at' → (none : LineBuffer) → none ≡ none_yet → At out' (resting_at (next + 1) at' (count + 1) none n)
      unfolding resting_at position_output asked_output rest_output room_taken progress_output line_done read_done unread
      rest_unread u out' at' e none z =
          let drill : Drill = record { n = n; nodes = nodes } in
          let turn : Turn = record { reply = None; drill = drill } in
          let d : record { turn = turn; store = store } ≡ line_done (buffered_line pending) drill store = ap (λ (l : Option Line). read_done l drill store) (sym (not_asked _ n u)) in
          record {
            output =
                rw z
                (one_line piece before.count before.pending before.drill store_before out at next count pending drill store h f room turn store out' at' (ap (λ (x : Done). x.turn) d) (ap (λ (x : Done). x.store) d) e so.output);
            within = (omega arith, (line_within out at (count + 1) None out' at' so.within.1 e).0);
            counted = counted_line piece before.count before.pending.len next at count pending.len so.counted h at' none.len f (line_room_lem out at (count + 1) None out' at' room e) (none_kept none z);
          }

      pub rest_asks : (asked : Asked) → asked_by n (buffered_line pending) ≡ Some asked → At out (asking_at (next + 1) at (count + 1) n asked)
      unfolding resting_at position_output asked_output rest_output answer_output room_taken progress_output line_done
      rest_asks asked t =
          let drill : Drill = record { n = n; nodes = nodes } in
          let d : line_done (buffered_line pending) drill store ≡ done asked n (operated_first asked nodes store) = asked_done (buffered_line pending) n nodes store asked t in
          record {
            output = λ rest. so.output rest ∙
                rw (drop-cons piece next 0 h, add-one, add-one, ends_line count pending drill store (get_or piece next 0) (drop (suc next) piece ++ rest) f)
                (ap (λ (x : Done). take at out ++ (output_line (suc count) x.turn.reply ++ buffered_output (suc count) none_yet x.turn.drill x.store (drop (suc next) piece ++ rest))) d);
            within = (omega arith, room);
            counted = counted_line piece before.count before.pending.len next at count pending.len so.counted h (at + line_room) none_yet.len f (omega arith) (none_kept none_yet refl);
          }

-- what was asked is answered and printed
pub answers : (piece : List ℕ) (before : Progress) (store_before : List ℕ) (nodes : List Node) (store : List ℕ) (out : List ℕ) (p : Position) (asked : Asked) → p.asked ≡ Some asked → (answer : Answer) → answer ≡ (operated_first asked nodes store).answer → (out' : List ℕ) (at' : ℕ)
    → Printed out p.at (output_line p.count (Some answer)) out' at' → Reached piece before store_before out p nodes store
    → Reached piece before store_before out' (resting_at p.next at' p.count p.pending (size_then p.asked p.n answer)) (operated_first asked nodes store).table (operated_first asked nodes store).store
unfolding resting_at position_output asked_output rest_output answer_output room_taken
answers piece before store_before nodes store out p asked t answer a out' at' e so =
    let taken : room_taken p ≡ p.at + line_room = rw t in
    let room : p.at + line_room ≤ length out = subst (λ (k : ℕ). k ≤ length out) taken so.within.1 in
    let c : Counted piece before.count before.pending.len p.next (p.at + line_room) p.count p.pending.len = subst (λ (k : ℕ). Counted piece before.count before.pending.len p.next k p.count p.pending.len) taken so.counted in
    record {
      output = λ rest. so.output rest ∙
          rw (t, sym a, line_stands out p.at p.count (Some answer) out' at' room e)
          (sym (append_assoc (take p.at out) (output_line p.count (Some answer)) _));
      within = (so.within.0, (line_within out p.at p.count (Some answer) out' at' (omega arith) e).0);
      counted = record { bytes = c.bytes; lines = c.lines; room = omega (arith, c.room, line_room_lem out p.at p.count (Some answer) out' at' room e) };
    }

-- the beginning of a piece
pub begins : (piece : List ℕ) (start : Progress) (store out : List ℕ) → Reached piece start store out (resting_at 0 0 start.count start.pending start.drill.n) start.drill.nodes store
unfolding resting_at position_output asked_output rest_output room_taken progress_output
begins piece start store out = record { output = λ rest. refl; within = (omega arith, omega arith); counted = counted_start piece start.count start.pending.len }

-- a position where nothing is asked
pub rests : (p : Position) → p.asked ≡ None → p ≡ resting_at p.next p.at p.count p.pending p.n
unfolding resting_at
rests p e = ap (λ (a : Option Asked). record { next = p.next; at = p.at; count = p.count; pending = p.pending; n = p.n; asked = a }) e

-- ---- reading on, after some bytes and lines: what was reached at the start and holds there holds here
pub record Kept (piece out₀ : List ℕ) (from : Position) (out : List ℕ) (here : Position) : Type 0 where
  pub rests : here.asked ≡ None
  pub forward : from.next ≤ here.next
  pub within : from.next ≤ length piece → here.next ≤ length piece
  pub same : length out ≡ length out₀
  pub reached : (before : Progress) (store_before : List ℕ) (nodes : List Node) (store : List ℕ) → Reached piece before store_before out₀ (nothing_asked from) nodes store → Reached piece before store_before out (nothing_asked here) nodes store

pub kept_start : (piece out : List ℕ) (from : Position) → Kept piece out from out (record { next = from.next; at = from.at; count = from.count; pending = from.pending; n = from.n; asked = None })
unfolding nothing_asked
kept_start piece out from = record { rests = refl; forward = omega arith; within = λ h. h; same = refl; reached = λ before sb nodes store so. so }

module _ {piece out₀ : List ℕ} {from : Position} {out : List ℕ} {here : Position} (k : Kept piece out₀ from out here) where
  pub ended_there : (from.next ≤ length piece → (here.next ≡ length piece) ⊎ ((length out < here.at + line_room) ⊎ (suc here.count ≡ 2 ^ 64)))
      → Reads piece out₀ (nothing_asked from) out here
  unfolding nothing_asked resting_at
  ended_there e =
      record {
        reached = λ before sb nodes store so. rw (rests here k.rests) (k.reached before sb nodes store so);
        onward = record { forward = k.forward; further = λ asked t. absurd (cc k.rests); ended = λ _. e };
        same = k.same;
      }

  module _ (h : here.next < length piece) where
    pub kept_byte : (get_or piece here.next 0 ≡ line_feed → ⊥) → (pending' : LineBuffer) → pending' ≡ pushed here.pending (get_or piece here.next 0)
        → Kept piece out₀ from out (record { next = here.next + 1; at = here.at; count = here.count; pending = pending'; n = here.n; asked = here.asked })
    unfolding nothing_asked
    kept_byte f pending' e =
        record {
          rests = k.rests;
          forward = omega (arith, k.forward);
          within = λ _. omega arith;
          same = k.same;
          reached = λ before sb nodes store so. rest_byte piece before sb nodes store out here.next here.at here.count here.pending here.n h (k.reached before sb nodes store so) f pending' e;
        }

    module _ (f : get_or piece here.next 0 ≡ line_feed) (room : here.at + line_room ≤ length out) (none : LineBuffer) (z : none ≡ none_yet)
        (asked : Option Asked) (a : asked ≡ asked_by here.n (buffered_line here.pending)) where
      pub kept_unread : is_some asked ≡ false → (out' : List ℕ) (at' : ℕ) → Printed out here.at (output_line (here.count + 1) None) out' at'
          → Kept piece out₀ from out' (record { next = here.next + 1; at = at'; count = here.count + 1; pending = none; n = here.n; asked = here.asked })
      unfolding nothing_asked
      kept_unread t out' at' e =
          record {
            rests = k.rests;
            forward = omega (arith, k.forward);
            within = λ _. omega arith;
            same = (line_within out here.at (here.count + 1) None out' at' (omega (arith, room)) e).1 ∙ k.same;
            reached = λ before sb nodes store so.
                rest_unread piece before sb nodes store out here.next here.at here.count here.pending here.n h (k.reached before sb nodes store so) f room (sym a ∙ none_some asked t) out' at' e none z;
          }
        where
          none_some : (o : Option Asked) → is_some o ≡ false → o ≡ None
          none_some None t = refl
          none_some (Some x) t = absurd (cc)

      pub asks_there : is_some asked ≡ true
          → Reads piece out₀ (nothing_asked from) out (record { next = here.next + 1; at = here.at; count = here.count + 1; pending = none; n = here.n; asked = asked })
      unfolding nothing_asked resting_at
      asks_there t = of_asked asked a t
        where
          of_asked : (o : Option Asked) → o ≡ asked_by here.n (buffered_line here.pending) → is_some o ≡ true
              → Reads piece out₀ (nothing_asked from) out (record { next = here.next + 1; at = here.at; count = here.count + 1; pending = none; n = here.n; asked = o })
          of_asked None a t = absurd (cc)
          of_asked (Some x) a t =
              record {
                reached = λ before sb nodes store so.
                    rw z (rest_asks piece before sb nodes store out here.next here.at here.count here.pending here.n h (k.reached before sb nodes store so) f room x (sym a));
                onward = record { forward = omega (arith, k.forward); further = λ _ _. (omega (arith, k.forward), omega (arith, h)); ended = λ e. absurd (cc) };
                same = k.same;
              }
