-- Laws of a script that comes in pieces: one byte more, a line ended, and that the program's output is the drill's.
use Prim.Native.Nat.{ℕ, suc, ◌+◌, ◌*◌, ◌<◌, ◌≤◌}
use native.Mathlib.Numerals.{add-one}
use native.Mathlib.Omega.{arith}
use mathlib.Core.Path.{◌≡◌, refl, sym, ap, ◌∙◌}
use mathlib.Core.Bool.{Bool, true, false, cond}
use mathlib.Core.List.{List, [], ◌∷◌, ◌++◌, append_assoc}
use lib.Dec.{eqb, leb, ltb}
use lib.ListN.{length, get_or, take, drop, set, replicate, length-append, length-take}
use lib.Seq.{sets, length-sets, sets-eq, drop-cons, take_at, length-take-le}
use borrow.Author.Tests.{eq-eqb, ne_eqb, leb-true, leb-false}
use Rattle.item.proofs.Tests.{by_cond}
use Rattle.answers.specs.Output.{output_line, line_room}
use Rattle.answers.proofs.Printing.{line_length}
use Rattle.std.specs.Prelude.{Option}
use Rattle.protocol.specs.declared.Answer.{Answer}
use Rattle.script.specs.Bytes.{line_feed}
use Rattle.answers.specs.Place.{placed, place_after}
use Rattle.answers.proofs.Placing.{placed_fits, placed_none, after_fits, after_none}
use Rattle.script.specs.LineBuffer.{most_bytes, none_yet, pushed, pushed_all, buffered_line}
use Rattle.script.specs.declared.Line.{Line}
use Rattle.script.specs.declared.buffer.LineBuffer.{LineBuffer}
use Rattle.record.specs.Layout.{record_size}
use Rattle.script.proofs.Gathered.{gathered, gathered_length}
use Rattle.store.specs.Records.{record_count}
use Rattle.drill_state.specs.Turn.{no_group, line_done}
use Rattle.drill_state.specs.Drill.{last_output, output_from, drill_output}
use Rattle.drill_state.specs.Feeding.{at_start, buffered_output, progress_output, line_feeds, Counted}
use Rattle.drill_state.specs.declared.Drill.{Drill}
use Rattle.drill_state.specs.declared.Turn.{Turn}

-- after the first i bytes of a piece: what is printed stands in the first `at` bytes of `out`, and what is left to come
-- prints the rest
abbrev pub Upto : List ℕ → ℕ → LineBuffer → Drill → List ℕ → List ℕ → ℕ → ℕ → ℕ → LineBuffer → Drill → List ℕ → Type 0
Upto piece count₀ pending₀ drill₀ store₀ out at i count pending drill store =
    (rest : List ℕ) → buffered_output count₀ pending₀ drill₀ store₀ (piece ++ rest) ≡ take at out ++ buffered_output count pending drill store (drop i piece ++ rest)

in_line : (count : ℕ) (pending : LineBuffer) (drill : Drill) (store : List ℕ) (b : ℕ) (bs : List ℕ) → (b ≡ line_feed → ⊥)
    → buffered_output count pending drill store (b ∷ bs) ≡ buffered_output count (pushed pending b) drill store bs
unfolding buffered_output
in_line count pending drill store b bs h = rw (ne_eqb b line_feed h)

pub ends_line : (count : ℕ) (pending : LineBuffer) (drill : Drill) (store : List ℕ) (b : ℕ) (bs : List ℕ) → b ≡ line_feed
    → buffered_output count pending drill store (b ∷ bs) ≡ output_line (suc count) (line_done (buffered_line pending) drill store).turn.reply ++ buffered_output (suc count) none_yet (line_done (buffered_line pending) drill store).turn.drill (line_done (buffered_line pending) drill store).store bs
unfolding buffered_output
ends_line count pending drill store b bs h = rw (eq-eqb b line_feed h)

-- text that was set stands after what stood before it
text_stands : (out : List ℕ) (at : ℕ) (text : List ℕ) → at + length text ≤ length out → take (at + length text) (sets out at text) ≡ take at out ++ text
text_stands out at text h =
    ap (take (at + length text)) (sets-eq text out at h) ∙
    take_at (take at out ++ text) (drop (at + length text) out) (at + length text)
    (length-append (take at out) text ∙ ap (λ (k : ℕ). k + length text) (length-take-le at out (omega arith)))

-- a line that was printed where it has room stands after what stood before it, within the list
pub line_stands : (out : List ℕ) (at count : ℕ) (r : Option Answer) (out' : List ℕ) (at' : ℕ) → at + line_room ≤ length out
    → (at' ≡ place_after line_room out at (output_line count r)) × (out' ≡ placed line_room out at (output_line count r)) → take at' out' ≡ take at out ++ output_line count r
line_stands out at count r out' at' room e =
    let text = output_line count r in
    (λ j. take ((e.0 ∙ after_fits line_room out at text room) j) ((e.1 ∙ placed_fits line_room out at text room) j)) ∙
    text_stands out at text (omega (arith, line_length count r))

-- after a line was printed, or not for want of room, the place is within the list, which is as long as it was
pub line_within : (out : List ℕ) (at count : ℕ) (r : Option Answer) (out' : List ℕ) (at' : ℕ) → at ≤ length out
    → (at' ≡ place_after line_room out at (output_line count r)) × (out' ≡ placed line_room out at (output_line count r)) → (at' ≤ length out') × (length out' ≡ length out)
line_within out at count r out' at' h e = by_room (leb (at + line_room) (length out)) refl
  where
    by_room : (t : Bool) → leb (at + line_room) (length out) ≡ t → (at' ≤ length out') × (length out' ≡ length out)
    by_room true t =
        let room = leb-true (at + line_room) (length out) t in
        let a : at' ≡ at + length (output_line count r) = e.0 ∙ after_fits line_room out at (output_line count r) room in
        let l : length out' ≡ length out = ap length (e.1 ∙ placed_fits line_room out at (output_line count r) room) ∙ length-sets out at (output_line count r) in
        (omega (arith, a, l, line_length count r), l)
    by_room false t =
        let few = leb-false (at + line_room) (length out) t in
        let a : at' ≡ at = e.0 ∙ after_none line_room out at (output_line count r) few in
        let l : length out' ≡ length out = ap length (e.1 ∙ placed_none line_room out at (output_line count r) few) in
        (omega (arith, a, l), l)

-- one byte more is kept of a line, or none; and of a line of which nothing has come there is none
pub byte_kept : (p q : LineBuffer) (b : ℕ) → q ≡ pushed p b → q.len ≤ p.len + 1
unfolding pushed
byte_kept p q b e =
    rw e
    (by_cond (λ (k : LineBuffer). k.len ≤ p.len + 1) (ltb p.len most_bytes) (record { bytes = set p.bytes p.len b; len = suc p.len }) p
    (λ _. omega arith)
    (λ _. omega arith))

pub none_kept : (q : LineBuffer) → q ≡ none_yet → q.len ≡ 0
unfolding none_yet
none_kept q e = rw e

-- a line that was printed takes no more than the longest
pub line_room_lem : (out : List ℕ) (at count : ℕ) (r : Option Answer) (out' : List ℕ) (at' : ℕ) → at + line_room ≤ length out
    → (at' ≡ place_after line_room out at (output_line count r)) × (out' ≡ placed line_room out at (output_line count r)) → at' ≤ at + line_room
line_room_lem out at count r out' at' room e =
    let a : at' ≡ at + length (output_line count r) = e.0 ∙ after_fits line_room out at (output_line count r) room in
    omega (arith, a, line_length count r)

-- ---- what is counted: at the start of a piece, after a byte, and after a line
pub counted_start : (piece : List ℕ) (count len : ℕ) → Counted piece count len 0 0 count len
counted_start piece count len = record { bytes = omega arith; lines = refl; room = omega arith }

module _ (piece : List ℕ) (count₀ len₀ i at count len : ℕ) (k : Counted piece count₀ len₀ i at count len) (h : i < length piece) where
  pub counted_byte : (len' : ℕ) → (get_or piece i 0 ≡ line_feed → ⊥) → len' ≤ len + 1 → Counted piece count₀ len₀ (i + 1) at count len'
  unfolding line_feeds
  counted_byte len' n l =
      let e : line_feeds (drop i piece) ≡ line_feeds (drop (i + 1) piece) = rw (drop-cons piece i 0 h, ne_eqb (get_or piece i 0) line_feed n, add-one) in
      record { bytes = omega (arith, k.bytes, l); lines = omega (arith, k.lines, e); room = k.room }

  pub counted_line : (at' len' : ℕ) → get_or piece i 0 ≡ line_feed → at' ≤ at + line_room → len' ≡ 0 → Counted piece count₀ len₀ (i + 1) at' (count + 1) len'
  unfolding line_feeds
  counted_line at' len' n a l =
      let e : line_feeds (drop i piece) ≡ suc (line_feeds (drop (i + 1) piece)) = rw (drop-cons piece i 0 h, eq-eqb (get_or piece i 0) line_feed n, add-one) in
      record { bytes = omega (arith, k.bytes, l); lines = omega (arith, k.lines, e); room = omega (arith, k.room, a) }

module _ (piece : List ℕ) (count₀ : ℕ) (pending₀ : LineBuffer) (drill₀ : Drill) (store₀ : List ℕ) where
  pub one_byte : (out : List ℕ) (at i count : ℕ) (pending : LineBuffer) (drill : Drill) (store : List ℕ) → i < length piece → (get_or piece i 0 ≡ line_feed → ⊥)
      → Upto piece count₀ pending₀ drill₀ store₀ out at i count pending drill store → Upto piece count₀ pending₀ drill₀ store₀ out at (i + 1) count (pushed pending (get_or piece i 0)) drill store
  one_byte out at i count pending drill store h n so rest =
      so rest ∙ rw (drop-cons piece i 0 h, add-one, in_line count pending drill store (get_or piece i 0) (drop (suc i) piece ++ rest) n)

  pub one_line : (out : List ℕ) (at i count : ℕ) (pending : LineBuffer) (drill : Drill) (store : List ℕ) → i < length piece → get_or piece i 0 ≡ line_feed → at + line_room ≤ length out
      → (turn : Turn) (store' out' : List ℕ) (at' : ℕ) → turn ≡ (line_done (buffered_line pending) drill store).turn → store' ≡ (line_done (buffered_line pending) drill store).store
      → (at' ≡ place_after line_room out at (output_line (count + 1) turn.reply)) × (out' ≡ placed line_room out at (output_line (count + 1) turn.reply))
      → Upto piece count₀ pending₀ drill₀ store₀ out at i count pending drill store → Upto piece count₀ pending₀ drill₀ store₀ out' at' (i + 1) (count + 1) none_yet turn.drill store'
  one_line out at i count pending drill store h f room turn store' out' at' et es ep so rest =
      so rest ∙
      rw (drop-cons piece i 0 h, ends_line count pending drill store (get_or piece i 0) (drop (suc i) piece ++ rest) f, line_stands out at (count + 1) turn.reply out' at' room ep, et, es, add-one, add-one)
      (sym (append_assoc (take at out) (output_line (suc count) (line_done (buffered_line pending) drill store).turn.reply) _))

-- ---- the program's output is the drill's
push_last : (p : LineBuffer) (bs : List ℕ) (b : ℕ) → pushed_all p (bs ++ (b ∷ [])) ≡ pushed (pushed_all p bs) b
unfolding pushed_all
push_last p [] b = refl
push_last p (x ∷ bs) b = push_last (pushed p x) bs b

last_alike : (count : ℕ) (line : List ℕ) → last_output count (pushed_all none_yet line).len ≡ last_output count (length line)
unfolding last_output
last_alike count [] = rw (gathered_length [])
last_alike count (b ∷ bs) =
    rw (gathered_length (b ∷ bs), ne_eqb (length (take most_bytes (b ∷ bs))) 0 (λ z. omega (arith, length-take most_bytes (b ∷ bs))), ne_eqb (length (b ∷ bs)) 0 (λ z. omega arith))

-- keeping 64 bytes of a line changes nothing of what is printed
pub kept_alike : (bs line : List ℕ) (count : ℕ) (drill : Drill) (store : List ℕ)
    → buffered_output count (pushed_all none_yet line) drill store bs ≡ output_from count line drill store bs
unfolding buffered_output output_from pushed_all
kept_alike [] line count drill store = last_alike count line
kept_alike (b ∷ bs) line count drill store =
    let kept = line_done (buffered_line (pushed_all none_yet line)) drill store in
    let ended = (λ (i : 𝕀). output_line (suc count) kept.turn.reply ++ kept_alike bs [] (suc count) kept.turn.drill kept.store i) ∙
    ap (λ (l : Option Line). output_line (suc count) (line_done l drill store).turn.reply ++ output_from (suc count) [] (line_done l drill store).turn.drill (line_done l drill store).store bs) (gathered line) in
    let longer = ap (λ (p : LineBuffer). buffered_output count p drill store bs) (sym (push_last none_yet line b)) ∙ kept_alike bs (line ++ (b ∷ [])) count drill store in
    λ i. cond (eqb b line_feed) (ended i) (longer i)

-- so the program prints, from its start on, the drill's output
pub program_alike : (input : List ℕ) → progress_output at_start (replicate (record_count * record_size) 0) input ≡ drill_output input
unfolding progress_output at_start drill_output pushed_all
program_alike input = kept_alike input [] 0 no_group (replicate (record_count * record_size) 0)
