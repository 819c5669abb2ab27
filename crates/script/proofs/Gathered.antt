-- A line that was gathered byte by byte reads as the whole line: nothing is lost where only the first 64 bytes are kept.
use Prim.Native.Nat.{ℕ, suc, ◌<◌}
use native.Mathlib.Omega.{arith}
use mathlib.Core.Path.{◌≡◌, refl, sym, ◌∙◌}
use mathlib.Core.List.{List, [], ◌∷◌, ◌++◌, append-nil}
use lib.Dec.{ltb, leb}
use lib.ListN.{length, take, set, length-set, length-take, length-append}
use lib.Seq.{take_all, take-suc-set, take-append-le, length-take-le, append_snoc}
use borrow.Author.Tests.{ltb-true, ltb-false, leb-true, leb-false}
use Rattle.item.proofs.Tests.{by_cond}
use Rattle.script.specs.Line.{line_of}
use Rattle.script.proofs.Reading.{line_long}
use Rattle.std.specs.Prelude.{None}
use Rattle.script.specs.LineBuffer.{most_bytes, none_yet, pushed, pushed_all, buffered_line}
use Rattle.script.specs.declared.buffer.LineBuffer.{LineBuffer}

-- nothing is lost where only the first 64 bytes are kept
pub line_kept : (bs : List ℕ) → line_of (take most_bytes bs) ≡ line_of bs
line_kept bs =
    by_cond (λ (l : ℕ). line_of (take most_bytes bs) ≡ line_of bs) (leb (length bs) most_bytes) 0 0
    (λ e. rw (take_all most_bytes bs (leb-true (length bs) most_bytes e)))
    (λ e. let l = leb-false (length bs) most_bytes e in
    line_long (take most_bytes bs) (rw (length-take-le most_bytes bs (omega arith)) (omega arith)) ∙ sym (line_long bs (omega arith)))

-- what a pending line holds once the bytes have come: the first 64 of them
Holds : LineBuffer → List ℕ → Type 0
Holds p bs = (length p.bytes ≡ most_bytes) × (p.len ≡ length (take most_bytes bs)) × (take p.len p.bytes ≡ take most_bytes bs)

holds_more : (p : LineBuffer) (bs : List ℕ) (b : ℕ) → Holds p bs → Holds (pushed p b) (bs ++ (b ∷ []))
unfolding Holds pushed
holds_more p bs b h =
    by_cond (λ q. Holds q (bs ++ (b ∷ []))) (ltb p.len most_bytes) (record { bytes = set p.bytes p.len b; len = suc p.len }) p
    (λ e.
    let l = ltb-true p.len most_bytes e in
    let n = length-take most_bytes bs in
    let k : length bs < most_bytes = omega (arith, h.1) in
    let a : take most_bytes bs ≡ bs = take_all most_bytes bs (omega arith) in
    let m = length-append bs (b ∷ []) in
    let t : take most_bytes (bs ++ (b ∷ [])) ≡ bs ++ (b ∷ []) = take_all most_bytes (bs ++ (b ∷ [])) (omega arith) in (
      length-set p.bytes p.len b ∙ h.0,
      rw (t, m, h.1, a) (omega arith),
      rw t (take-suc-set p.bytes p.len b (omega (arith, h.0)) ∙ rw (h.2, a)),
    ))
    (λ e.
    let l = ltb-false p.len most_bytes e in
    let n = length-take most_bytes bs in
    let t : take most_bytes (bs ++ (b ∷ [])) ≡ take most_bytes bs = take-append-le most_bytes bs (b ∷ []) (omega (arith, h.1)) in
    (h.0, rw t h.1, rw t h.2))

holds_all : (p : LineBuffer) (bs : List ℕ) (cs : List ℕ) → Holds p bs → Holds (pushed_all p cs) (bs ++ cs)
unfolding pushed_all
holds_all p bs [] h = rw append-nil h
holds_all p bs (c ∷ cs) h = rw (append_snoc bs c cs) at (holds_all (pushed p c) (bs ++ (c ∷ [])) cs (holds_more p bs c h))

-- pushing all bytes of a line and reading gives what the line asks for, however long it is
pub gathered : (bs : List ℕ) → buffered_line (pushed_all none_yet bs) ≡ line_of bs
unfolding buffered_line Holds none_yet
gathered bs = rw (holds_all none_yet [] bs (refl, refl, refl)).2 (line_kept bs)

-- and as many are kept as came, up to 64
pub gathered_length : (bs : List ℕ) → (pushed_all none_yet bs).len ≡ length (take most_bytes bs)
unfolding Holds none_yet
gathered_length bs = (holds_all none_yet [] bs (refl, refl, refl)).1

-- more bytes than can be kept: unread
pub buffer_full : (p : LineBuffer) → length p.bytes ≡ most_bytes → most_bytes < p.len → buffered_line p ≡ None
unfolding buffered_line
buffer_full p e h = rw (take_all p.len p.bytes (omega arith)) (line_long p.bytes (omega arith))
