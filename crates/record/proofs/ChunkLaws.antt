-- Laws of chunks, over their size: a chunk written is read back, every other is as it was, and a list cut once has the
-- same chunks.
use Prim.Native.Nat.{ℕ, zero, suc, ◌+◌, ◌*◌, ◌≤◌, ◌<◌}
use mathlib.Core.Path.{◌≡◌, sym, ap, ◌∙◌}
use mathlib.Core.List.{List, [], ◌∷◌, ◌++◌, append_assoc}
use native.Mathlib.Omega.{arith}
use native.Mathlib.Nat.{suc-mul, zero-mul, mul-le-mul_right, zero-add, add_comm, le_refl, not-suc-le-zero, le_of_suc-le-suc}
use lib.ListN.{length, take, drop, get_or, set, length-drop}
use lib.Seq.{drop-drop, take-add, take_at, drop_at, length-take-le}
use Rattle.endian.proofs.PartLaws.{part_is, with_is}
use Rattle.record.specs.Chunk.{chunk, with_chunk, cut}

-- an earlier chunk ends before a later one begins
ends_before : (size i j : ℕ) → i < j → i * size + size ≤ j * size
ends_before size i j h = rw (← suc-mul i size) (mul-le-mul_right size h)

-- ---- a list cut once

-- a chunk that lies within, cut out
pub get_or_cut : (size k : ℕ) (s : List ℕ) (i : ℕ) (c : List ℕ) → i < k → get_or (cut size k s) i c ≡ take size (drop (i * size) s)
unfolding cut
get_or_cut size zero s i c h = absurd (not-suc-le-zero h)
get_or_cut size (suc k) s zero c h = rw (zero-mul size)
get_or_cut size (suc k) s (suc i) c h =
    get_or_cut size k (drop size s) i c (le_of_suc-le-suc h)
    ∙ ap (take size) (drop-drop (i * size) size s ∙ ap (λ (n : ℕ). drop n s) (add_comm size (i * size) ∙ sym (suc-mul i size)))

within : (size k i len : ℕ) → i < k → len ≡ k * size → i * size + size ≤ len
within size k i len h e = rw e (ends_before size i k h)

-- chunk i of a list of k chunks
pub cut_chunk : (size k : ℕ) (s : List ℕ) (i : ℕ) → i < k → length s ≡ k * size → get_or (cut size k s) i [] ≡ chunk size s i
unfolding chunk
cut_chunk size k s i h e =
    get_or_cut size k s i [] h ∙ sym (part_is size s (i * size) (within size k i (length s) h e))

-- and with another chunk for it
pub cut_with : (size k : ℕ) (s : List ℕ) (i : ℕ) (c : List ℕ) → length c ≡ size → i < k → length s ≡ k * size
    → cut size k (with_chunk size s i c) ≡ set (cut size k s) i c
unfolding with_chunk cut
cut_with size k s i c lc h e =
    ap (cut size k) (with_is size s (i * size) c (within size k i (length s) h e))
    ∙ go k s i h (rw e (le_refl (k * size)))
  where
    -- at the front; and past the first chunk, which is kept
    go : (k : ℕ) (s : List ℕ) (i : ℕ) → i < k → k * size ≤ length s → cut size k (take (i * size) s ++ (c ++ drop (i * size + size) s)) ≡ set (cut size k s) i c
    go zero s i h l = absurd (not-suc-le-zero h)
    go (suc k) s zero h l =
        rw (zero-mul size, zero-add size)
        (λ j. take_at c (drop size s) size lc j ∷ cut size k (drop_at c (drop size s) size lc j))
    go (suc k) s (suc i) h l =
        let m : size + k * size ≤ length s = rw (suc-mul k size, add_comm (k * size) size) at l in
        let r : List ℕ = c ++ drop (suc i * size + size) s in
        let lf : length (take size s) ≡ size = length-take-le size s (omega arith) in
        let front : take (suc i * size) s ≡ take size s ++ take (i * size) (drop size s) =
        ap (λ (n : ℕ). take n s) (suc-mul i size ∙ add_comm (i * size) size) ∙ take-add size (i * size) s in
        let past : suc i * size + size ≡ size + (i * size + size) = rw (suc-mul i size) (omega arith) in
        let back : drop (suc i * size + size) s ≡ drop (i * size + size) (drop size s) =
        ap (λ (n : ℕ). drop n s) past ∙ sym (drop-drop (i * size + size) size s) in
        let whole : take (suc i * size) s ++ r ≡ take size s ++ (take (i * size) (drop size s) ++ (c ++ drop (i * size + size) (drop size s))) =
        (λ j. front j ++ (c ++ back j)) ∙ append_assoc (take size s) (take (i * size) (drop size s)) (c ++ drop (i * size + size) (drop size s)) in
        ap (cut size (suc k)) whole
        ∙ (λ j. take_at (take size s) (take (i * size) (drop size s) ++ (c ++ drop (i * size + size) (drop size s))) size lf j
        ∷ cut size k (drop_at (take size s) (take (i * size) (drop size s) ++ (c ++ drop (i * size + size) (drop size s))) size lf j))
        ∙ ap (λ (cs : List (List ℕ)). take size s ∷ cs) (go k (drop size s) i (le_of_suc-le-suc h) (rw length-drop (omega arith)))
