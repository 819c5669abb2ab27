-- Laws of a number that is read and written by eight bytes, of which it has the lowest.
use Prim.Native.Nat.{ℕ, zero, suc, ◌+◌, ◌-◌, ◌/◌, ◌%◌, ◌^◌, ◌≤◌, ◌<◌}
use mathlib.Core.Path.{◌≡◌, refl, sym, ap, ◌∙◌}
use mathlib.Core.List.{List, [], ◌∷◌, ◌++◌}
use native.Mathlib.Omega.{arith}
use native.Mathlib.Nat.{mod-eq_of_lt, div-div-eq-div-mul}
use lib.ListN.{length, take, drop, length-append, length-drop}
use borrow.Rule.Slice.PartMut.{put_mid}
use lib.Seq.{take_at}
use Rattle.std.specs.Int.{w64, from_le_bytes, to_le_bytes}
use Rattle.endian.proofs.PartLaws.{part_is, put_back, length_middle}
use Rattle.endian.proofs.NumberLaws.{value_append, value_fits, bytes_append, length_bytes, bytes_take, bytes_drop, one_at_least, number_none}
use Rattle.endian.specs.Number.{value, bytes, number_at, with_number, AreBytes}

value_eight : (l : List ℕ) → length l ≡ 8 → from_le_bytes w64 l ≡ value l
unfolding value
value_eight (a ∷ b ∷ c ∷ d ∷ e ∷ f ∷ g ∷ h ∷ []) p = omega arith
value_eight (a ∷ b ∷ c ∷ d ∷ e ∷ f ∷ g ∷ h ∷ i ∷ l) p = absurd (omega arith)
value_eight (a ∷ b ∷ c ∷ d ∷ e ∷ f ∷ g ∷ []) p = absurd (omega arith)
value_eight (a ∷ b ∷ c ∷ d ∷ e ∷ f ∷ []) p = absurd (omega arith)
value_eight (a ∷ b ∷ c ∷ d ∷ e ∷ []) p = absurd (omega arith)
value_eight (a ∷ b ∷ c ∷ d ∷ []) p = absurd (omega arith)
value_eight (a ∷ b ∷ c ∷ []) p = absurd (omega arith)
value_eight (a ∷ b ∷ []) p = absurd (omega arith)
value_eight (a ∷ []) p = absurd (omega arith)
value_eight [] p = absurd (omega arith)

bytes_eight : (v : ℕ) → to_le_bytes w64 v ≡ bytes 8 v
unfolding bytes
bytes_eight v = simp div-div-eq-div-mul refl

zero_dropped : (w : ℕ) (l : List ℕ) → value l ≡ 0 → value (drop w l) ≡ 0
unfolding value
zero_dropped zero l z = z
zero_dropped (suc w) [] z = refl
zero_dropped (suc w) (b ∷ l) z = zero_dropped w l (omega arith)

-- past the end there is no number
pub none_low : (w : ℕ) (s : List ℕ) (at : ℕ) → length s < at + w → 0 % 256 ^ w ≡ number_at w s at
none_low w s at h = mod-eq_of_lt (one_at_least w) ∙ sym (number_none w s at h)

module _ (w : ℕ) (few : w ≤ 8) (s : List ℕ) (at : ℕ) where
  -- what lies within s, before zero bytes
  pub read_low : AreBytes s → at + w ≤ length s → (l z : List ℕ) → l ≡ take (at + w - at) (drop at s) → value z ≡ 0 → length z ≡ 8
      → from_le_bytes w64 (l ++ drop w z) % 256 ^ w ≡ number_at w s at
  unfolding number_at
  read_low k h l z el vz lz =
      let e : at + w - at ≡ w = omega arith in
      let p : l ≡ take w (drop at s) = el ∙ ap (λ (n : ℕ). take n (drop at s)) e in
      let n : length l ≡ w = ap length p ∙ length_middle w s at h in
      let all : length (l ++ drop w z) ≡ 8 = length-append l (drop w z) ∙ simp (n, length-drop, lz) (omega arith) in
      let small : value l < 256 ^ w = rw (← n) (value_fits l (rw p (bytes_take w (drop at s) (bytes_drop at s k)))) in
      let v : from_le_bytes w64 (l ++ drop w z) ≡ value l =
      value_eight (l ++ drop w z) all ∙ value_append l (drop w z) ∙ rw (zero_dropped w z vz) (omega arith) in
      ap (λ (n : ℕ). n % 256 ^ w) v ∙ mod-eq_of_lt small ∙ ap value p ∙ ap value (sym (part_is w s at h))

  -- the lowest of eight bytes
  pub written_low : (v : ℕ) (eight : List ℕ) → eight ≡ to_le_bytes w64 v → at + w ≤ length s → (l : List ℕ) → l ≡ take w eight → put_mid at (at + w - at) s l ≡ with_number w s at v
  unfolding with_number
  written_low v eight ee h l el =
      let e : w + (8 - w) ≡ 8 = omega arith in
      let b : bytes 8 v ≡ bytes w v ++ bytes (8 - w) (v / 256 ^ w) = ap (λ (n : ℕ). bytes n v) (sym e) ∙ bytes_append w (8 - w) v in
      let p : l ≡ bytes w v = el ∙ ap (take w) (ee ∙ bytes_eight v ∙ b) ∙ take_at (bytes w v) (bytes (8 - w) (v / 256 ^ w)) w (length_bytes w v) in
      ap (put_mid at (at + w - at) s) p ∙ put_back w s at (bytes w v) h
