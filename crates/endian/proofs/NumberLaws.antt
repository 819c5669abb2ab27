-- Laws of numbers in bytes, each once over the width: reading undoes writing, writing undoes reading, and a wide number is
-- two narrower ones.
use Prim.Native.Nat.{ℕ, zero, suc, ◌+◌, ◌*◌, ◌/◌, ◌%◌, ◌^◌, ◌≤◌, ◌<◌}
use mathlib.Core.Path.{◌≡◌, refl, sym, ap, ◌∙◌}
use mathlib.Core.Bool.{Bool, false}
use mathlib.Core.List.{List, [], ◌∷◌, ◌++◌}
use native.Mathlib.Omega.{arith}
use native.Mathlib.Numerals.{add-one}
use native.Mathlib.Nat.{suc-add, zero-add, pow-suc, pow-succ', mul_assoc, mod-add-div, mod-mod, mod-lt, mod-eq_of_lt, div-eq_of_lt, div-lt_iff_lt-mul, div-div-eq-div-mul, div-one, add-mul-div_left, add-mul-mod_self_left, mul-add-mod_self_left}
use lib.Dec.{leb}
use lib.ListN.{length, take, drop, get_or, length-take, take-append-drop, get_or-eq_default}
use lib.Seq.{take-add, drop-drop, drop-cons, get_or-take, get_or-drop}
use Rattle.endian.proofs.PartLaws.{by_order, part_is, part_none, length_middle, length_with, part_with, with_none, with_joined, outside}
use Rattle.endian.specs.Number.{value, bytes, number_at, with_number, AreBytes}

pub length_bytes : (w v : ℕ) → length (bytes w v) ≡ w
unfolding bytes
length_bytes zero v = refl
length_bytes (suc w) v = ap suc (length_bytes w (v / 256))

-- reading undoes writing
pub value_bytes : (w v : ℕ) → v < 256 ^ w → value (bytes w v) ≡ v
unfolding value bytes
value_bytes zero v h = omega arith
value_bytes (suc w) v h =
    let small : v / 256 < 256 ^ w = (div-lt_iff_lt-mul {k = 256} {x = v} {y = 256 ^ w} (omega arith)).1 (rw (pow-suc 256 w) at h) in
    rw (value_bytes w (v / 256) small) (mod-add-div v 256)

pub bytes_tail : (b : ℕ) (l : List ℕ) → AreBytes (b ∷ l) → AreBytes l
unfolding AreBytes
bytes_tail b l k i = k (suc i)

-- writing undoes reading
pub bytes_value : (l : List ℕ) → AreBytes l → bytes (length l) (value l) ≡ l
unfolding value bytes AreBytes
bytes_value [] k = refl
bytes_value (b ∷ l) k =
    let low : (b + 256 * value l) % 256 ≡ b = add-mul-mod_self_left b 256 (value l) ∙ mod-eq_of_lt (k 0) in
    let high : (b + 256 * value l) / 256 ≡ value l = add-mul-div_left b (value l) (omega arith) ∙ ap (λ (n : ℕ). n + value l) (div-eq_of_lt (k 0)) ∙ zero-add (value l) in
    (λ i. low i ∷ bytes (length l) (high i)) ∙ ap (λ (t : List ℕ). b ∷ t) (bytes_value l (bytes_tail b l k))

-- what bytes say fits their width
pub value_fits : (l : List ℕ) → AreBytes l → value l < 256 ^ length l
unfolding value AreBytes
value_fits [] k = omega arith
value_fits (b ∷ l) k =
    let h : value l < 256 ^ length l = value_fits l (bytes_tail b l k) in
    let z : b < 256 = k 0 in
    rw pow-succ' (omega arith)

pub value_append : (a b : List ℕ) → value (a ++ b) ≡ value a + 256 ^ length a * value b
unfolding value
value_append [] b = omega arith
value_append (x ∷ a) b = rw (value_append a b, pow-succ', mul_assoc) (omega arith)

-- a number's low digits, one digit at a time
low_digits : (n m : ℕ) → 0 < m → n % (256 * m) ≡ n % 256 + 256 * (n / 256 % m)
low_digits n m p =
    let d : n % 256 + 256 * (n / 256) ≡ n = mod-add-div n 256 in
    let e : n / 256 % m + m * (n / 256 / m) ≡ n / 256 = mod-add-div (n / 256) m in
    let a : n % 256 < 256 = mod-lt n (omega arith) in
    let b : n / 256 % m < m = mod-lt (n / 256) p in
    let g : 256 * m * (n / 256 / m) + (n % 256 + 256 * (n / 256 % m)) ≡ n = rw mul_assoc (omega arith) in
    ap (λ (k : ℕ). k % (256 * m)) (sym g)
    ∙ mul-add-mod_self_left (256 * m) (n / 256 / m) (n % 256 + 256 * (n / 256 % m))
    ∙ mod-eq_of_lt (omega arith)

pub one_at_least : (w : ℕ) → 0 < 256 ^ w
one_at_least zero = omega arith
one_at_least (suc w) = let h : 0 < 256 ^ w = one_at_least w in rw pow-succ' (omega arith)

-- the low bytes do not look at what lies above them
pub bytes_low : (w v : ℕ) → bytes w (v % 256 ^ w) ≡ bytes w v
unfolding bytes
bytes_low zero v = refl
bytes_low (suc w) v =
    let e : v % 256 ^ suc w ≡ v % 256 + 256 * (v / 256 % 256 ^ w) = rw (pow-succ' 256 w) (low_digits v (256 ^ w) (one_at_least w)) in
    let low : v % 256 ^ suc w % 256 ≡ v % 256 = rw e (add-mul-mod_self_left (v % 256) 256 (v / 256 % 256 ^ w) ∙ mod-mod v 256) in
    let z : v % 256 / 256 ≡ 0 = div-eq_of_lt (mod-lt v (omega arith)) in
    let high : v % 256 ^ suc w / 256 ≡ v / 256 % 256 ^ w = rw e (add-mul-div_left (v % 256) (v / 256 % 256 ^ w) (omega arith) ∙ rw z (zero-add (v / 256 % 256 ^ w))) in
    (λ i. low i ∷ bytes w (high i)) ∙ ap (λ (t : List ℕ). v % 256 ∷ t) (bytes_low w (v / 256))

pub bytes_append : (a b v : ℕ) → bytes (a + b) v ≡ bytes a v ++ bytes b (v / 256 ^ a)
unfolding bytes
bytes_append zero b v = ap (λ (k : ℕ). bytes k v) (zero-add b) ∙ ap (λ (k : ℕ). bytes b k) (sym (div-one v))
bytes_append (suc a) b v =
    let e : v / 256 / 256 ^ a ≡ v / 256 ^ suc a = div-div-eq-div-mul v 256 (256 ^ a) ∙ ap (λ (k : ℕ). v / k) (sym (pow-succ' 256 a)) in
    rw suc-add (ap (λ (l : List ℕ). v % 256 ∷ l) (bytes_append a b (v / 256) ∙ ap (λ (k : ℕ). bytes a (v / 256) ++ bytes b k) e))

-- ---- numbers in a list

-- two bytes, as code reads them
pub number_two : (s : List ℕ) (at : ℕ) → at + 2 ≤ length s → number_at 2 s at ≡ get_or s at 0 + 256 * get_or s (at + 1) 0
unfolding number_at value
number_two s at h = rw (part_is 2 s at h, add-one, drop-cons s at 0 (omega arith), drop-cons s (suc at) 0 (omega arith)) (omega arith)

-- past the end there is no number
pub number_none : (w : ℕ) (s : List ℕ) (at : ℕ) → length s < at + w → number_at w s at ≡ 0
unfolding number_at value
number_none w s at h = rw (part_none w s at h)

pub with_number_none : (w : ℕ) (s : List ℕ) (at v : ℕ) → length s < at + w → with_number w s at v ≡ s
unfolding with_number
with_number_none w s at v h = with_none w s at (bytes w v) h

-- a wide number is two narrower ones
pub number_joined : (a b : ℕ) (s : List ℕ) (at : ℕ) → at + (a + b) ≤ length s
    → number_at (a + b) s at ≡ number_at a s at + 256 ^ a * number_at b s (at + a)
unfolding number_at
number_joined a b s at h =
    rw (part_is (a + b) s at h, part_is a s at (omega arith), part_is b s (at + a) (omega arith), take-add a b (drop at s), drop-drop a at s)
    (value_append (take a (drop at s)) (take b (drop (at + a) s))
    ∙ ap (λ (k : ℕ). value (take a (drop at s)) + 256 ^ k * value (take b (drop (at + a) s))) (length_middle a s at (omega arith)))

pub with_number_joined : (a b : ℕ) (s : List ℕ) (at v : ℕ) → at + (a + b) ≤ length s
    → with_number b (with_number a s at (v % 256 ^ a)) (at + a) (v / 256 ^ a) ≡ with_number (a + b) s at v
unfolding with_number
with_number_joined a b s at v h =
    rw (bytes_low a v, bytes_append a b v) (with_joined a b s at (bytes a v) (bytes b (v / 256 ^ a)) (length_bytes a v) (length_bytes b (v / 256 ^ a)) h)

-- as code writes: r is the answer whether the bytes lie within s
pub nothing_written : {r : Bool} (w : ℕ) (s : List ℕ) (at : ℕ) → r ≡ leb (at + w) (length s) → (v : ℕ) → r ≡ false → s ≡ with_number w s at v
nothing_written w s at e v h = sym (with_number_none w s at v (outside w (length s) at e h))

pub length_with_number : (w : ℕ) (s : List ℕ) (at v : ℕ) → length (with_number w s at v) ≡ length s
unfolding with_number
length_with_number w s at v = length_with w s at (bytes w v) (length_bytes w v)

-- what was written is read
pub number_of_with : (w : ℕ) (s : List ℕ) (at v : ℕ) → at + w ≤ length s → v < 256 ^ w → number_at w (with_number w s at v) at ≡ v
unfolding number_at with_number
number_of_with w s at v h k = ap value (part_with w s at (bytes w v) (length_bytes w v) h) ∙ value_bytes w v k

pub bytes_drop : (n : ℕ) (l : List ℕ) → AreBytes l → AreBytes (drop n l)
unfolding AreBytes
bytes_drop n l k i = rw (get_or-drop n l i 0) (k (n + i))

pub bytes_take : (n : ℕ) (l : List ℕ) → AreBytes l → AreBytes (take n l)
unfolding AreBytes
bytes_take n l k i =
    by_order n i
    (λ h. rw (get_or-eq_default (take n l) 0 {n = i} (omega (arith, length-take n l))) (omega arith))
    (λ h. rw (get_or-take n l i 0 h) (k i))

-- a number that was read is written as it stood, before what follows it
pub number_again : (w : ℕ) (s : List ℕ) (at : ℕ) → AreBytes s → at + w ≤ length s
    → bytes w (number_at w s at) ++ drop (at + w) s ≡ drop at s
unfolding number_at
number_again w s at k h =
    let l : length (take w (drop at s)) ≡ w = length_middle w s at h in
    let e : bytes w (value (take w (drop at s))) ≡ take w (drop at s) =
    ap (λ (n : ℕ). bytes n (value (take w (drop at s)))) (sym l) ∙ bytes_value (take w (drop at s)) (bytes_take w (drop at s) (bytes_drop at s k)) in
    rw (part_is w s at h, e, ← drop-drop w at s) (take-append-drop w (drop at s))
