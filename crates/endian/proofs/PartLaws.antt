-- Laws of `part` and `with_part`, over the width: what is written is read back, nothing else changes, and two parts that
-- meet are one.
use Prim.Native.Nat.{ℕ, zero, suc, ◌+◌, ◌-◌, ◌≤◌, ◌<◌}
use mathlib.Core.Path.{◌≡◌, refl, sym, ap, ◌∙◌}
use mathlib.Core.Bool.{Bool, true, false}
use mathlib.Core.Logic.{◌⊎◌, ⊎_elim}
use mathlib.Core.List.{List, [], ◌∷◌, ◌++◌, append_assoc}
use native.Mathlib.Omega.{arith}
use native.Mathlib.Nat.{suc-add, zero-add, add-zero, lt_of_not-le}
use native.Mathlib.Decide.{dec_le}
use lib.Dec.{leb}
use borrow.Author.Tests.{eq-eqb, ne_eqb, le-leb, lt-leb, leb-true, leb-false}
use borrow.Rule.Slice.PartMut.{put_mid}
use lib.ListN.{length, take, drop, length-append, length-take, length-drop, take-append-drop}
use lib.Seq.{length-take-le, take_at, drop_at, take-take, drop-drop, take_all, take-nil, sets, sets-eq}
use Rattle.endian.specs.Part.{whole, part, with_part}

-- a proof by cases: a ≤ b or not
pub by_order : {P : Type 0} (a b : ℕ) → (a ≤ b → P) → (b < a → P) → P
by_order a b f g = elim (dec_le a b) [ yes h ↦ f h | no h ↦ g (lt_of_not-le h) ]

pub take_of_drop : (v b : ℕ) (s : List ℕ) → take v (drop b s) ≡ drop b (take (b + v) s)
take_of_drop v zero s = ap (λ (k : ℕ). take k s) (sym (zero-add v))
take_of_drop v (suc b) [] = rw suc-add (take-nil {A = ℕ} v)
take_of_drop v (suc b) (x ∷ s) = rw suc-add (take_of_drop v b s)

module _ (w : ℕ) (s : List ℕ) (at : ℕ) where
  pub length_middle : at + w ≤ length s → length (take w (drop at s)) ≡ w
  length_middle h = length-take-le w (drop at s) (simp length-drop (omega arith))

  pub part_is : at + w ≤ length s → part w s at ≡ take w (drop at s)
  unfolding part whole
  part_is h = rw (eq-eqb (length (take w (drop at s))) w (length_middle h))

  -- a part that is lent
  pub lent : at + w ≤ length s → take (at + w - at) (drop at s) ≡ part w s at
  lent h =
      let e : at + w - at ≡ w = omega arith in
      rw e (sym (part_is h))

  pub length_part : at + w ≤ length s → length (part w s at) ≡ w
  length_part h = rw part_is (length_middle h)

  module _ (l : List ℕ) where
    pub with_is : at + w ≤ length s → with_part w s at l ≡ take at s ++ (l ++ drop (at + w) s)
    unfolding with_part
    with_is h = rw (le-leb (at + w) (length s) h)

    pub with_none : length s < at + w → with_part w s at l ≡ s
    unfolding with_part
    with_none h = rw (lt-leb (at + w) (length s) h)

    -- a part that was lent and came back as l
    pub put_back : at + w ≤ length s → put_mid at (at + w - at) s l ≡ with_part w s at l
    put_back h =
        let e : at + w - at ≡ w = omega arith in
        rw (e, drop-drop w at s) (sym (with_is h))

    module _ (long : length l ≡ w) where
      pub length_with : length (with_part w s at l) ≡ length s
      length_with =
          by_order (at + w) (length s)
          (λ h. ap length (with_is h) ∙ simp (length-append, length-drop, length-take-le at s (omega arith)) (omega arith))
          (λ h. ap length (with_none h))

      -- what was written is there
      pub part_with : at + w ≤ length s → part w (with_part w s at l) at ≡ l
      unfolding part whole
      part_with h =
          let e : take w (drop at (with_part w s at l)) ≡ l = rw (with_is h, drop_at (take at s) (l ++ drop (at + w) s) at (length-take-le at s (omega arith))) (take_at l (drop (at + w) s) w long) in
          rw (e, eq-eqb (length l) w long)

      drop_with : drop (at + w) (with_part w s at l) ≡ drop (at + w) s
      drop_with =
          by_order (at + w) (length s)
          (λ h. rw (with_is h, ← append_assoc (take at s) l (drop (at + w) s))
          (drop_at (take at s ++ l) (drop (at + w) s) (at + w) (length-append (take at s) l ∙ simp (length-take-le at s (omega arith), long))))
          (λ h. rw (with_none h))

      take_with : take at (with_part w s at l) ≡ take at s
      take_with =
          by_order (at + w) (length s)
          (λ h. rw (with_is h) (take_at (take at s) (l ++ drop (at + w) s) at (length-take-le at s (omega arith))))
          (λ h. rw (with_none h))

      -- and what does not meet it is as it was
      pub part_with_other : (v b : ℕ) → (b + v ≤ at) ⊎ (at + w ≤ b) → part v (with_part w s at l) b ≡ part v s b
      unfolding part
      part_with_other v b d = ap (whole v) (⊎_elim before after d)
        where
          before : b + v ≤ at → take v (drop b (with_part w s at l)) ≡ take v (drop b s)
          before h =
              take_of_drop v b (with_part w s at l)
              ∙ ap (drop b) (sym (take-take (b + v) at (with_part w s at l) h) ∙ ap (take (b + v)) take_with ∙ take-take (b + v) at s h)
              ∙ sym (take_of_drop v b s)

          after : at + w ≤ b → take v (drop b (with_part w s at l)) ≡ take v (drop b s)
          after h =
              let e : at + w + (b - (at + w)) ≡ b = omega arith in
              ap (take v)
              (ap (λ (k : ℕ). drop k (with_part w s at l)) (sym e)
              ∙ sym (drop-drop (b - (at + w)) (at + w) (with_part w s at l))
              ∙ ap (drop (b - (at + w))) drop_with
              ∙ drop-drop (b - (at + w)) (at + w) s
              ∙ ap (λ (k : ℕ). drop k s) e)

-- no part lies past the end
pub part_none : (w : ℕ) (s : List ℕ) (at : ℕ) → length s < at + w → part w s at ≡ []
unfolding part whole
part_none zero s at h = refl
part_none (suc w) s at h =
    rw (ne_eqb (length (take (suc w) (drop at s))) (suc w) (λ e. let m = simp (length-take, length-drop) at e in omega arith))

-- a part between two others
pub part_seam : (w : ℕ) (p q t : List ℕ) (at : ℕ) → length p ≡ at → length q ≡ w → part w (p ++ (q ++ t)) at ≡ q
unfolding part whole
part_seam w p q t at lp lq = rw (drop_at p (q ++ t) at lp, take_at q t w lq, eq-eqb (length q) w lq)

-- what the test of a place tells, taken or left
pub outside : {r : Bool} (w len at : ℕ) → r ≡ leb (at + w) len → r ≡ false → len < at + w
outside {r} w len at e h = leb-false (at + w) len (sym e ∙ h)

pub inside : {r : Bool} (w len at : ℕ) → r ≡ leb (at + w) len → r ≡ true → at + w ≤ len
inside {r} w len at e h = leb-true (at + w) len (sym e ∙ h)

-- two parts that meet are one
pub with_joined : (a b : ℕ) (s : List ℕ) (at : ℕ) (x y : List ℕ) → length x ≡ a → length y ≡ b → at + (a + b) ≤ length s
    → with_part b (with_part a s at x) (at + a) y ≡ with_part (a + b) s at (x ++ y)
with_joined a b s at x y lx ly h =
    let l₁ : length (with_part a s at x) ≡ length s = length_with a s at x lx in
    let front : length (take at s ++ x) ≡ at + a = length-append (take at s) x ∙ simp (length-take-le at s (omega arith), lx) in
    let s₁ : with_part a s at x ≡ (take at s ++ x) ++ drop (at + a) s = with_is a s at x (omega arith) ∙ sym (append_assoc (take at s) x (drop (at + a) s)) in
    let t : take (at + a) (with_part a s at x) ≡ take at s ++ x = rw s₁ (take_at (take at s ++ x) (drop (at + a) s) (at + a) front) in
    let e : at + a + b ≡ at + (a + b) = omega arith in
    let d : drop (at + a + b) (with_part a s at x) ≡ drop (at + (a + b)) s =
    sym (drop-drop b (at + a) (with_part a s at x))
    ∙ ap (drop b) (rw s₁ (drop_at (take at s ++ x) (drop (at + a) s) (at + a) front))
    ∙ drop-drop b (at + a) s
    ∙ ap (λ (k : ℕ). drop k s) e in
    with_is b (with_part a s at x) (at + a) y (omega arith)
    ∙ (λ i. t i ++ (y ++ d i))
    ∙ append_assoc (take at s) x (y ++ drop (at + (a + b)) s)
    ∙ ap (λ (l : List ℕ). take at s ++ l) (sym (append_assoc x y (drop (at + (a + b)) s)))
    ∙ sym (with_is (a + b) s at (x ++ y) h)

-- stores one after the other are a part
pub sets_is : (vs s : List ℕ) (at : ℕ) → at + length vs ≤ length s → sets s at vs ≡ with_part (length vs) s at vs
sets_is vs s at h =
    sets-eq vs s at h ∙ append_assoc (take at s) vs (drop (at + length vs) s) ∙ sym (with_is (length vs) s at vs h)

-- nothing, written anywhere
pub with_nothing : (s : List ℕ) (at : ℕ) → with_part 0 s at [] ≡ s
with_nothing s at =
    by_order (at + 0) (length s)
    (λ h. with_is 0 s at [] h ∙ ap (λ (k : ℕ). take at s ++ drop k s) (add-zero at) ∙ take-append-drop at s)
    (λ h. with_none 0 s at [] h)

-- a list of w elements, written whole
pub with_all : (w : ℕ) (s l : List ℕ) → length s ≡ w → length l ≡ w → with_part w s 0 l ≡ l
with_all w s l ls ll = sym (sym (part_with w s 0 l ll (omega arith)) ∙ part_is w (with_part w s 0 l) 0 (omega (arith, length_with w s 0 l ll)) ∙ take_all w (with_part w s 0 l) (omega (arith, length_with w s 0 l ll)))
