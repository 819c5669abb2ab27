-- Laws of functions on node numbers with the value at one number replaced, and lists read as such functions.
use Prim.Native.Nat.{ℕ, ◌<◌}
use mathlib.Core.Path.{◌≡◌, refl}
use mathlib.Core.Logic.{◌≢◌}
use mathlib.Core.Bool.{Bool, true, false}
use mathlib.Core.List.{List}
use lib.Dec.{eqb}
use lib.ListN.{length, get_or, set}
use lib.Seq.{get_or-set_same, get_or-set_other}
use borrow.Author.Tests.{eqb-true, eqb-false, eq-eqb, ne_eqb}
use Rattle.std.proofs.Math.Path.{fun_ext}
use Rattle.item.proofs.Tests.{by_cond}
use Rattle.returns.specs.Replace.{replaced}

pub replaced_same : {A : Type 0} (h : ℕ → A) (p : ℕ) (a : A) → replaced h p a p ≡ a
replaced_same h p a = rw (eq-eqb p p refl)

pub replaced_other : {A : Type 0} (h : ℕ → A) (p : ℕ) (a : A) (q : ℕ) → q ≢ p → replaced h p a q ≡ h q
replaced_other h p a q d = rw (ne_eqb q p d)

-- what holds of the new value, and of the old ones elsewhere, holds everywhere
pub replaced_each : {A : Type 0} (P : ℕ → A → Type 0) (h : ℕ → A) (p : ℕ) (a : A) → P p a → ((q : ℕ) → q ≢ p → P q (h q))
    → (q : ℕ) → P q (replaced h p a q)
replaced_each P h p a new old q = by_cond (P q) (eqb q p) a (h q) (λ e. rw (eqb-true q p e) new) (λ e. old q (eqb-false q p e))

-- the same for two functions replaced at the same number
pub replaced_both : {A B : Type 0} (P : ℕ → A → B → Type 0) (h : ℕ → A) (k : ℕ → B) (p : ℕ) (a : A) (b : B) → P p a b
    → ((q : ℕ) → q ≢ p → P q (h q) (k q)) → (q : ℕ) → P q (replaced h p a q) (replaced k p b q)
replaced_both P h k p a b new old q = go (eqb q p) refl
  where
    go : (t : Bool) → eqb q p ≡ t → P q (replaced h p a q) (replaced k p b q)
    go true e = rw (eqb-true q p e, eq-eqb p p refl) new
    go false e = rw e (old q (eqb-false q p e))

-- A list in which one element is set, read as a function through `see`, is the function with one value replaced. It
-- serves for the table of nodes (see: the view of a node) and for the arrays of a node (see: a flag, an incarnation).
pub seen_set : {A B : Type 0} (see : A → B) (none : A) (l : List A) (p : ℕ) (a : A) → p < length l
    → (λ (q : ℕ). see (get_or (set l p a) q none)) ≡ replaced (λ q. see (get_or l q none)) p (see a)
seen_set see none l p a below = fun_ext (λ q. by_cond (λ b. see (get_or (set l p a) q none) ≡ b) (eqb q p) (see a) (see (get_or l q none))
    (λ e. rw (eqb-true q p e, get_or-set_same l p a none below))
    (λ e. rw (get_or-set_other l p q a none (eqb-false q p e))))
