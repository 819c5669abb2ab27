-- A table checked node by node is document 01's sound table.
use Prim.Native.Nat.{ℕ, zero, suc, ◌+◌, ◌≤◌}
use mathlib.Core.Path.{◌≡◌, refl, sym, ap, ◌∙◌}
use mathlib.Core.Bool.{Bool, true, false, ◌&&◌}
use mathlib.Core.List.{List, [], ◌∷◌, ◌++◌}
use native.Mathlib.Omega.{arith}
use lib.Dec.{eqb}
use lib.ListN.{length, get_or, take}
use lib.Seq.{take-suc, take-length, length-take-le}
use Rattle.protocol.specs.Sound.{sound_node, every_from}
use Rattle.protocol.specs.Table.{no_node, sound_table}
use Rattle.protocol.specs.declared.Node.{Node}
use Rattle.table.proofs.CheckLaws.{sound_to}

and_rest : (a b c : Bool) → ((a && b) && c) ≡ (a && (b && c))
and_rest true b c = refl
and_rest false b c = refl

and_end : (a : Bool) → (a && true) ≡ a
and_end true = refl
and_end false = refl

-- one more element, at the end
every_last : {A : Type 0} (test : ℕ → A → Bool) (k : ℕ) (xs : List A) (x : A) → every_from test k (xs ++ x ∷ []) ≡ (every_from test k xs && test (k + length xs) x)
unfolding every_from
every_last test k [] x =
    let e : k + 0 ≡ k = omega arith in
    rw e (and_end (test k x))
every_last test k (y ∷ xs) x =
    let e : k + suc (length xs) ≡ suc k + length xs = omega arith in
    rw (e, every_last test (suc k) xs x) (sym (and_rest (test k y) (every_from test (suc k) xs) (test (suc k + length xs) x)))

-- the first k nodes
sound_first : (n : ℕ) (t : List Node) (k : ℕ) → k ≤ length t → sound_to n t k ≡ (eqb (length t) n && every_from (sound_node n) 0 (take k t))
unfolding sound_to every_from
sound_first n t zero h = sym (and_end (eqb (length t) n))
sound_first n t (suc k) h =
    let l : 0 + length (take k t) ≡ k = omega (arith, length-take-le k t (omega arith)) in
    rw (sound_first n t k (omega arith), take-suc t k no_node (omega arith), every_last (sound_node n) 0 (take k t) (get_or t k no_node), l)
    (and_rest (eqb (length t) n) (every_from (sound_node n) 0 (take k t)) (sound_node n k (get_or t k no_node)))

pub sound_all : (n : ℕ) (t : List Node) → sound_to n t (length t) ≡ sound_table n t
unfolding sound_table
sound_all n t = sound_first n t (length t) (omega arith) ∙ ap (λ (l : List Node). eqb (length t) n && every_from (sound_node n) 0 l) (take-length t)
