-- A table filled node by node is the table that set-up leaves.
use Prim.Native.Nat.{ℕ, zero, suc, ◌+◌, ◌≤◌}
use mathlib.Core.Path.{◌≡◌, refl, sym, ap, ◌∙◌}
use mathlib.Core.List.{List, [], ◌∷◌, ◌++◌, append_assoc, append-nil}
use native.Mathlib.Omega.{arith}
use lib.ListN.{length, get_or, set, drop, drop_of_length-le}
use lib.Seq.{drop-cons, set-append_seam}
use Rattle.protocol.specs.Node.{fresh_node}
use Rattle.protocol.specs.Table.{no_node, fresh_nodes, fresh_table}
use Rattle.protocol.specs.declared.Node.{Node}
use Rattle.table.specs.Fill.{fresh_to}

fresh_length : (n k left : ℕ) → length (fresh_nodes n k left) ≡ left
unfolding fresh_nodes
fresh_length n k zero = refl
fresh_length n k (suc left) = ap suc (fresh_length n (suc k) left)

-- one more node, at the end
fresh_last : (n k left : ℕ) → fresh_nodes n k (suc left) ≡ fresh_nodes n k left ++ fresh_node (k + left) n ∷ []
unfolding fresh_nodes
fresh_last n k zero =
    let e : k + 0 ≡ k = omega arith in
    ap (λ (j : ℕ). fresh_node j n ∷ []) (sym e)
fresh_last n k (suc left) =
    let e : suc k + left ≡ k + suc left = omega arith in
    ap (λ (l : List Node). fresh_node k n ∷ l) (fresh_last n (suc k) left ∙ ap (λ (j : ℕ). fresh_nodes n (suc k) left ++ fresh_node j n ∷ []) e)

fresh_none : (n : ℕ) → fresh_nodes n 0 0 ≡ []
unfolding fresh_nodes
fresh_none n = refl

-- the first k nodes, and the others as they were
fresh_first : (n : ℕ) (t : List Node) (k : ℕ) → k ≤ length t → fresh_to n t k ≡ fresh_nodes n 0 k ++ drop k t
unfolding fresh_to
fresh_first n t zero h = ap (λ (l : List Node). l ++ t) (sym (fresh_none n))
fresh_first n t (suc k) h =
    let fs = fresh_nodes n 0 k in
    let l : length fs ≡ k = fresh_length n 0 k in
    let z : 0 + k ≡ k = omega arith in
    ap (λ (u : List Node). set u k (fresh_node k n)) (fresh_first n t k (omega arith) ∙ ap (λ (u : List Node). fs ++ u) (drop-cons t k no_node (omega arith)))
    ∙ ap (λ (j : ℕ). set (fs ++ get_or t k no_node ∷ drop (suc k) t) j (fresh_node k n)) (sym l)
    ∙ set-append_seam fs (get_or t k no_node) (drop (suc k) t) (fresh_node k n)
    ∙ sym (append_assoc fs (fresh_node k n ∷ []) (drop (suc k) t))
    ∙ ap (λ (u : List Node). u ++ drop (suc k) t) (sym (fresh_last n 0 k ∙ ap (λ (j : ℕ). fs ++ fresh_node j n ∷ []) z))

pub fresh_all : (n : ℕ) (t : List Node) → length t ≡ n → fresh_to n t n ≡ fresh_table n
unfolding fresh_table
fresh_all n t e =
    fresh_first n t n (omega (arith, e))
    ∙ ap (λ (u : List Node). fresh_nodes n 0 n ++ u) (drop_of_length-le t {i = n} (omega (arith, e)))
    ∙ append-nil (fresh_nodes n 0 n)
