-- Counting the options of a list that hold a value, with one more in front.
use Rattle.std.specs.Prelude.{suc, ◌≡◌, List, ◌∷◌, cond, count_by, Option, Some, None, is_some}
use Rattle.std.proofs.Common.{arith}
use Rattle.std.proofs.lemmas.List.Sums.{sum_by-cons}

module _ {X : Type 0} where
  pub count_none : (xs : List (Option X)) → count_by is_some (None ∷ xs) ≡ count_by is_some xs
  count_none xs = omega (arith, sum_by-cons (λ (o : Option X). cond (is_some o) 1 0) None xs)

  pub count_some : (x : X) (xs : List (Option X)) → count_by is_some (Some x ∷ xs) ≡ suc (count_by is_some xs)
  count_some x xs = omega (arith, sum_by-cons (λ (o : Option X). cond (is_some o) 1 0) (Some x) xs)
