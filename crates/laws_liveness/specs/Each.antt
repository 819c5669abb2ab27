-- What holds of every element of a list, of two lists side by side, and of a list without repetition.
use Rattle.std.specs.Prelude.{ℕ, ◌≢◌, List, [], ◌∷◌}

unfoldable pub Each : {A : Type 0} → (A → Type 0) → List A → Type 0
Each P [] = Unit {0}
Each P (a ∷ l) = P a × Each P l

unfoldable pub Both : {A B : Type 0} → (A → B → Type 0) → List A → List B → Type 0
Both R [] [] = Unit {0}
Both R [] (b ∷ m) = ⊥
Both R (a ∷ l) [] = ⊥
Both R (a ∷ l) (b ∷ m) = R a b × Both R l m

unfoldable pub Distinct : List ℕ → Type 0
Distinct [] = Unit {0}
Distinct (a ∷ l) = Each (λ b. b ≢ a) l × Distinct l
