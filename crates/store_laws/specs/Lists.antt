-- The records on a chain as lists of numbers: how often a record stands in one, the free chain, the inboxes, and how many
-- messages they hold. Statements of laws speak of these.
use Rattle.std.specs.Prelude.{ℕ, zero, suc, ◌+◌, Bool, true, false, cond, List, [], ◌∷◌, eqb, length}
use Rattle.store.specs.Chain.{chain_from}
use Rattle.store.specs.Head.{first_free, first_of}

abbrev pub bit : Bool → ℕ
bit true = 1
bit false = 0

-- how often record r stands in a list
unfoldable pub times : ℕ → List ℕ → ℕ
times r [] = 0
times r (x ∷ l) = bit (eqb x r) + times r l

-- how often it stands on the inboxes of the nodes from k on, `left` of them
unfoldable pub times_on : ℕ → ℕ → (ℕ → List ℕ) → ℕ → ℕ
times_on r zero inbox k = 0
times_on r (suc left) inbox k = times r (inbox k) + times_on r left inbox (suc k)

-- the list without the first r
unfoldable pub without : ℕ → List ℕ → List ℕ
without r [] = []
without r (x ∷ l) = cond (eqb x r) l (x ∷ without r l)

-- the free chain, and node k's inbox
unfoldable pub free_list : List (List ℕ) → List ℕ
free_list rs = chain_from (length rs) rs (first_free rs)

unfoldable pub inbox_list : List (List ℕ) → ℕ → List ℕ
inbox_list rs k = chain_from (length rs) rs (first_of rs k)

-- i, i + 1, .., `left` numbers
unfoldable pub numbers_from : ℕ → ℕ → List ℕ
numbers_from zero i = []
numbers_from (suc left) i = i ∷ numbers_from left (suc i)

-- how many records stand on the inboxes of the nodes from k on, `left` of them
unfoldable pub held_on : ℕ → (ℕ → List ℕ) → ℕ → ℕ
held_on zero inbox k = 0
held_on (suc left) inbox k = length (inbox k) + held_on left inbox (suc k)
