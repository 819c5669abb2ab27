-- Chains (document 01: "Records are chained by a next index, and zero ends the chain"). A chain is followed for at most as
-- many records as there are, so every definition ends whatever the bytes are.
use Rattle.std.specs.Prelude.{ℕ, zero, suc, Bool, true, cond, List, [], ◌∷◌, eqb, get_or, set, None, Option, Some}
use Rattle.record.specs.Layout.{next_of}
use Rattle.store.specs.Records.{record_in}
use Rattle.store.specs.declared.Walked.{Walked}

-- the record after record i on its chain
unfoldable pub next_in : List (List ℕ) → ℕ → ℕ
next_in rs i = next_of (record_in rs i)

-- the chain from record i, as the list of its records, cut off after `left` of them
unfoldable pub chain_from : ℕ → List (List ℕ) → ℕ → List ℕ
chain_from zero rs i = []
chain_from (suc left) rs i = cond (eqb i 0) [] (i ∷ chain_from left rs (next_in rs i))

-- the last record of the chain from record i
unfoldable pub last_from : ℕ → List (List ℕ) → ℕ → ℕ
last_from zero rs i = i
last_from (suc left) rs i = cond (eqb (next_in rs i) 0) i (last_from left rs (next_in rs i))

-- the record before record r on the chain from record i; 0 if none is
unfoldable pub before_from : ℕ → List (List ℕ) → ℕ → ℕ → ℕ
before_from zero rs r i = 0
before_from (suc left) rs r i =
    cond (eqb i 0) 0
    (cond (eqb (next_in rs i) r) i (before_from left rs r (next_in rs i)))

abbrev pub walked : List Bool → ℕ → Walked
walked passed count = record { passed = passed; count = count }

-- a chain is followed from record i to its end: every record on it is there, was not passed before, and belongs on it.
-- `count` of its records were passed already, and `left` more may be.
unfoldable pub walk : (List ℕ → Bool) → ℕ → List (List ℕ) → ℕ → List Bool → ℕ → Option Walked
walk belongs zero rs i passed count = cond (eqb i 0) (Some (walked passed count)) None
walk belongs (suc left) rs i passed count =
    cond (eqb i 0) (Some (walked passed count))
    (cond (get_or passed i true) None
    (cond (belongs (record_in rs i)) (walk belongs left rs (next_in rs i) (set passed i true) (suc count))
    None))
