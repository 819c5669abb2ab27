-- Document 01's drill program: its sixteen input lines and the sixteen answers that it states.
use Rattle.std.specs.Prelude.{ℕ, ◌≡◌, true, List, [], ◌∷◌, length}
use Rattle.store.specs.Records.{right_length}
use Rattle.protocol.specs.declared.Event.{Event}
use Rattle.protocol.specs.declared.Node.{Node}
use Rattle.examples.specs.Said.{Said, ok, settled, accepted, drill, w, c, s, d}

-- the lines after `n 3`: "w 0 65 / d 1 / d 3 / d 4 / d 5 / c 0 / s 0 / d 6 / d 7 / d 8 / d 9 / d 10 / d 12 / d 13 / d 14"
abbrev pub sixteen_events : List Event
sixteen_events =
    w 0 65 ∷ d 1 ∷ d 3 ∷ d 4 ∷ d 5 ∷ c 0 ∷ s 0 ∷ d 6 ∷ d 7 ∷ d 8 ∷ d 9 ∷ d 10 ∷ d 12 ∷ d 13 ∷ d 14 ∷ []

-- "all `ok` but `6 settled 1 65` and `16 accepted 1 65`"
abbrev pub sixteen_answers : List Said
sixteen_answers =
    ok ∷ ok ∷ ok ∷ ok ∷ ok ∷ settled 1 65 ∷ ok ∷ ok ∷ ok ∷ ok ∷ ok ∷ ok ∷ ok ∷ ok ∷ ok ∷ accepted 1 65 ∷ []

-- whatever nodes the table has and whatever bytes the store: only that they are as many as document 01 says
unfoldable pub SixteenLines : Type 0
SixteenLines =
    (nodes : List Node) (bytes : List ℕ) → length nodes ≡ 3 → right_length bytes ≡ true →
    drill 3 nodes bytes sixteen_events ≡ sixteen_answers
