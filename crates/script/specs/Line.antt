-- The drill's input lines (document 01, Drill program): "lines of a letter, a space, and decimal numbers without leading
-- zeros, separated by one space, each ended by a line feed: `n 3`, `w node tag`, `r node`, `c node`, `s node`, `d record`,
-- `x record` (drop)". A line is here the bytes before its line feed.
use Rattle.std.specs.Prelude.{ℕ, ◌&&◌, cond, List, [], ◌∷◌, leb, eqb, length, get_or, drop, Option, Some, None}
use Rattle.script.specs.Bytes.{space}
use Rattle.script.specs.Number.{number_in}
use Rattle.item.specs.declared.Tag.{Tag}
use Rattle.protocol.specs.declared.Event.TheVariants.{Write, Retry, Crash, Start, Drop, Deliver}
use Rattle.script.specs.declared.Line.{Line}
use Rattle.script.specs.declared.Line.TheVariants.{SetUp, Call}

-- the bytes before the first space
unfoldable pub word : List ℕ → List ℕ
word [] = []
word (b ∷ bs) = cond (eqb b space) [] (b ∷ word bs)

-- the bytes after the first space, if there is one
unfoldable pub after_word : List ℕ → List ℕ
after_word [] = []
after_word (b ∷ bs) = cond (eqb b space) bs (after_word bs)

-- a tag is written as a number
unfoldable pub tag_of : Option ℕ → Option Tag
tag_of (Some v) = Some (record { 0 = v })
tag_of None = None

unfoldable pub tag_in : List ℕ → Option Tag
tag_in bs = tag_of (number_in bs)

-- `w node tag`
unfoldable pub write_with : Option ℕ → Option Tag → Option Line
write_with (Some node) (Some t) = Some (Call (Write node t))
write_with (Some node) None = None
write_with None t = None

unfoldable pub write_of : List ℕ → Option Line
write_of bs = write_with (number_in (word bs)) (tag_in (after_word bs))

-- the letters that take one number: `n`, `r`, `c`, `s`, `d`, `x`
unfoldable pub with_number : ℕ → ℕ → Option Line
with_number letter v =
    cond (eqb letter 110) (Some (SetUp v))
    (cond (eqb letter 114) (Some (Call (Retry v)))
    (cond (eqb letter 99) (Some (Call (Crash v)))
    (cond (eqb letter 115) (Some (Call (Start v)))
    (cond (eqb letter 100) (Some (Call (Deliver v)))
    (cond (eqb letter 120) (Some (Call (Drop v))) None)))))

unfoldable pub one_number : ℕ → Option ℕ → Option Line
one_number letter (Some v) = with_number letter v
one_number letter None = None

-- what a letter asks for with what stands after its space; `w` takes two numbers
unfoldable pub lettered : ℕ → List ℕ → Option Line
lettered letter bs = cond (eqb letter 119) (write_of bs) (one_number letter (number_in bs))

-- "a letter, a space, and decimal numbers"; "Any other line" is unread: `None`
unfoldable pub line_of : List ℕ → Option Line
line_of bs = cond (leb 2 (length bs) && eqb (get_or bs 1 0) space) (lettered (get_or bs 0 0) (drop 2 bs)) None
