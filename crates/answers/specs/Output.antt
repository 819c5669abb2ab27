-- The drill's output lines (document 01, Drill program): "For each it prints the line's count from 1, a space, and `ok`,
-- `settled index tag`, `accepted index tag`, `stopped row` or `refused number`. Any other line prints `unread` after its
-- count". Numbers are decimal.
use Rattle.std.specs.Prelude.{ℕ, List, [], ◌∷◌, ◌++◌, Option, Some, None}
use Rattle.item.specs.declared.Item.{Item}
use Rattle.item.specs.declared.Tag.{Tag}
use Rattle.script.specs.Digits.{decimal_of}
use Rattle.protocol.specs.Answer.{refusal_number}
use Rattle.protocol.specs.declared.Answer.{Answer}
use Rattle.protocol.specs.declared.Answer.TheVariants.{Ok, Settled, Accepted, Stopped, Refused}
use Rattle.script.specs.Bytes.{space, line_feed}

-- `ok`, `settled `, `accepted `, `stopped `, `refused `, `unread`
abbrev pub ok_word : List ℕ
ok_word = 111 ∷ 107 ∷ []

abbrev pub settled_word : List ℕ
settled_word = 115 ∷ 101 ∷ 116 ∷ 116 ∷ 108 ∷ 101 ∷ 100 ∷ space ∷ []

abbrev pub accepted_word : List ℕ
accepted_word = 97 ∷ 99 ∷ 99 ∷ 101 ∷ 112 ∷ 116 ∷ 101 ∷ 100 ∷ space ∷ []

abbrev pub stopped_word : List ℕ
stopped_word = 115 ∷ 116 ∷ 111 ∷ 112 ∷ 112 ∷ 101 ∷ 100 ∷ space ∷ []

abbrev pub refused_word : List ℕ
refused_word = 114 ∷ 101 ∷ 102 ∷ 117 ∷ 115 ∷ 101 ∷ 100 ∷ space ∷ []

abbrev pub unread_word : List ℕ
unread_word = 117 ∷ 110 ∷ 114 ∷ 101 ∷ 97 ∷ 100 ∷ []

-- a tag is printed as a number
unfoldable pub tag_bytes : Tag → List ℕ
tag_bytes t = decimal_of t.0

-- `index tag`
unfoldable pub item_bytes : Item → List ℕ
item_bytes item = decimal_of item.index.0 ++ (space ∷ tag_bytes item.tag)

unfoldable pub answer_bytes : Answer → List ℕ
answer_bytes Ok = ok_word
answer_bytes (Settled item) = settled_word ++ item_bytes item
answer_bytes (Accepted item) = accepted_word ++ item_bytes item
answer_bytes (Stopped row) = stopped_word ++ decimal_of row
answer_bytes (Refused why) = refused_word ++ decimal_of (refusal_number why)

-- what a line says after its count: its answer, or, where it was not read, `unread`
unfoldable pub reply_bytes : Option Answer → List ℕ
reply_bytes (Some a) = answer_bytes a
reply_bytes None = unread_word

-- "the line's count from 1, a space, and .."
unfoldable pub output_line : ℕ → Option Answer → List ℕ
output_line count r = decimal_of count ++ (space ∷ (reply_bytes r ++ (line_feed ∷ [])))

-- the bytes of the longest output line: an accepted item, every number of twenty digits
abbrev pub line_room : ℕ
line_room = 72
