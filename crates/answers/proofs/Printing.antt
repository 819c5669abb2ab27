-- Laws of printing: an output line has at most 72 bytes.
use Prim.Native.Nat.{ℕ, ◌≤◌}
use native.Mathlib.Omega.{arith}
use mathlib.Core.List.{[], ◌∷◌, ◌++◌}
use lib.ListN.{length, length-append}
use Rattle.item.specs.declared.Item.{Item}
use Rattle.script.specs.Digits.{decimal_of}
use Rattle.script.proofs.Writing.{decimal_length}
use Rattle.protocol.specs.Answer.{refusal_number}
use Rattle.protocol.specs.declared.Answer.{Answer}
use Rattle.protocol.specs.declared.Answer.TheVariants.{Ok, Settled, Accepted, Stopped, Refused}
use Rattle.script.specs.Bytes.{space, line_feed}
use Rattle.answers.specs.Output.{tag_bytes, item_bytes, answer_bytes, reply_bytes, output_line, line_room}
use Rattle.std.specs.Prelude.{Option, Some, None}

-- the longest: a word of nine bytes and an item of 41
item_length : (item : Item) → length (item_bytes item) ≤ 41
unfolding item_bytes tag_bytes
item_length item =
    omega (arith, length-append (decimal_of item.index.0) (space ∷ decimal_of item.tag.0), decimal_length item.index.0, decimal_length item.tag.0)

answer_length : (a : Answer) → length (answer_bytes a) ≤ 50
unfolding answer_bytes
answer_length Ok = omega arith
answer_length (Settled item) = omega (arith, item_length item)
answer_length (Accepted item) = omega (arith, item_length item)
answer_length (Stopped row) = omega (arith, decimal_length row)
answer_length (Refused why) = omega (arith, decimal_length (refusal_number why))

pub reply_length : (r : Option Answer) → length (reply_bytes r) ≤ 50
unfolding reply_bytes
reply_length (Some a) = answer_length a
reply_length None = omega arith

pub line_length : (count : ℕ) (r : Option Answer) → length (output_line count r) ≤ line_room
unfolding output_line
line_length count r =
    omega (arith, length-append (decimal_of count) (space ∷ (reply_bytes r ++ (line_feed ∷ []))), length-append (reply_bytes r) (line_feed ∷ []), decimal_length count, reply_length r)
