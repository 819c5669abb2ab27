-- The word with the index, a space, the tag.
use mathlib.Core.List.{◌∷◌, ◌++◌, append_assoc}
use lib.Seq.{append_snoc}
use Rattle.script.specs.Bytes.{space}
use Rattle.script.specs.Digits.{decimal_of}
use Rattle.answers.proofs.Placing.{goes_on}
use Rattle.answers.specs.Output.{tag_bytes, item_bytes}
use Rattle.answers.proofs.put_item.Goals as goal

pub returns : goal.returns
unfolding item_bytes
returns c =
    let a = c.args in
    let d = decimal_of a.item.index.0 in
    rw (← append_assoc a.word.now d (space ∷ tag_bytes a.item.tag), ← append_snoc (a.word.now ++ d) space (tag_bytes a.item.tag))
    (goes_on (goes_on c.put_value-indexed.ensures c.put_text.ensures.begins) c.put_tag.ensures)
