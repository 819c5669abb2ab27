-- The four pieces one after another.
use mathlib.Core.List.{[], ◌∷◌, ◌++◌, append_assoc}
use lib.Seq.{append_snoc}
use Rattle.script.specs.Bytes.{space, line_feed}
use Rattle.script.specs.Digits.{decimal_of}
use Rattle.answers.proofs.Placing.{goes_on}
use Rattle.answers.specs.Output.{output_line, reply_bytes}
use Rattle.answers.proofs.put_line.Goals as goal

pub returns : goal.returns
unfolding output_line
returns c =
    let d = decimal_of c.args.count in
    let r = reply_bytes c.args.reply in
    rw (← append_snoc d space (r ++ (line_feed ∷ [])), ← append_assoc (d ++ (space ∷ [])) r (line_feed ∷ []))
    (goes_on (goes_on (goes_on c.put_number-counted.ensures.begins c.put_text.ensures.begins) c.put_reply.ensures) c.put_text-2.ensures.begins)
