-- `script::write_line` meets its contract: the definition by the parts of the bytes before and after the first space.
use Rattle.std.proofs.Common.{sym, ◌∙◌}
use Rattle.script.proofs.Reading.{write_parts, write_one_word, space_at}
use Rattle.script.specs.Line.{write_with, tag_in, tag_of}
use Rattle.script.proofs.write_line.Goals as goal

pub returns-in_err-k : goal.returns-in_err-k
returns-in_err-k c = c.from_residual.ensures ∙ sym (write_one_word _ (sym c.in_err-k.ensures))

pub returns-in_err-node : goal.returns-in_err-node
unfolding write_with
returns-in_err-node c =
    rw (c.from_residual-in_err-node.ensures, write_parts _ _ (space_at _ _ (sym c.in_ok-k.ensures)).0, sym c.in_err-node.ensures)

pub returns-in_err-number_in : goal.returns-in_err-number_in
unfolding write_with tag_in tag_of
returns-in_err-number_in c =
    rw (c.from_residual-in_err-number_in.ensures, write_parts _ _ (space_at _ _ (sym c.in_ok-k.ensures)).0, sym c.in_ok-node.ensures, sym c.in_err-number_in.ensures)

pub returns : goal.returns
unfolding write_with tag_in tag_of
returns c =
    rw (write_parts _ _ (space_at _ _ (sym c.in_ok-k.ensures)).0, sym c.in_ok-node.ensures, sym c.in_ok-number_in.ensures)
