use Rattle.std.proofs.Common.{◌≡◌, ap, ◌∙◌, length, arith}
use Rattle.table.proofs.CheckLaws.{sound_to}
use Rattle.table.proofs.Laws.{sound_all}
use Rattle.table.proofs.check.check_table.Goals as goal

pub returns : goal.returns
returns c =
    let t = c.args.table.now in
    let e : c.loop-i.i ≡ length t = omega arith in
    c.loop-i.invariant ∙ ap (sound_to c.args.n t) e ∙ sound_all c.args.n t
