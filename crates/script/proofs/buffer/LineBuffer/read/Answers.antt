-- With more than 64 bytes the line is too long to be read.
use Rattle.std.proofs.Common.{rules, ◌≡◌, ◌<◌, ◌∙◌, length, sym, arith}
use Rattle.script.proofs.Gathered.{buffer_full}
use Rattle.script.proofs.buffer.LineBuffer.read.Goals as goal

pub returns-in_err-get : goal.returns-in_err-get
returns-in_err-get c =
    let held : length c.args.self.now.bytes ≡ 64 = search rules in
    let more : 64 < c.args.self.now.len = omega (arith, c.in_err-get.ensures.lookup.0) in
    c.from_residual.ensures ∙ sym (buffer_full c.args.self.now held more)
