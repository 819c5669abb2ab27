-- Nothing is written past the end, else the lowest of eight bytes are the number, by `written_low`.
use Rattle.endian.proofs.PartLaws.{inside}
use Rattle.endian.proofs.NumberLaws.{nothing_written}
use Rattle.endian.proofs.EightLaws.{written_low}
use Rattle.endian.proofs.number.write.Goals as goal

pub returns-then-not-lies_within : goal.returns-then-not-lies_within
returns-then-not-lies_within g c =
    let e = nothing_written _ c.args.s.now c.args.at c.lies_within.ensures (g.T.Number.number c.args.v) c.if-not-lies_within.true in cc

pub returns : goal.returns
returns g c =
    let e = written_low c.WIDTH-width.result (rw c.WIDTH-width.ensures g.met.T.Number.at_most_8) c.args.s.now c.args.at _ _ c.to_le_bytes-bytes.ensures (inside _ _ _ c.lies_within.ensures c.if-not-lies_within.false) _ c.copy_from_slice.ensures.after in
    cc
