-- 0 past the end, else the bytes lent and zero bytes after them are the number, by `read_low`.
use Rattle.std.proofs.Common.{◌%◌, ◌^◌, refl, sym, ap, ◌∙◌}
use Rattle.endian.proofs.PartLaws.{outside, inside}
use Rattle.endian.proofs.EightLaws.{read_low, none_low}
use Rattle.endian.specs.Number.{value, number_at, AreBytes}
use Rattle.endian.proofs.number.read.Goals as goal

pub returns-then-not-lies_within : goal.returns-then-not-lies_within
returns-then-not-lies_within g c =
    let w = c.WIDTH-width.result in
    let e = none_low w c.args.s.now c.args.at (outside _ _ _ c.lies_within.ensures c.if-not-lies_within.true) in cc

pub returns : goal.returns
unfolding value AreBytes
returns g c =
    let w = c.WIDTH-width in
    let within = inside _ _ _ c.lies_within.ensures c.if-not-lies_within.false in
    c.low-2.ensures
    ∙ (λ i. c.from_le_bytes.ensures i % 256 ^ sym w.ensures i)
    ∙ read_low w.result (rw w.ensures g.met.T.Number.at_most_8) c.args.s.now c.args.at (λ i. (c.type_inv.s i).fits) within _ _ c.copy_from_slice.ensures.after refl refl
    ∙ ap (λ n. number_at n c.args.s.now c.args.at) w.ensures
