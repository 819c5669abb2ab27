-- `store_access::links::blank` meets its contract: its tests are those of `blank-is`, in their order.
use mathlib.Core.Path.{sym, ap, ◌∙◌}
use native.Mathlib.Omega.{arith}
use lib.ListN.{drop, length-drop}
use lib.Seq.{take_all}
use Rattle.endian.specs.Zero.{all_zero}
use Rattle.store_access.proofs.Parts.{blank_first, blank_second, blank_rest}
use Rattle.store_access.proofs.links.blank.Goals as goal

pub returns-then-read-next : goal.returns-then-read-next
returns-then-read-next c = sym (blank_first c.args.r.now (omega arith) c.read-2.result c.from-next.result c.read-2.ensures (c.from-next.ensures ∙ c.read.ensures) c.if-read-next.true)

pub returns-then-read-ne0 : goal.returns-then-read-ne0
returns-then-read-ne0 c =
    let x = c.read-2 in
    let y = c.from-next in
    let z = c.read-3 in
    sym (blank_second c.args.r.now (omega arith) x.result y.result x.ensures (y.ensures ∙ c.read.ensures) c.if-read-next.false z.result z.ensures c.if-read-ne0.true)

pub returns : goal.returns
returns c =
    let r = c.args.r.now in
    let x = c.read-2 in
    let y = c.from-next in
    let z = c.read-3 in
    c.is_zero.ensures
    ∙ ap all_zero (take_all 256 (drop 16 r) (rw length-drop (omega arith)))
    ∙ sym (blank_rest r (omega arith) x.result y.result x.ensures (y.ensures ∙ c.read.ensures) c.if-read-next.false z.result z.ensures c.if-read-ne0.false)
