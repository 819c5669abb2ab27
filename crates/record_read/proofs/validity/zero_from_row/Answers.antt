-- `record_read::validity::zero_from_row` meets its contract: the part after the rows held, and where none is held its tests are those of
-- `rows_are`, in their order.
use mathlib.Core.Path.{sym, ap, ◌∙◌}
use native.Mathlib.Omega.{arith}
use lib.ListN.{drop, length-drop}
use lib.Seq.{take_all}
use Rattle.endian.specs.Zero.{all_zero}
use Rattle.record_read.proofs.ValidityRows.{rows_first_lem, rows_second, rows_rest}
use Rattle.record_read.proofs.validity.zero_from_row.Goals as goal

pub returns-then-read-ne0 : goal.returns-then-read-ne0
returns-then-read-ne0 c =
    let x = c.read in
    sym (rows_first_lem c.args.r.now (omega arith) c.args.held c.if-held-ne0.false x.result x.ensures c.if-read-ne0.true)

pub returns-then-read-ne0-2 : goal.returns-then-read-ne0-2
returns-then-read-ne0-2 c =
    let x = c.read in
    let y = c.read-2 in
    sym (rows_second c.args.r.now (omega arith) c.args.held c.if-held-ne0.false x.result x.ensures c.if-read-ne0.false y.result y.ensures c.if-read-ne0-2.true)

pub returns : goal.returns
returns c =
    let r = c.args.r.now in
    let x = c.read in
    let y = c.read-2 in
    c.is_zero-2.ensures
    ∙ ap all_zero (take_all 224 (drop 48 r) (rw length-drop (omega arith)))
    ∙ sym (rows_rest r (omega arith) c.args.held c.if-held-ne0.false x.result x.ensures c.if-read-ne0.false y.result y.ensures c.if-read-ne0-2.false)
