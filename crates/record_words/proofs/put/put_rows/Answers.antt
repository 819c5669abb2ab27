use Prim.Native.Nat.{ℕ, ◌*◌}
use native.Mathlib.Omega.{arith}
use mathlib.Core.Path.{◌≡◌, sym, ap, ◌∙◌}
use mathlib.Core.List.{List}
use lib.ListN.{take}
use lib.Seq.{take_all}
use Rattle.item.specs.declared.Item.{Item}
use Rattle.endian.specs.Part.{with_part}
use Rattle.endian.proofs.PartLaws.{with_nothing}
use Rattle.record.specs.Layout.{rows_of}
use Rattle.record_words.specs.Numbers.{rows_first, rows_count, row_numbers}
use Rattle.record_read.proofs.Reading.{length_rows}
use Rattle.record_words.proofs.NumberLaws.{with_row_read}
use Rattle.record_words.proofs.put.put_rows.Goals as goal

pub loop-j-init : goal.loop-j-init
unfolding row_numbers
loop-j-init c = sym (with_nothing _ _)

pub loop-j-preserved : goal.loop-j-preserved
loop-j-preserved c =
    let l = c.loop-j in
    with_row_read _ _ _ (omega arith) (omega arith) _ l.invariant (omega arith) _ _ c.read.ensures c.read-in-loop-j.ensures

pub returns : goal.returns
returns c =
    let l = c.loop-j in
    let a = c.args in
    let s = a.numbers.now in
    let rows = rows_of a.r.now in
    let e : l.j ≡ 15 = omega arith in
    l.invariant
    ∙ ap (λ (k : ℕ). with_part (2 * k) s rows_first (row_numbers (take k rows))) e
    ∙ ap (λ (t : List Item). with_part rows_count s rows_first (row_numbers t)) (take_all 15 rows (omega (arith, length_rows a.r.now)))
