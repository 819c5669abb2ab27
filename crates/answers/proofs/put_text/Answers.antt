use native.Mathlib.Omega.{arith}
use Rattle.answers.proofs.Placing.{begun_with, whole_fits, whole_none}
use Rattle.answers.proofs.put_text.Goals as goal

pub returns-then-out-text-clause-whole : goal.returns-then-out-text-clause-whole
returns-then-out-text-clause-whole c = whole_none _ _ (omega arith)

pub returns : goal.returns
returns c =
    let a = c.args in
    let b = begun_with a.out.now a.text.now (omega arith) in
    record { begins = rw c.copy_from_slice.ensures.after b; whole = rw c.copy_from_slice.ensures.after (whole_fits _ _ (omega arith) b) }
