-- `record_words::fields::stated` meets its contract: numbers that do not fit are none, and of the others `stated_by` says which are.
use mathlib.Core.Path.{refl, sym, ◌∙◌}
use Rattle.record_words.specs.Numbers.{stated, is_stated}
use Rattle.record_words.proofs.NumberLaws.{stated_by}
use Rattle.record_words.proofs.fields.stated.Goals as goal

pub returns-then-not-fit : goal.returns-then-not-fit
unfolding stated is_stated
returns-then-not-fit c = rw (sym c.fit.ensures ∙ c.if-not-fit.true)

pub returns-then-not-is_zero : goal.returns-then-not-is_zero
returns-then-not-is_zero c =
    let f = c.fitting_fields-fields in
    stated_by c.args.n c.args.numbers.now f.result _ _ _ (sym c.fit.ensures ∙ c.if-not-fit.false) f.ensures c.rows_of_kind.ensures c.is_zero.ensures refl
    ∙ rw c.if-not-is_zero.true

pub returns-then-not-is_known : goal.returns-then-not-is_known
returns-then-not-is_known c =
    let f = c.fitting_fields-fields in
    stated_by c.args.n c.args.numbers.now f.result _ _ _ (sym c.fit.ensures ∙ c.if-not-fit.false) f.ensures c.rows_of_kind.ensures c.is_zero.ensures c.is_known.ensures
    ∙ rw (c.if-not-is_zero.false, c.if-not-is_known.true)

pub returns : goal.returns
returns c =
    let f = c.fitting_fields-fields in (
      stated_by c.args.n c.args.numbers.now f.result _ _ _ (sym c.fit.ensures ∙ c.if-not-fit.false) f.ensures c.rows_of_kind.ensures c.is_zero.ensures c.is_known.ensures
          ∙ rw (c.if-not-is_zero.false, c.if-not-is_known.false),
      refl,
      f.ensures,
    )
