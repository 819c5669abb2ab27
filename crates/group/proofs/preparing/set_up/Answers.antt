-- `group::preparing::set_up` meets its contract: the calls one after the other, each with what it ensures.
use Rattle.group.proofs.SetUpLaws.{set_up_gives}
use mathlib.Core.Path.{refl, sym, ◌∙◌}
use Rattle.group.proofs.preparing.set_up.Goals as goal

pub returns-in-Err : goal.returns-in-Err
returns-in-Err c =
    let a = c.args in
    set_up_gives a.n a.table.now a.store.now _ _ _ c.prepare.new.s (sym c.in-Err.is ∙ c.prepare.ensures.0) c.prepare.ensures.1 refl refl

pub returns : goal.returns
returns c =
    let a = c.args in
    set_up_gives a.n a.table.now a.store.now _ _ _ c.prepare.new.s (sym c.in_default.is ∙ c.prepare.ensures.0) c.prepare.ensures.1 refl c.fill_table.ensures
