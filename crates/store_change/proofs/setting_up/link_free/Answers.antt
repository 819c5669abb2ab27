use Rattle.std.proofs.Common.{◌≡◌, ℕ, ◌+◌, List, ap, ◌∙◌, arith, rules}
use Rattle.store.specs.Records.{records_of, record_count}
use Rattle.store.proofs.Lent.{records_next}
use Rattle.store.specs.Change.{with_next_in}
use Rattle.store_change.proofs.Linked.{linked_to, zero_linked, linked_turn, linked_end}
use Rattle.store_change.proofs.setting_up.link_free.Goals as goal

pub loop-i-init : goal.loop-i-init
loop-i-init c = let a = c.args in (search rules, ap records_of c.clear.ensures ∙ zero_linked _ c.told-s)

pub loop-i-preserved : goal.loop-i-preserved
loop-i-preserved c =
    let l = c.loop-i in (
      search rules,
      ap records_of c.set_next.ensures ∙ records_next l.s l.invariant.0 l.i (l.i + 1) ∙ ap (λ (r : List (List ℕ)). with_next_in r l.i (l.i + 1)) l.invariant.1 ∙ linked_turn 239 l.i (omega arith) (omega arith),
    )

pub returns : goal.returns
returns c = let l = c.loop-i in let e : l.i ≡ 239 = omega arith in l.invariant.1 ∙ ap (linked_to record_count) e ∙ linked_end 239 (omega arith)
