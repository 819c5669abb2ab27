-- `outbox::outgoing::Sending::count` meets its contract: the numbers that pass are counted, and `count_places` counts their places.
use Rattle.std.proofs.Common.{ℕ, rules, refl, ◌∙◌, is_some}
use Rattle.std.proofs.lemmas.Iterator.{YieldsList-from_range}
use Rattle.std.proofs.lemmas.Iterator.Consumers.{YieldsList-from_filter, count_from_yields_List}
use Rattle.std.proofs.lemmas.List.Sums.{length-filter}
use Rattle.std.specs.List.{range_with_len}
use borrow.Author.Tests.{tests}
use Rattle.item.specs.Maxima.{max_nodes}
use Rattle.protocol.specs.Outgoing.{outgoing_to, outgoing}
use Rattle.outbox.proofs.Places.{count_places}
use Rattle.outbox.proofs.outgoing.Sending.count.Goals as goal

pub returns : goal.returns
unfolding outgoing
returns c =
    let a = c.args.self.now in
    let sent = λ (k : ℕ). is_some (outgoing_to a.node.now a.sends a.back k) in
    count_from_yields_List c.filter.result _ c.count.ensures.ran
    (YieldsList-from_filter _ sent (YieldsList-from_range 0 max_nodes max_nodes c.filter.ensures.source refl) c.filter.ensures.closure (λ x b f' call. search (rules, tests)))
    ∙ length-filter sent (range_with_len 0 max_nodes)
    ∙ count_places a.node.now a.sends a.back 0 max_nodes
