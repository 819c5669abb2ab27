-- `outbox::outgoing::items_of` meets its contract: the closure gives each row's item.
use Rattle.std.proofs.Common.{rules}
use Rattle.item.specs.Item.{zero_item}
use Rattle.item.specs.Maxima.{max_nodes}
use Rattle.item.specs.Row.{zero_row}
use Rattle.item.specs.declared.Row.{Row}
use Rattle.outbox.proofs.Places.{is_map}
use Rattle.outbox.proofs.outgoing.items_of.Goals as goal

pub returns : goal.returns
returns c =
    is_map (λ (row : Row). row.item) c.args.rows.now c.map.result max_nodes zero_row zero_item (λ x y f' call. search rules) c.map.ensures.items c.told-rows
