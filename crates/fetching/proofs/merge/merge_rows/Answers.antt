-- `fetching::merge::merge_rows` meets its contract: each call of the closure gives the row merged with its item.
use Rattle.std.proofs.Common.{◌≡◌, ℕ, arith, rules, length, get_or}
use Rattle.item.specs.Item.{zero_item}
use Rattle.item.specs.Maxima.{max_nodes}
use Rattle.item.specs.Row.{zero_row}
use Rattle.node.proofs.Array.{length_mapped}
use Rattle.protocol.specs.Merge.{merge_row}
use Rattle.fetching.proofs.Merged.{made_at, merged}
use Rattle.fetching.proofs.merge.merge_rows.Goals as goal

pub returns : goal.returns
returns c =
    let a = c.args in
    let new = c.from_fn.result in
    let made = c.from_fn.ensures.items in
    let long : length a.rows ≡ max_nodes = search length_mapped in
    let row = λ (k : ℕ). merge_row a.first (get_or a.rows k zero_row) (get_or a.items.now k zero_item) in
    merged a.first a.rows a.items.now new (omega (arith, made.long)) (omega (arith, made.long))
    (λ k h. made_at row (λ i y f' call. search rules) new max_nodes k zero_row made (omega (arith, made.long)))
