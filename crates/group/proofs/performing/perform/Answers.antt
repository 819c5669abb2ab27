-- `group::performing::perform` meets its contract. A Drop takes the store alone and leaves the table as it is; any other event
-- is carried out on the node at its place and the store, and the node is put back.
use Rattle.std.specs.Prelude.{◌≡◌, Err}
use Rattle.group.proofs.PutBack.{refused_gives, dropped_gives, acted_gives}
use borrow.Author.Rules.{rules}
use mathlib.Core.Path.{sym}
use Rattle.group.proofs.performing.perform.Goals as goal

pub returns-in_err-seen : goal.returns-in_err-seen
returns-in_err-seen c =
    let a = c.args in
    let r : c.from_residual.result ≡ Err c.in_err-seen.field-0.0 = search rules in
    refused_gives a.table.now a.store.now a.event c.in_err-seen.ensures r

pub returns-in-Some : goal.returns-in-Some
returns-in-Some c =
    let a = c.args in
    let d = c.drop_message in
    dropped_gives a.event a.table.now a.store.now c.read-reading.result c.in_ok-seen.seen c.read-reading.ensures c.in_ok-seen.ensures
    d.result d.new.s (sym c.in-Some.ensures) d.ensures

pub returns : goal.returns
returns c =
    let a = c.args in
    acted_gives a.event a.table.now a.store.now c.read-reading.result c.in_ok-seen.seen c.read-reading.ensures c.in_ok-seen.ensures
    c.place-k.result c.node_at-node.result c.on_sound-result.new.node c.on_sound-result.result c.replace_node.new.table c.on_sound-result.new.s
    c.place-k.ensures c.node_at-node.ensures c.on_sound-result.ensures c.replace_node.ensures
