-- Delivery of a message to its addressee, by its kind.
use Rattle.std.specs.Prelude.{List, ℕ}
use Rattle.item.specs.declared.Item.{Item}
use Rattle.item.specs.declared.counters.Incarnation.{Incarnation}
use Rattle.message.specs.declared.Envelope.{Envelope}
use Rattle.message.specs.declared.Message.{Message}
use Rattle.message.specs.declared.Message.TheVariants as message
use Rattle.protocol.specs.Fetching.{on_fetch, on_table}
use Rattle.protocol.specs.Storing.{on_store, on_stored, on_confirm, on_confirmed}
use Rattle.protocol.specs.declared.Node.{Node}
use Rattle.protocol.specs.declared.Step.{Step}

unfoldable pub on_message : Message → Node → ℕ → Incarnation → List Item → Step
on_message (message.Store attempt item) node sender incarnation items = on_store node sender incarnation attempt item
on_message (message.Stored other attempt item) node sender incarnation items =
    on_stored node sender incarnation other attempt item
on_message (message.Confirm other attempt item) node sender incarnation items =
    on_confirm node sender incarnation other attempt item
on_message (message.Confirmed other attempt item) node sender incarnation items =
    on_confirmed node sender incarnation other attempt item
on_message message.Fetch node sender incarnation items = on_fetch node incarnation
on_message (message.Table other) node sender incarnation items = on_table node sender incarnation other items

-- a message with its rows (of a Table; else zero items) at its addressee
unfoldable pub deliver_step : Node → Envelope → List Item → Step
deliver_step node envelope items =
    on_message envelope.message node envelope.sender envelope.incarnation items
