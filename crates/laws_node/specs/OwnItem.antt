-- What a decision that is not refused makes of the own item.
use Rattle.std.specs.Prelude.{◌≡◌, false, get_or, ℕ}
use Rattle.item.specs.Item.{zero_item}
use Rattle.item.specs.declared.Item.{Item}
use Rattle.message.specs.declared.Message.{Message}
use Rattle.message.specs.declared.Message.TheVariants as message
use Rattle.protocol.specs.Node.{own_item}
use Rattle.protocol.specs.Answer.{is_refused}
use Rattle.protocol.specs.Write.{next_item}
use Rattle.protocol.specs.declared.Node.{Node}
use Rattle.protocol.specs.declared.Step.{Step}
use Rattle.laws_node.specs.Decision.{Decision, Write, Retry, Crash, Start, Deliver}

-- by a Table, the return: the item stays, or is the one that the Table has for this node, or is zero where the return stops
pub data ByTable (told old new : Item) : Type 0 where
  stays : new ≡ old → ByTable told old new
  fetched : new ≡ told → ByTable told old new
  lost : new ≡ zero_item → ByTable told old new

-- by a message; `told` is the item beside it for this node
unfoldable pub ItemBy : Message → Item → Item → Item → Type 0
ItemBy (message.Store attempt item) told old new = new ≡ old
ItemBy (message.Stored other attempt item) told old new = new ≡ old
ItemBy (message.Confirm other attempt item) told old new = new ≡ old
ItemBy (message.Confirmed other attempt item) told old new = new ≡ old
ItemBy message.Fetch told old new = new ≡ old
ItemBy (message.Table other) told old new = ByTable told old new

-- by any decision of the node with this number
unfoldable pub ItemAfter : Decision → ℕ → Item → Item → Type 0
ItemAfter (Write tag) own old new = new ≡ next_item old tag
ItemAfter Retry own old new = new ≡ old
ItemAfter Crash own old new = new ≡ zero_item
ItemAfter Start own old new = new ≡ zero_item
ItemAfter (Deliver envelope items) own old new = ItemBy envelope.message (get_or items own zero_item) old new

unfoldable pub OwnItem : Decision → Node → Step → Type 0
OwnItem d node step =
    is_refused step.answer ≡ false → ItemAfter d node.number (own_item node) (own_item step.node)
