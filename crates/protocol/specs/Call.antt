-- The calls of a run (document 01, Runs and returns): its words "are read off the calls, their answers and the messages
-- delivered".
use Rattle.std.specs.Prelude.{ℕ, Bool, true, false, cond, List, [], ◌∷◌, ◌++◌, eqb, None, Option, Some}
use Rattle.item.specs.Item.{zero_item, item_above}
use Rattle.item.specs.declared.Item.{Item}
use Rattle.protocol.specs.declared.Answer.{Answer}
use Rattle.protocol.specs.declared.Answer.TheVariants as answer
use Rattle.protocol.specs.declared.Event.{Event}
use Rattle.protocol.specs.declared.Event.TheVariants as event
use Rattle.message.specs.declared.Envelope.{Envelope}

-- one call of the list: what was called, what it answered, and the message that it delivered, if any
pub record Call : Type 0 where
  pub event : Event
  pub answer : Answer
  pub message : Option Envelope

-- "the node meant is the addressee of the message delivered"
unfoldable pub is_to : ℕ → Option Envelope → Bool
is_to x None = false
is_to x (Some e) = eqb e.addressee x

-- the item of an answer "settled" or "accepted" at node x, else the item before
unfoldable pub item_after : Answer → Item → Item
item_after answer.Ok last = last
item_after (answer.Settled item) last = item
item_after (answer.Accepted item) last = item
item_after (answer.Stopped row) last = last
item_after (answer.Refused why) last = last

unfoldable pub last_after : ℕ → Call → Item → Item
last_after x call last = cond (is_to x call.message) (item_after call.answer last) last

-- node x's last item after some calls, where it was `last` before them
unfoldable pub last_from : ℕ → Item → List Call → Item
last_from x last [] = last
last_from x last (call ∷ after) = last_from x (last_after x call last) after

-- "a node's last item is the one in its latest such answer before that point, or index 0, tag 0 if it has had none"
unfoldable pub last_item : ℕ → List Call → Item
last_item x before = last_from x zero_item before

unfoldable pub is_ok : Answer → Bool
is_ok answer.Ok = true
is_ok (answer.Settled item) = false
is_ok (answer.Accepted item) = false
is_ok (answer.Stopped row) = false
is_ok (answer.Refused why) = false

-- "A Write answered "ok" begins the item that has the call's tag and the index one above that of the node's last item at
-- that point. Nothing else begins an item"
unfoldable pub begun_at : ℕ → Event → Answer → Item → List Item
begun_at x (event.Write k tag) answer last = cond (is_ok answer) (cond (eqb k x) (item_above last tag ∷ []) []) []
begun_at x (event.Retry k) answer last = []
begun_at x (event.Crash k) answer last = []
begun_at x (event.Start k) answer last = []
begun_at x (event.Drop r) answer last = []
begun_at x (event.Deliver r) answer last = []

-- the items that node x began in some calls; "neither Crash nor Start takes away what was begun"
unfoldable pub begun_from : ℕ → Item → List Call → List Item
begun_from x last [] = []
begun_from x last (call ∷ after) =
    begun_at x call.event call.answer last ++ begun_from x (last_after x call last) after

unfoldable pub begun : ℕ → List Call → List Item
begun x before = begun_from x zero_item before
