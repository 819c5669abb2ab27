-- Demand 3 (document 01, Runs and returns), one claim about the whole list of calls.
use Rattle.std.specs.Prelude.{ℕ, ◌^◌, ◌<◌, ◌≡◌, List, [], ◌∷◌, ◌++◌}
use Rattle.item.specs.Maxima.{tag_size}
use Rattle.item.specs.declared.Item.{Item}
use Rattle.operations.specs.Operation.{set_up}
use Rattle.protocol.specs.Call.{Call}
use Rattle.operations.specs.Run.{calls}
use Rattle.protocol.specs.Claim.{ReturnsWith, AsItLastStood}
use Rattle.protocol.specs.declared.Answer.TheVariants as answer
use Rattle.protocol.specs.declared.Event.{Event}
use Rattle.protocol.specs.declared.Event.TheVariants as event
use Rattle.protocol.specs.declared.Node.{Node}

-- "Index and tag are 64-bit": the tag of a Write is a number of that size, as every value of its type is. A definition
-- takes any number, but a record holds 64 bits of it. The other arguments may be any numbers.
unfoldable pub TagFits : Event → Type 0
TagFits (event.Write k tag) = tag.0 < 256 ^ tag_size
TagFits (event.Retry k) = Unit {0}
TagFits (event.Crash k) = Unit {0}
TagFits (event.Start k) = Unit {0}
TagFits (event.Drop r) = Unit {0}
TagFits (event.Deliver r) = Unit {0}

unfoldable pub TagsFit : List Event → Type 0
TagsFit [] = Unit {0}
TagsFit (e ∷ events) = TagFits e × TagsFit events

-- for every set-up that was accepted, every list of events after it, every call in it and every node that returns there
unfoldable pub EveryReturn : Type 0
EveryReturn =
    (n : ℕ) (table : List Node) (store : List ℕ) → (set_up n table store).answer ≡ answer.Ok →
    (events : List Event) → TagsFit events → (before : List Call) (call : Call) (after : List Call) →
    calls (set_up n table store).table (set_up n table store).store events ≡ before ++ (call ∷ after) →
    (x : ℕ) (item : Item) → ReturnsWith x item call → AsItLastStood x item before
