-- The drill's lines and answers in document 01's words: a letter and its numbers for an event, a word and its numbers for an
-- answer, and of a refusal the number.
use Rattle.std.specs.Prelude.{ℕ, List, ◌∷◌, map}
use Rattle.protocol.specs.Answer.{refusal_number}
use Rattle.operations.specs.Operation.{set_up}
use Rattle.operations.specs.Run.{calls}
use Rattle.protocol.specs.declared.Answer.{Answer}
use Rattle.protocol.specs.declared.Answer.TheVariants as answer
use Rattle.protocol.specs.declared.Event.{Event}
use Rattle.protocol.specs.declared.Event.TheVariants as event
use Rattle.protocol.specs.declared.Node.{Node}

-- ---- lines

-- `w node tag`
abbrev pub w : ℕ → ℕ → Event
w node tag = event.Write node (record { 0 = tag })

-- `c node`
abbrev pub c : ℕ → Event
c node = event.Crash node

-- `s node`
abbrev pub s : ℕ → Event
s node = event.Start node

-- `d record`
abbrev pub d : ℕ → Event
d record_number = event.Deliver record_number

-- ---- answers

pub data Said : Type 0 where
  ok : Said
  settled : ℕ → ℕ → Said
  accepted : ℕ → ℕ → Said
  stops_at : ℕ → Said
  gives : ℕ → Said

unfoldable pub said : Answer → Said
said answer.Ok = ok
said (answer.Settled item) = settled item.index.0 item.tag.0
said (answer.Accepted item) = accepted item.index.0 item.tag.0
said (answer.Stopped row) = stops_at row
said (answer.Refused why) = gives (refusal_number why)

-- what is said to some events, each on what the one before left
abbrev pub answers : List Node → List ℕ → List Event → List Said
answers table store events = map (λ call. said call.answer) (calls table store events)

-- what is said to Set up and then to some events, as in a drill that begins with `n`
unfoldable pub drill : ℕ → List Node → List ℕ → List Event → List Said
drill n table store events =
    said (set_up n table store).answer ∷ answers (set_up n table store).table (set_up n table store).store events
