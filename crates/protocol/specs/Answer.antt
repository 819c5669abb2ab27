-- Answers and refusals: document 01's number of each refusal, by one definition, and the two shapes of a decision.
use Rattle.std.specs.Prelude.{ℕ, Bool, true, false, Result, Ok, Err}
use Rattle.protocol.specs.declared.Answer.{Answer}
use Rattle.protocol.specs.declared.Answer.TheVariants as answer
use Rattle.protocol.specs.declared.Node.{Node}
use Rattle.protocol.specs.declared.Refusal.{Refusal}
use Rattle.protocol.specs.declared.Refusal.TheVariants.{GroupSize, StoreLength, Unsound, NoNode, WrongStage, AtLargest, NoRoom, NoMessage, NotTaken, Stale, Counted, LowerRank, OtherTag}
use Rattle.protocol.specs.declared.Sends.{Sends}
use Rattle.protocol.specs.declared.Sends.TheVariants as sends
use Rattle.protocol.specs.declared.Step.{Step}

-- the number that document 01 and the drill print
abbrev pub refusal_number : Refusal → ℕ
refusal_number GroupSize = 1
refusal_number StoreLength = 2
refusal_number Unsound = 3
refusal_number NoNode = 4
refusal_number WrongStage = 5
refusal_number AtLargest = 6
refusal_number NoRoom = 7
refusal_number NoMessage = 8
refusal_number NotTaken = 9
refusal_number Stale = 10
refusal_number Counted = 11
refusal_number LowerRank = 12
refusal_number OtherTag = 13

-- the refusals that a node's decision gives (5, 6, 9 to 13); the others (1 to 4, 7, 8) are the host's and the store's
unfoldable pub by_decision : Refusal → Bool
by_decision GroupSize = false
by_decision StoreLength = false
by_decision Unsound = false
by_decision NoNode = false
by_decision WrongStage = true
by_decision AtLargest = true
by_decision NoRoom = false
by_decision NoMessage = false
by_decision NotTaken = true
by_decision Stale = true
by_decision Counted = true
by_decision LowerRank = true
by_decision OtherTag = true

-- "A refusal changes no byte": the node as it was, and nothing sent
unfoldable pub refused : Node → Refusal → Step
refused node why = record { answer = answer.Refused why; node = node; sends = sends.Nothing }

-- what a decision that may refuse makes of a node: the step that it gives, or its refusal
unfoldable pub step_after : Node → Result Step Refusal → Step
step_after node (Ok step) = step
step_after node (Err why) = refused node why

-- "Everything else answers "ok""
unfoldable pub ok : Node → Sends → Step
ok node sends = record { answer = answer.Ok; node = node; sends = sends }

abbrev pub is_refused : Answer → Bool
is_refused answer.Ok = false
is_refused (answer.Settled item) = false
is_refused (answer.Accepted item) = false
is_refused (answer.Stopped row) = false
is_refused (answer.Refused why) = true
