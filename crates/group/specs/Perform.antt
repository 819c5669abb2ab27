-- An event as the code does it: what refuses it before its node is read, and what a call gives.
use Rattle.std.specs.Prelude.{ℕ, ◌≡◌, cond, List, Result, Ok, Err}
use Rattle.store.specs.declared.Survey.{Survey}
use Rattle.protocol.specs.Table.{sound_table}
use Rattle.protocol.specs.declared.Answer.{Answer}
use Rattle.protocol.specs.declared.Node.{Node}
use Rattle.protocol.specs.declared.Refusal.{Refusal}
use Rattle.protocol.specs.declared.Refusal.TheVariants.{Unsound}
use Rattle.event.specs.Act.{checked, answered}
use Rattle.operations.specs.Operation as operation

-- "3: store or table unsound", where this is found in the store
unfoldable pub with_table : List Node → Result Survey Refusal → Result Survey Refusal
with_table table (Ok seen) = cond (sound_table seen.n table) (Ok seen) (Err Unsound)
with_table table (Err why) = Err why

-- "All others first: 2 as above; 3"
unfoldable pub admitted : List Node → List ℕ → Result Survey Refusal
admitted table store = with_table table (checked store)

-- what a call answers, and the table and the store that it leaves, are an operation's
abbrev pub GivesAll : operation.Result → Result Answer Refusal → List Node → List ℕ → Type 0
GivesAll whole result table store = (answered result ≡ whole.answer) × (table ≡ whole.table) × (store ≡ whole.store)
