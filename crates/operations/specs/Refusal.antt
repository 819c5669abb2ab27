-- Demand 1 (document 01, Operations): "A refusal changes no byte of table or store", and its number is one that document 01
-- lists for that operation. One law over all seven.
use Rattle.std.specs.Prelude.{ℕ, ◌≡◌}
use mathlib.Core.List.{List, [], ◌∷◌, Memᴰ}
use Rattle.protocol.specs.Answer.{refusal_number}
use Rattle.operations.specs.Operation.{Result, set_up, perform}
use Rattle.protocol.specs.declared.Answer.TheVariants as answer
use Rattle.protocol.specs.declared.Event.{Event}
use Rattle.protocol.specs.declared.Event.TheVariants as event
use Rattle.protocol.specs.declared.Node.{Node}
use Rattle.protocol.specs.declared.Refusal.{Refusal}

-- Set up: "1: n not valid or the table has not n nodes. 2: store not 65,280 bytes."
unfoldable pub set_up_refusals : List ℕ
set_up_refusals = 1 ∷ 2 ∷ []

-- "All others first: 2 as above; 3: store or table unsound; then 4: .. where one is given", then each operation's own
unfoldable pub refusals_of : Event → List ℕ
refusals_of (event.Write k tag) = 2 ∷ 3 ∷ 4 ∷ 5 ∷ 6 ∷ 7 ∷ []
refusals_of (event.Retry k) = 2 ∷ 3 ∷ 4 ∷ 5 ∷ 6 ∷ 7 ∷ []
refusals_of (event.Crash k) = 2 ∷ 3 ∷ 4 ∷ 5 ∷ []
refusals_of (event.Start k) = 2 ∷ 3 ∷ 4 ∷ 5 ∷ 6 ∷ 7 ∷ []
refusals_of (event.Drop r) = 2 ∷ 3 ∷ 8 ∷ []
refusals_of (event.Deliver r) = 2 ∷ 3 ∷ 8 ∷ 9 ∷ 10 ∷ 11 ∷ 12 ∷ 13 ∷ 7 ∷ []

-- the result of a refused call: table and store as they were, and a number of the list
pub record Unchanged (numbers : List ℕ) (table : List Node) (store : List ℕ) (why : Refusal) (result : Result) : Type 0 where
  pub same_table : result.table ≡ table
  pub same_store : result.store ≡ store
  pub is_listed : Memᴰ (refusal_number why) numbers

-- if the result is a refusal
unfoldable pub IfRefused : List ℕ → List Node → List ℕ → Result → Type 0
IfRefused numbers table store result =
    (why : Refusal) → result.answer ≡ answer.Refused why → Unchanged numbers table store why result

-- for every operation, with any arguments, on any table and any store
unfoldable pub RefusalsChangeNothing : Type 0
RefusalsChangeNothing =
    ((n : ℕ) (table : List Node) (store : List ℕ) → IfRefused set_up_refusals table store (set_up n table store)) ×
    ((e : Event) (table : List Node) (store : List ℕ) → IfRefused (refusals_of e) table store (perform e table store))
