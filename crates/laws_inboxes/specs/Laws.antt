-- The laws: what the store holds after set-up and after every call that acts, and how many records are free. A refused call
-- leaves the store as it was.
use Rattle.std.specs.Prelude.{ℕ, ◌+◌, ◌-◌, ◌<◌, ◌≡◌, true, List, [], ◌++◌, drop}
use Rattle.store_laws.specs.Lists.{numbers_from, held_on, free_list, inbox_list}
use Rattle.store.specs.Change.{count_outgoing}
use Rattle.store.specs.Records.{record_count, records_of}
use Rattle.store.specs.Sound.{free_count}
use Rattle.operations.specs.Claim.{TagFits}
use Rattle.operations.specs.Operation.{set_up, perform}
use Rattle.protocol.specs.declared.Answer.TheVariants as answer
use Rattle.protocol.specs.declared.Event.{Event}
use Rattle.protocol.specs.declared.Node.{Node}
use Rattle.laws_runs.specs.Laws.{SoundGroup}
use Rattle.laws_enabled.specs.Acting.{acted}
use Rattle.laws_inboxes.specs.Inbox.{inbox}
use Rattle.laws_inboxes.specs.Sent.{sent_by_event, entries_to, kept, freed}

-- "free chain 1, 2, .. 239; inboxes empty"
pub record Empty (n : ℕ) (rs : List (List ℕ)) : Type 0 where
  pub inboxes : (k : ℕ) → k < n → inbox rs k ≡ []
  pub free : free_list rs ≡ numbers_from (record_count - 1) 1

unfoldable pub SetUpEmpties : Type 0
SetUpEmpties =
    (n : ℕ) (table : List Node) (store : List ℕ) → (set_up n table store).answer ≡ answer.Ok →
    Empty n (records_of (set_up n table store).store)

-- records rs become rs' by an event in a group of n
pub record HoldsAfter (n : ℕ) (e : Event) (table : List Node) (rs rs' : List (List ℕ)) : Type 0 where
  -- each inbox is what the event leaves of it, with what it sent at its end
  pub inboxes : (k : ℕ) → k < n
      → inbox rs' k ≡ kept e rs k ++ entries_to n k (sent_by_event e table rs).rows (sent_by_event e table rs).messages (free_list rs)
  -- a record is taken for each message, from the head of the free chain
  pub free : free_list rs' ≡ freed e (drop (count_outgoing (sent_by_event e table rs).messages) (free_list rs))

unfoldable pub HoldsAfterCall : Type 0
HoldsAfterCall =
    (n : ℕ) (table : List Node) (store : List ℕ) → SoundGroup n table store → (e : Event) → TagFits e →
    acted (perform e table store) ≡ true → HoldsAfter n e table (records_of store) (records_of (perform e table store).store)

-- "every record from 1 stands once on exactly one chain": 239 less the messages held are free
unfoldable pub RecordsCounted : Type 0
RecordsCounted =
    (n : ℕ) (table : List Node) (store : List ℕ) → SoundGroup n table store →
    free_count (records_of store) + held_on n (inbox_list (records_of store)) 0 ≡ record_count - 1
