-- Soundness along a run (document 01): set-up makes table and store sound, every operation keeps them so, and in a run no call
-- is refused with 2 or 3, for any valid n and any list of events.
use Rattle.std.specs.Prelude.{ℕ, ◌≡◌, ◌≢◌, Bool, true, ◌&&◌}
use mathlib.Core.List.{List, Memᴰ}
use Rattle.protocol.specs.Answer.{refusal_number}
use Rattle.operations.specs.Claim.{TagFits, TagsFit}
use Rattle.operations.specs.Operation.{Result, set_up, perform}
use Rattle.protocol.specs.Call.{Call}
use Rattle.operations.specs.Run.{calls, left}
use Rattle.protocol.specs.Table.{sound_table}
use Rattle.protocol.specs.declared.Answer.TheVariants as answer
use Rattle.protocol.specs.declared.Event.{Event}
use Rattle.protocol.specs.declared.Node.{Node}
use Rattle.protocol.specs.declared.Refusal.{Refusal}
use Rattle.store.specs.Head.{group_size}
use Rattle.store.specs.Records.{records_of}
use Rattle.store.specs.Sound.{sound_store}
use Rattle.laws_runs.specs.Within.{Within}

-- what "3: store or table unsound" (and 2 before it) finds nothing against
unfoldable pub are_sound : List Node → List ℕ → Bool
are_sound table store = sound_store store && sound_table (group_size (records_of store)) table

-- a sound table and store of a group of n, as the code holds them
pub record SoundGroup (n : ℕ) (table : List Node) (store : List ℕ) : Type 0 where
  pub size : group_size (records_of store) ≡ n
  pub sound : are_sound table store ≡ true
  pub within : Within table store

abbrev pub LeavesSound : ℕ → Result → Type 0
LeavesSound n result = SoundGroup n result.table result.store

-- an accepted set-up makes them sound
unfoldable pub SetUpIsSound : Type 0
SetUpIsSound =
    (n : ℕ) (table : List Node) (store : List ℕ) → (set_up n table store).answer ≡ answer.Ok → LeavesSound n (set_up n table store)

-- every operation keeps them sound, whatever it answers
unfoldable pub SoundStaysSound : Type 0
SoundStaysSound =
    (n : ℕ) (table : List Node) (store : List ℕ) → SoundGroup n table store →
    (e : Event) → TagFits e → LeavesSound n (perform e table store)

-- in a run they are sound after any list of events
unfoldable pub RunsStaySound : Type 0
RunsStaySound =
    (n : ℕ) (table : List Node) (store : List ℕ) → (set_up n table store).answer ≡ answer.Ok →
    (events : List Event) → TagsFit events → LeavesSound n (left (set_up n table store) events)

-- and no call of it is refused with 2 or 3
unfoldable pub NeverUnsound : Type 0
NeverUnsound =
    (n : ℕ) (table : List Node) (store : List ℕ) → (set_up n table store).answer ≡ answer.Ok →
    (events : List Event) → TagsFit events → (call : Call) →
    Memᴰ call (calls (set_up n table store).table (set_up n table store).store events) →
    (why : Refusal) → call.answer ≡ answer.Refused why → (refusal_number why ≢ 2) × (refusal_number why ≢ 3)
