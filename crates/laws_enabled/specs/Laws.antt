-- The laws: for a sound table and store each operation acts exactly when `Acting` says so; Set up, on any.
use Rattle.std.specs.Prelude.{ℕ, ◌≡◌, Bool, ◌&&◌, List, eqb, length}
use Rattle.item.specs.Maxima.{valid_size}
use Rattle.item.specs.declared.Tag.{Tag}
use Rattle.store.specs.Records.{right_length, records_of}
use Rattle.operations.specs.Operation.{set_up, perform}
use Rattle.protocol.specs.declared.Event.{Event}
use Rattle.protocol.specs.declared.Event.TheVariants as event
use Rattle.protocol.specs.declared.Node.{Node}
use Rattle.laws_runs.specs.Laws.{SoundGroup}
use Rattle.laws_enabled.specs.Acting.{acted, may_write, may_retry, may_crash, may_start, on_inbox, may_deliver}

-- in a sound group this event acts exactly if the test says so
abbrev pub ActsIf : Event → (ℕ → List Node → List (List ℕ) → Bool) → Type 0
ActsIf e test =
    (n : ℕ) (table : List Node) (store : List ℕ) → SoundGroup n table store →
    acted (perform e table store) ≡ test n table (records_of store)

-- "1: n not valid or the table has not n nodes. 2: store not 65,280 bytes."
unfoldable pub SetUpActs : Type 0
SetUpActs =
    (n : ℕ) (table : List Node) (store : List ℕ) →
    acted (set_up n table store) ≡ (valid_size n && eqb (length table) n) && right_length store

unfoldable pub WriteActs : Type 0
WriteActs = (k : ℕ) (tag : Tag) → ActsIf (event.Write k tag) (λ n table rs. may_write n k table rs)

unfoldable pub RetryActs : Type 0
RetryActs = (k : ℕ) → ActsIf (event.Retry k) (λ n table rs. may_retry n k table rs)

unfoldable pub CrashActs : Type 0
CrashActs = (k : ℕ) → ActsIf (event.Crash k) (λ n table rs. may_crash n k table)

unfoldable pub StartActs : Type 0
StartActs = (k : ℕ) → ActsIf (event.Start k) (λ n table rs. may_start n k table rs)

unfoldable pub DropActs : Type 0
DropActs = (r : ℕ) → ActsIf (event.Drop r) (λ n table rs. on_inbox n r rs)

unfoldable pub DeliverActs : Type 0
DeliverActs = (r : ℕ) → ActsIf (event.Deliver r) (λ n table rs. may_deliver n r table rs)
