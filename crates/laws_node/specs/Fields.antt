-- Which fields of a node each decision may change, as a table; number and n are changed by none.
use Rattle.std.specs.Prelude.{ℕ, ◌≡◌, Bool, true, false, eqb}
use Rattle.message.specs.declared.Message.{Message}
use Rattle.message.specs.declared.Message.TheVariants as message
use Rattle.protocol.specs.Node.{row_of}
use Rattle.protocol.specs.Phase.{is_fetching}
use Rattle.protocol.specs.declared.Node.{Node}
use Rattle.laws_node.specs.Decision.{Decision, Write, Retry, Crash, Start, Deliver}

-- which rows may change
pub data Rows : Type 0 where
  none every : Rows
  only : ℕ → Rows

unfoldable pub among : Rows → ℕ → Bool
among none i = false
among every i = true
among (only k) i = eqb i k

-- which fields may change
pub record Changed : Type 0 where
  pub incarnation : Bool
  pub attempt : Bool
  pub phase : Bool
  pub rows : Rows
  -- those counted and those asked
  pub peers : Bool

-- by a message from this sender
unfoldable pub changed_by : Message → ℕ → Changed
changed_by (message.Store attempt item) sender =
    record { incarnation = false; attempt = false; phase = false; rows = only sender; peers = false }
changed_by (message.Stored other attempt item) sender =
    record { incarnation = false; attempt = false; phase = true; rows = none; peers = true }
changed_by (message.Confirm other attempt item) sender =
    record { incarnation = false; attempt = false; phase = false; rows = none; peers = false }
changed_by (message.Confirmed other attempt item) sender =
    record { incarnation = false; attempt = false; phase = true; rows = none; peers = true }
changed_by message.Fetch sender =
    record { incarnation = false; attempt = false; phase = false; rows = none; peers = false }
changed_by (message.Table other) sender =
    record { incarnation = false; attempt = true; phase = true; rows = every; peers = true }

-- by a decision of the node with this number
unfoldable pub changed : Decision → ℕ → Changed
changed (Write tag) own = record { incarnation = false; attempt = true; phase = true; rows = only own; peers = true }
changed Retry own = record { incarnation = false; attempt = true; phase = true; rows = only own; peers = true }
changed Crash own = record { incarnation = false; attempt = true; phase = true; rows = every; peers = true }
changed Start own = record { incarnation = true; attempt = true; phase = true; rows = every; peers = true }
changed (Deliver envelope items) own = changed_by envelope.message envelope.sender

-- every field that may not change is as it was; and a decision that leaves the phase Fetching, as a Table before the
-- (f+1)-th does, leaves the attempt and those asked
pub record Leaves (may : Changed) (before after : Node) : Type 0 where
  pub same_number : after.number ≡ before.number
  pub same_size : after.n ≡ before.n
  pub same_incarnation : may.incarnation ≡ false → after.incarnation ≡ before.incarnation
  pub same_attempt : may.attempt ≡ false → after.attempt ≡ before.attempt
  pub same_phase : may.phase ≡ false → after.phase ≡ before.phase
  pub same_row : (i : ℕ) → among may.rows i ≡ false → row_of after i ≡ row_of before i
  pub same_counted : may.peers ≡ false → after.counted ≡ before.counted
  pub same_asked : may.peers ≡ false → after.asked ≡ before.asked
  pub while_fetching : is_fetching before.phase ≡ true → is_fetching after.phase ≡ true
      → (after.attempt ≡ before.attempt) × (after.asked ≡ before.asked)
