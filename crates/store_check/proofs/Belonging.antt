-- Whether a record belongs in an inbox by the two ends of its message.
use Rattle.std.proofs.Common.{◌≡◌, ℕ, Bool, false, not, ◌&&◌, eqb, ltb, List, None, Option, Some, refl}
use Rattle.record.specs.Record.{read_record}
use Rattle.record_read.specs.Ends.{ends_of}
use Rattle.record_read.specs.declared.endpoints.Ends.{Ends}
use Rattle.store.specs.Sound.{addressed_to, belongs_to}
use Rattle.message.specs.declared.Envelope.{Envelope}

-- the tests of the ends
unfoldable pub from_another : ℕ → ℕ → Option Ends → Bool
from_another n owner None = false
from_another n owner (Some ends) = ltb ends.sender n && (not (eqb ends.sender ends.addressee) && eqb ends.addressee owner)

pub belongs_by : (n owner : ℕ) (r : List ℕ) → from_another n owner (ends_of (read_record n r)) ≡ belongs_to n owner r
unfolding belongs_to addressed_to from_another ends_of
belongs_by n owner r = read (read_record n r)
  where
    read : (a : Option Envelope) → from_another n owner (ends_of a) ≡ addressed_to n owner a
    read None = refl
    read (Some e) = refl
