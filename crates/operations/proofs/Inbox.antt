-- The message in a record.
use Prim.Native.Nat.{ℕ}
use mathlib.Core.Path.{◌≡◌, refl}
use mathlib.Core.Logic.{◌≢◌}
use mathlib.Core.Bool.{Bool, true, false, cond}
use mathlib.Core.List.{List}
use lib.Dec.{eqb}
use borrow.Author.Tests.{eqb-false}
use Rattle.message.specs.declared.Envelope.{Envelope}
use Rattle.record.specs.Record.{read_record}
use Rattle.returns.proofs.ViewLaws.{clash}
use Rattle.store.specs.Head.{group_size}
use Rattle.store.specs.Records.{record_in}
use Rattle.store.specs.Sound.{message_in}
use Rattle.std.specs.Prelude.{None, Option, Some}

pub no_fault : (e : Envelope) (m : Option Envelope) → m ≡ Some e → m ≡ None → ⊥
no_fault e m h z = clash (cc)

-- the message in a record: the record is not the head, and reads so
pub message_read : (rs : List (List ℕ)) (r : ℕ) (e : Envelope) → message_in rs r ≡ Some e
    → (r ≢ 0) × (read_record (group_size rs) (record_in rs r) ≡ Some e)
unfolding message_in
message_read rs r e = go (eqb r 0) refl
  where
    go : (t : Bool) → eqb r 0 ≡ t → cond t None (read_record (group_size rs) (record_in rs r)) ≡ Some e
        → (r ≢ 0) × (read_record (group_size rs) (record_in rs r) ≡ Some e)
    go true z m = clash (cc)
    go false z m = (eqb-false r 0 z, m)
