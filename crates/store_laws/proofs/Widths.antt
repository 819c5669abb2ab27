-- A message whose numbers are within their widths is read back from its record, so it may be put.
use Prim.Native.Nat.{ℕ, ◌<◌}
use mathlib.Core.Logic.{◌≢◌}
use mathlib.Core.List.{List}
use native.Mathlib.Omega.{arith}
use Rattle.item.specs.declared.Item.{Item}
use Rattle.message.specs.declared.Envelope.{Envelope}
use Rattle.record.specs.RoundTrip.{Fits, RowsFit, ReadsBack}
use Rattle.record.proofs.RoundTripLaws.{reads_back}
use Rattle.store_laws.proofs.Put.{ForGroup}

pub for_group : (n : ℕ) (e : Envelope) (rows : List Item) → e.sender < n → e.addressee < n → e.sender ≢ e.addressee → Fits e → RowsFit rows
    → ForGroup n e rows
unfolding ReadsBack
for_group n e rows from to other f r =
    record { from_group = from; to_group = to; to_other = other; reads = (reads_back n 0 e rows (omega arith) f r).0 }
