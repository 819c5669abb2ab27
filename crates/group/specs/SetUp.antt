-- Set-up as the code does it: everything but the table is decided and done first, and then the nodes are set up.
use Rattle.std.specs.Prelude.{ℕ, cond, ◌&&◌, List, eqb, Result, Ok, Err}
use Rattle.item.specs.Maxima.{valid_size}
use Rattle.store.specs.Records.{record_count, right_length, on_records}
use Rattle.store.specs.Change.{empty_records}
use Rattle.protocol.specs.declared.Refusal.{Refusal}
use Rattle.protocol.specs.declared.Refusal.TheVariants.{GroupSize, StoreLength}

-- "1: n not valid or the table has not n nodes. 2: store not 65,280 bytes."
unfoldable pub prepared : ℕ → ℕ → List ℕ → Result Unit Refusal
prepared n nodes store =
    cond (valid_size n && eqb nodes n) (cond (right_length store) (Ok tt) (Err StoreLength)) (Err GroupSize)

-- the store afterwards: "free chain 1, 2, .. 239; inboxes empty"
unfoldable pub prepared_store : ℕ → ℕ → List ℕ → List ℕ
prepared_store n nodes store =
    cond (valid_size n && eqb nodes n) (on_records (λ _. empty_records record_count n) store) store
