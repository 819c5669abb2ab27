-- The changes of a store: a message put, a message dropped, and set-up (document 01: "Records are taken from the head of
-- the free chain and put at the inbox's end; a dropped one is cleared and becomes the free head, so it is taken again").
use Rattle.std.specs.Prelude.{ℕ, zero, suc, ◌%◌, cond, List, [], ◌∷◌, eqb, length, set, count_by, Option, Some, None, is_some}
use Rattle.endian.specs.Number.{with_number}
use Rattle.item.specs.declared.Item.{Item}
use Rattle.message.specs.declared.Envelope.{Envelope}
use Rattle.record.specs.Layout.{next_at}
use Rattle.record.specs.Record.{record_bytes, with_next, no_record}
use Rattle.store.specs.Records.{record_count, record_in, on_records}
use Rattle.store.specs.Head.{size_at, first_free, group_size, first_of, with_first_free, with_first_of}
use Rattle.store.specs.Chain.{next_in, last_from, before_from}

-- record i with another next
unfoldable pub with_next_in : List (List ℕ) → ℕ → ℕ → List (List ℕ)
with_next_in rs i next = set rs i (with_next (record_in rs i) next)

-- record i stands at the end of node k's inbox
unfoldable pub appended : List (List ℕ) → ℕ → ℕ → List (List ℕ)
appended rs k i =
    cond (eqb (first_of rs k) 0) (with_first_of rs k i)
    (with_next_in rs (last_from (length rs) rs (first_of rs k)) i)

-- the first free record is taken and written
unfoldable pub taken : List (List ℕ) → Envelope → List Item → List (List ℕ)
taken rs e rows =
    set (with_first_free rs (next_in rs (first_free rs))) (first_free rs) (record_bytes (group_size rs) 0 e rows)

-- a message is put into the store, "from the head of the free chain .. at the inbox's end"; where none is free nothing is
unfoldable pub put_in : List (List ℕ) → Envelope → List Item → List (List ℕ)
put_in rs e rows =
    cond (eqb (first_free rs) 0) rs (appended (taken rs e rows) e.addressee (first_free rs))

-- the messages that there are, in their order
unfoldable pub put_each : List (List ℕ) → List (Option Envelope) → List Item → List (List ℕ)
put_each rs [] rows = rs
put_each rs (None ∷ os) rows = put_each rs os rows
put_each rs (Some e ∷ os) rows = put_each (put_in rs e rows) os rows

-- how many messages there are
unfoldable pub count_outgoing : List (Option Envelope) → ℕ
count_outgoing os = count_by is_some os

-- record r no longer stands on node k's inbox
unfoldable pub unlinked : List (List ℕ) → ℕ → ℕ → List (List ℕ)
unlinked rs k r =
    cond (eqb (first_of rs k) r) (with_first_of rs k (next_in rs r))
    (with_next_in rs (before_from (length rs) rs r (first_of rs k)) (next_in rs r))

-- "cleared and becomes the free head"
unfoldable pub freed : List (List ℕ) → ℕ → List (List ℕ)
freed rs r = with_first_free (set rs r (with_next no_record (first_free rs))) r

-- record r of node k's inbox is dropped
unfoldable pub drop_in : List (List ℕ) → ℕ → ℕ → List (List ℕ)
drop_in rs k r = freed (unlinked rs k r) r

-- "free chain 1, 2, .. 239; inboxes empty": record i is followed by i + 1, and the last by none
unfoldable pub free_records : ℕ → ℕ → List (List ℕ)
free_records zero i = []
free_records (suc zero) i = with_next no_record 0 ∷ []
free_records (suc (suc left)) i = with_next no_record (suc i) ∷ free_records (suc left) (suc i)

unfoldable pub empty_head : ℕ → List ℕ
empty_head n = set (with_number 2 no_record next_at 1) size_at n

-- the records of a store of `count` records after set-up
unfoldable pub empty_records : ℕ → ℕ → List (List ℕ)
empty_records zero n = []
empty_records (suc left) n = empty_head n ∷ free_records left 1

-- Set up, as a change of bytes; n stands in one byte
unfoldable pub set_up : ℕ → List ℕ → List ℕ
set_up n s = on_records (λ _. empty_records record_count (n % 256)) s
