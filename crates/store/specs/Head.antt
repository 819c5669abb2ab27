-- The head (document 01: "Record 0 is the head: bytes 0-1 first free record, byte 2 n, byte 3 zero, from byte 4 two bytes
-- for each node's first inbox record, the rest zero"). Its fields are read and changed only here.
use Rattle.std.specs.Prelude.{ℕ, ◌+◌, ◌*◌, Bool, ◌&&◌, List, eqb, get_or, set, drop}
use Rattle.endian.specs.Number.{number_at, with_number}
use Rattle.endian.specs.Zero.{all_zero}
use Rattle.store.specs.Records.{record_in}

-- where the head's fields begin
abbrev pub free_at : ℕ
free_at = 0

abbrev pub size_at : ℕ
size_at = 2

abbrev pub spare_at : ℕ
spare_at = 3

abbrev pub inboxes_at : ℕ
inboxes_at = 4

-- "two bytes for each node's first inbox record"
unfoldable pub inbox_at : ℕ → ℕ
inbox_at k = inboxes_at + k * 2

-- "first free record"
unfoldable pub first_free : List (List ℕ) → ℕ
first_free rs = number_at 2 (record_in rs 0) free_at

-- n
unfoldable pub group_size : List (List ℕ) → ℕ
group_size rs = get_or (record_in rs 0) size_at 0

-- the first record of node k's inbox
unfoldable pub first_of : List (List ℕ) → ℕ → ℕ
first_of rs k = number_at 2 (record_in rs 0) (inbox_at k)

-- "byte 3 zero", "the rest zero"
unfoldable pub head_zero : List (List ℕ) → Bool
head_zero rs =
    eqb (get_or (record_in rs 0) spare_at 0) 0 && all_zero (drop (inbox_at (group_size rs)) (record_in rs 0))

-- the head with another first free record, and with another first record of node k's inbox
unfoldable pub with_first_free : List (List ℕ) → ℕ → List (List ℕ)
with_first_free rs i = set rs 0 (with_number 2 (record_in rs 0) free_at i)

unfoldable pub with_first_of : List (List ℕ) → ℕ → ℕ → List (List ℕ)
with_first_of rs k i = set rs 0 (with_number 2 (record_in rs 0) (inbox_at k) i)
