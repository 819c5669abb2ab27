-- A store as the list of its records (document 01, Message store: "The store is 65,280 bytes: 240 records of 272 bytes").
-- Everything about chains is said of the list of records; here is how the bytes give it and come back from it.
use Rattle.std.specs.Prelude.{ℕ, ◌*◌, Bool, cond, List, [], ◌∷◌, ◌++◌, eqb, length, get_or}
use Rattle.record.specs.Chunk.{cut}
use Rattle.record.specs.Layout.{record_size}

-- "240 records"
abbrev pub record_count : ℕ
record_count = 240

-- "65,280 bytes"
unfoldable pub right_length : List ℕ → Bool
right_length s = eqb (length s) (record_count * record_size)

-- the records of a store, the head first
unfoldable pub records_of : List ℕ → List (List ℕ)
records_of s = cut record_size record_count s

-- the bytes of records, one after the other
unfoldable pub joined : List (List ℕ) → List ℕ
joined [] = []
joined (r ∷ rs) = r ++ joined rs

-- record i; no bytes where there is none
unfoldable pub record_in : List (List ℕ) → ℕ → List ℕ
record_in rs i = get_or rs i []

-- a change of the records, as a change of the bytes; bytes that are no store stay as they are
unfoldable pub on_records : (List (List ℕ) → List (List ℕ)) → List ℕ → List ℕ
on_records change s = cond (right_length s) (joined (change (records_of s))) s
