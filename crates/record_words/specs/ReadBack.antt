-- Numbers that were written as a record are read back from it.
use Rattle.std.specs.Prelude.{ℕ, ◌^◌, ◌<◌, ◌≡◌, true, List, get_or}
use Rattle.record.specs.Record.{read_record}
use Rattle.record_words.specs.Numbers.{stated, record_numbers, numbers_bytes, is_found, is_stated}

-- numbers of 64 bits, as every list of them in the code is
unfoldable pub Within64 : List ℕ → Type 0
Within64 ns = (k : ℕ) → get_or ns k 0 < 2 ^ 64

-- the bytes that numbers say are a message again, and its numbers are these
unfoldable pub NumbersReadBack : Type 0
NumbersReadBack =
    (n : ℕ) (ns : List ℕ) → Within64 ns → is_stated (stated n ns) ≡ true
    → (is_found (read_record n (numbers_bytes n ns)) ≡ true) × (record_numbers n (numbers_bytes n ns) ≡ ns)
