-- One record at the boundary, as numbers: which calls are taken, and what they leave. The record is number i of the bytes.
use Rattle.std.specs.Prelude.{ℕ, ◌+◌, ◌*◌, Bool, ◌&&◌, cond, List, eqb, leb, length}
use Rattle.record_words.specs.Numbers.{number_count, stated, record_numbers, numbers_bytes, is_found, is_stated}
use Rattle.record.specs.Layout.{record_size, record_of, with_record}
use Rattle.record.specs.Record.{read_record}

-- 39 numbers are lent, and the record is a message in a group of n. A record that is not whole within the bytes has none.
unfoldable pub may_read : List ℕ → ℕ → ℕ → List ℕ → Bool
may_read s i n ns = eqb (length ns) number_count && is_found (read_record n (record_of s i))

unfoldable pub numbers_read : List ℕ → ℕ → ℕ → List ℕ → List ℕ
numbers_read s i n ns = cond (may_read s i n ns) (record_numbers n (record_of s i)) ns

-- the record is whole within the bytes, and the numbers are one in a group of n
unfoldable pub may_write : List ℕ → ℕ → ℕ → List ℕ → Bool
may_write s i n ns = leb (i * record_size + record_size) (length s) && is_stated (stated n ns)

unfoldable pub bytes_written : List ℕ → ℕ → ℕ → List ℕ → List ℕ
bytes_written s i n ns = cond (may_write s i n ns) (with_record s i (numbers_bytes n ns)) s
