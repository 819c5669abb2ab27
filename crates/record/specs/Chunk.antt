-- A list cut into chunks of one size, as the store is cut into records. The size is a parameter of every definition.
use Rattle.std.specs.Prelude.{ℕ, ◌*◌, List}
use Rattle.std.specs.Simd.{first_chunks}
use Rattle.endian.specs.Part.{part, with_part}

-- chunk i of s; none unless it lies whole within s
unfoldable pub chunk : ℕ → List ℕ → ℕ → List ℕ
chunk size s i = part size s (i * size)

-- s with c for chunk i; s unless that chunk lies whole within it
unfoldable pub with_chunk : ℕ → List ℕ → ℕ → List ℕ → List ℕ
with_chunk size s i c = with_part size s (i * size) c

-- the first k chunks of s, one after the other: for definitions that are to compute, since it goes through s once
unfoldable pub cut : ℕ → ℕ → List ℕ → List (List ℕ)
cut size k s = first_chunks size k s
