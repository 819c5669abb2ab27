-- Numbers in bytes (document 01, "Message store": "little-endian"): the lowest byte first.
use Rattle.std.specs.Prelude.{ℕ, zero, suc, ◌+◌, ◌*◌, ◌/◌, ◌%◌, ◌<◌, List, [], ◌∷◌, get_or}
use Rattle.endian.specs.Part.{part, with_part}

-- the number that bytes say
unfoldable pub value : List ℕ → ℕ
value [] = 0
value (b ∷ bs) = b + 256 * value bs

-- the w lowest bytes of a number
unfoldable pub bytes : ℕ → ℕ → List ℕ
bytes zero v = []
bytes (suc w) v = v % 256 ∷ bytes w (v / 256)

-- the number in the w bytes from `at`; 0 unless they lie within s
unfoldable pub number_at : ℕ → List ℕ → ℕ → ℕ
number_at w s at = value (part w s at)

-- s with the w lowest bytes of v from `at`; s unless they lie within it
unfoldable pub with_number : ℕ → List ℕ → ℕ → ℕ → List ℕ
with_number w s at v = with_part w s at (bytes w v)

-- every element is a byte
unfoldable pub AreBytes : List ℕ → Type 0
AreBytes l = (i : ℕ) → get_or l i 0 < 256
