-- The sizes that document 01 fixes and later requests move, each said here once, and which groups there are.
use Rattle.std.specs.Prelude.{ℕ, ◌%◌, Bool, ◌&&◌, leb, eqb}

-- "n odd, 3 to 15": the most nodes of a group, and so the rows of a node ("A node keeps 15 rows")
abbrev pub max_nodes : ℕ
max_nodes = 15

-- "A group has n nodes, n odd, 3 to 15"
unfoldable pub valid_size : ℕ → Bool
valid_size n = leb 3 n && (leb n max_nodes && eqb (n % 2) 1)

-- "Index and tag are 64-bit": the bytes of a tag
abbrev pub tag_size : ℕ
tag_size = 8
