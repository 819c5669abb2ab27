-- Text written into a lent list, where there is room.
use Rattle.std.specs.Prelude.{ℕ, ◌+◌, ◌≤◌, ◌≡◌, cond, List, leb, length}
use Rattle.std.proofs.lemmas.List.Edits.{sets}

-- the list with the text from the place on; where fewer than `room` elements are left, the list as it was
unfoldable pub placed : ℕ → List ℕ → ℕ → List ℕ → List ℕ
placed room out at text = cond (leb (at + room) (length out)) (sets out at text) out

-- and the place after the text, or the place itself where nothing was written
unfoldable pub place_after : ℕ → List ℕ → ℕ → List ℕ → ℕ
place_after room out at text = cond (leb (at + room) (length out)) (at + length text) at

-- the list begins with the text, if it has room for it, and n is how much that is
pub record Begins (out : List ℕ) (text : List ℕ) (n : ℕ) (last : List ℕ) : Type 0 where
  pub room : length last ≡ length out
  pub within : n ≤ length out
  pub count : length text ≤ length out → n ≡ length text
  pub bytes : length text ≤ length out → last ≡ sets out 0 text
