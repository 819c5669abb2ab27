-- A line that comes byte by byte, of which at most 64 bytes are kept.
use Rattle.std.specs.Prelude.{ℕ, suc, cond, List, [], ◌∷◌, ltb, take, set, replicate, Option}
use Rattle.script.specs.Line.{line_of}
use Rattle.script.specs.declared.Line.{Line}
use Rattle.script.specs.declared.buffer.LineBuffer.{LineBuffer}

abbrev pub most_bytes : ℕ
most_bytes = 64

unfoldable pub none_yet : LineBuffer
none_yet = record { bytes = replicate most_bytes 0; len = 0 }

-- one more byte; with 64 of them, no more are kept
unfoldable pub pushed : LineBuffer → ℕ → LineBuffer
pushed p b = cond (ltb p.len most_bytes) (record { bytes = set p.bytes p.len b; len = suc p.len }) p

-- all bytes of a list, in order
unfoldable pub pushed_all : LineBuffer → List ℕ → LineBuffer
pushed_all p [] = p
pushed_all p (b ∷ bs) = pushed_all (pushed p b) bs

-- the bytes kept, as a line
unfoldable pub buffered_line : LineBuffer → Option Line
buffered_line p = line_of (take p.len p.bytes)
