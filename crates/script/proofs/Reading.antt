-- Laws of reading a line: the word before the first space, and that a line of more than 43 bytes is unread.
use Prim.Native.Nat.{ℕ, ◌+◌, ◌-◌, ◌<◌, ◌≤◌}
use native.Mathlib.Numerals.{add-one}
use native.Mathlib.Omega.{arith}
use mathlib.Core.Path.{◌≡◌, refl, sym, ap, ◌∙◌}
use mathlib.Core.Bool.{Bool, true, false, ◌&&◌, not, cond}
use mathlib.Core.List.{List, [], ◌∷◌}
use lib.Dec.{ltb, leb, eqb}
use lib.ListN.{length, get_or, take, drop, drop_of_length-le, length-drop}
use lib.Seq.{take_all}
use borrow.Author.Tests.{ltb-true, ltb-false}
use Rattle.item.proofs.Tests.{by_cond}
use Rattle.script.specs.Bytes.{space}
use Rattle.script.specs.Number.{number_in}
use Rattle.script.proofs.NumberReading.{too_long, none_in}
use Rattle.std.specs.Prelude.{Option, Some, None}
use Rattle.std.specs.List.{position, position_or_len}
use Rattle.script.specs.Line.{word, after_word, tag_of, tag_in, write_with, write_of, one_number, lettered, line_of}

-- the first place at which p passes, or none
position_none : (p : ℕ → Bool) (s : List ℕ) → position p s ≡ None → length s ≤ position_or_len p s
position_none p s e = by_test (ltb (position_or_len p s) (length s)) refl e
  where
    by_test : (t : Bool) → ltb (position_or_len p s) (length s) ≡ t → cond t (Some (position_or_len p s)) None ≡ None → length s ≤ position_or_len p s
    by_test true t e = absurd (cc)
    by_test false t e = ltb-false (position_or_len p s) (length s) t

position_some : (p : ℕ → Bool) (s : List ℕ) (k : ℕ) → position p s ≡ Some k → (k ≡ position_or_len p s) × (k < length s)
position_some p s k e = by_test (ltb (position_or_len p s) (length s)) refl e
  where
    by_test : (t : Bool) → ltb (position_or_len p s) (length s) ≡ t → cond t (Some (position_or_len p s)) None ≡ Some k → (k ≡ position_or_len p s) × (k < length s)
    by_test true t e =
        let f : position_or_len p s ≡ k = cc in
        (sym f, omega (arith, f, ltb-true (position_or_len p s) (length s) t))
    by_test false t e = absurd (cc)

-- the word is what stands before the first space
pub word_before : (s : List ℕ) → length (word s) ≡ position_or_len (λ b. eqb b space) s
unfolding word
word_before [] = refl
word_before (b ∷ bs) = by_test (eqb b space) (word_before bs)
  where
    by_test : (t : Bool) → length (word bs) ≡ position_or_len (λ b. eqb b space) bs
        → length (cond t [] (b ∷ word bs)) ≡ cond (not t) (1 + position_or_len (λ b. eqb b space) bs) 0
    by_test true h = refl
    by_test false h = omega (arith, h)

-- the word and what stands after it, as parts of the bytes
pub word_part : (s : List ℕ) → take (length (word s)) s ≡ word s
unfolding word
word_part [] = refl
word_part (b ∷ bs) =
    by_cond (λ w. take (length w) (b ∷ bs) ≡ w) (eqb b space) [] (b ∷ word bs)
    (λ e. refl)
    (λ e. ap (λ (l : List ℕ). b ∷ l) (word_part bs))

pub after_part : (s : List ℕ) → drop (length (word s) + 1) s ≡ after_word s
unfolding word after_word
after_part [] = refl
after_part (b ∷ bs) = by_test (eqb b space) refl (after_part bs)
  where
    by_test : (t : Bool) → eqb b space ≡ t → drop (length (word bs) + 1) bs ≡ after_word bs
        → drop (length (word (b ∷ bs)) + 1) (b ∷ bs) ≡ after_word (b ∷ bs)
    by_test true e ih = rw e
    by_test false e ih = rw (e, add-one) (rw add-one at ih)

-- the bytes are no more than those of the word, the space and those after it
word_after : (s : List ℕ) → length s ≤ length (word s) + 1 + length (after_word s)
unfolding word after_word
word_after [] = omega arith
word_after (b ∷ bs) = by_test (eqb b space) refl (word_after bs)
  where
    by_test : (t : Bool) → eqb b space ≡ t → length bs ≤ length (word bs) + 1 + length (after_word bs)
        → length (b ∷ bs) ≤ length (word (b ∷ bs)) + 1 + length (after_word (b ∷ bs))
    by_test true e ih = rw e (omega arith)
    by_test false e ih = rw e (omega arith)

-- no tag, no Write
pub write_no_tag : (n : Option ℕ) → write_with n None ≡ None
unfolding write_with
write_no_tag (Some v) = refl
write_no_tag None = refl

pub no_tag : tag_in [] ≡ None
unfolding tag_in tag_of
no_tag = rw none_in

-- a part that goes to the end
pub part_rest : (a : ℕ) (s : List ℕ) → take (length s - a) (drop a s) ≡ drop a s
part_rest a s = take_all (length s - a) (drop a s) (omega (arith, length-drop a s))

-- a Write by the parts of its bytes; with no space there is no tag
pub write_parts : (s : List ℕ) (k : ℕ) → k ≡ length (word s)
    → write_of s ≡ write_with (number_in (take k s)) (tag_in (take (length s - (k + 1)) (drop (k + 1) s)))
unfolding write_of
write_parts s k e = rw (e, word_part s, part_rest (length (word s) + 1) s, after_part s)

pub write_one_word : (s : List ℕ) → position (λ b. eqb b space) s ≡ None → write_of s ≡ None
unfolding write_of
write_one_word s e =
    let l : length s ≤ length (word s) + 1 = omega (arith, word_before s, position_none (λ b. eqb b space) s e) in
    let d : after_word s ≡ [] = sym (after_part s) ∙ drop_of_length-le s l in
    rw (d, no_tag) (write_no_tag (number_in (word s)))

-- where the first space stands, as the length of the word before it
pub space_at : (s : List ℕ) (k : ℕ) → position (λ b. eqb b space) s ≡ Some k → (k ≡ length (word s)) × (k < length s)
space_at s k e =
    let p = position_some (λ b. eqb b space) s k e in
    (omega (arith, word_before s, p.0), p.1)

-- numbers have at most twenty bytes, and so a Write's at most 41, every other line's at most 20
write_long : (bs : List ℕ) → 41 < length bs → write_of bs ≡ None
unfolding write_of write_with tag_in tag_of
write_long bs h =
    by_cond (λ (l : ℕ). write_of bs ≡ None) (ltb 20 (length (word bs))) 0 0
    (λ e. rw (too_long (word bs) (ltb-true 20 (length (word bs)) e)))
    (λ e. rw (too_long (after_word bs) (omega (arith, word_after bs, ltb-false 20 (length (word bs)) e))) (write_no_tag (number_in (word bs))))

lettered_long : (letter : ℕ) (bs : List ℕ) → 41 < length bs → lettered letter bs ≡ None
unfolding lettered one_number
lettered_long letter bs h =
    by_cond (λ l. l ≡ None) (eqb letter 119) (write_of bs) (one_number letter (number_in bs))
    (λ e. write_long bs h)
    (λ e. rw (too_long bs (omega arith)))

-- a readable line has at most 43 bytes
pub line_long : (bs : List ℕ) → 43 < length bs → line_of bs ≡ None
unfolding line_of
line_long bs h =
    by_cond (λ l. l ≡ None) (leb 2 (length bs) && eqb (get_or bs 1 0) space) (lettered (get_or bs 0 0) (drop 2 bs)) None
    (λ e. lettered_long (get_or bs 0 0) (drop 2 bs) (rw (length-drop 2 bs) (omega arith)))
    (λ e. refl)
