-- Laws of text written into a lent list, piece by piece.
use Prim.Native.Nat.{ℕ, suc, ◌+◌, ◌-◌, ◌<◌, ◌≤◌}
use native.Mathlib.Omega.{arith}
use mathlib.Core.Path.{◌≡◌, refl, sym, ap, ◌∙◌}
use mathlib.Core.List.{List, [], ◌∷◌, ◌++◌, append-nil, append_assoc}
use borrow.Rule.Slice.PartMut.{put_mid}
use lib.ListN.{length, set, take, drop, length-append, length-take, length-drop, drop_of_length-le}
use lib.Seq.{sets, sets-eq, length-sets, take_all, drop-drop}
use borrow.Author.Tests.{le-leb, lt-leb}
use Rattle.answers.specs.Place.{Begins, placed, place_after}

-- text written after text is written at once
pub sets_after : (l : List ℕ) (i : ℕ) (xs ys : List ℕ) (k : ℕ) → k ≡ i + length xs → sets (sets l i xs) k ys ≡ sets l i (xs ++ ys)
sets_after l i [] ys k e = let z : k ≡ i = omega arith in rw z
sets_after l i (x ∷ xs) ys k e = sets_after (set l i x) (suc i) xs ys k (omega arith)

-- what is written at the start of the rest of a list
rest_written : (l : List ℕ) (k : ℕ) (ys : List ℕ) → k + length ys ≤ length l → take k l ++ sets (drop k l) 0 ys ≡ sets l k ys
rest_written l k ys h =
    let d : 0 + length ys ≤ length (drop k l) = omega (arith, length-drop k l) in
    let z : 0 + length ys ≡ length ys = omega arith in
    ap (λ (r : List ℕ). take k l ++ r) (sets-eq ys (drop k l) 0 d)
    ∙ rw (z, drop-drop (length ys) k l) (sym (sets-eq ys l k h ∙ append_assoc (take k l) ys (drop (k + length ys) l)))

rest_is : (l : List ℕ) (k : ℕ) → take (length l - k) (drop k l) ≡ drop k l
rest_is l k = take_all (length l - k) (drop k l) (omega (arith, length-drop k l))

pub begun_at : (l : List ℕ) (k : ℕ) {ys : List ℕ} {n : ℕ} {rest : List ℕ} → k + length ys ≤ length l → Begins (take (length l - k) (drop k l)) ys n rest
    → (k + n ≡ k + length ys) × (put_mid k (length l - k) l rest ≡ sets l k ys)
begun_at l k {ys} {n} {rest} h w =
    let d = length-drop k l in
    let v : Begins (drop k l) ys n rest = rw (rest_is l k) at w in
    let f : length ys ≤ length (drop k l) = omega arith in
    let e : drop (length l - k) (drop k l) ≡ [] = drop_of_length-le (drop k l) (omega arith) in
    (omega (arith, v.count f), rw (e, append-nil rest, v.bytes f) (rest_written l k ys h))

-- text at the start of the rest, after text
pub goes_on : {out xs : List ℕ} {k : ℕ} {mid ys : List ℕ} {n : ℕ} {rest : List ℕ} → Begins out xs k mid
    → Begins (take (length mid - k) (drop k mid)) ys n rest → Begins out (xs ++ ys) (k + n) (put_mid k (length mid - k) mid rest)
goes_on {out} {xs} {k} {mid} {ys} {n} {rest} b w =
    let d = length-drop k mid in
    let v : Begins (drop k mid) ys n rest = rw (rest_is mid k) at w in
    let a = length-append xs ys in
    let e : drop (length mid - k) (drop k mid) ≡ [] = drop_of_length-le (drop k mid) (omega arith) in
    record {
      room =
          rw (e, append-nil rest, length-append (take k mid) rest, length-take k mid) (omega (arith, b.room, b.within, v.room));
      within = omega (arith, b.room, b.within, v.within);
      count = λ h. let c = b.count (omega arith) in omega (arith, b.room, (begun_at mid k (omega (arith, b.room)) w).0);
      bytes =
          λ h. let c = b.count (omega arith) in
          (begun_at mid k (omega (arith, b.room)) w).1 ∙ rw (b.bytes (omega arith)) (sets_after out 0 xs ys k (omega arith));
    }

-- text in the place of as many elements at the start
pub begun_with : (out text : List ℕ) → length text ≤ length out → Begins out text (length text) (text ++ drop (length text) out)
begun_with out text h =
    let z : 0 + length text ≡ length text = omega arith in
    let e : sets out 0 text ≡ text ++ drop (length text) out = rw z at (sets-eq text out 0 (omega arith)) in
    record {
      room = rw (← e) (length-sets out 0 text);
      within = h;
      count = λ f. refl;
      bytes = λ f. sym e;
    }

-- where there is room, the text is written; where not, nothing is
pub placed_fits : (room : ℕ) (out : List ℕ) (at : ℕ) (text : List ℕ) → at + room ≤ length out → placed room out at text ≡ sets out at text
unfolding placed
placed_fits room out at text h = rw (le-leb (at + room) (length out) h)

pub after_fits : (room : ℕ) (out : List ℕ) (at : ℕ) (text : List ℕ) → at + room ≤ length out → place_after room out at text ≡ at + length text
unfolding place_after
after_fits room out at text h = rw (le-leb (at + room) (length out) h)

pub placed_none : (room : ℕ) (out : List ℕ) (at : ℕ) (text : List ℕ) → length out < at + room → placed room out at text ≡ out
unfolding placed
placed_none room out at text h = rw (lt-leb (at + room) (length out) h)

pub after_none : (room : ℕ) (out : List ℕ) (at : ℕ) (text : List ℕ) → length out < at + room → place_after room out at text ≡ at
unfolding place_after
after_none room out at text h = rw (lt-leb (at + room) (length out) h)

-- the same of text at the start, which asks for its own room
pub whole_fits : (out text : List ℕ) {n : ℕ} {last : List ℕ} → length text ≤ length out → Begins out text n last
    → (n ≡ place_after (length text) out 0 text) × (last ≡ placed (length text) out 0 text)
whole_fits out text f b =
    let room : 0 + length text ≤ length out = omega arith in
    let z : 0 + length text ≡ length text = omega arith in
    (b.count f ∙ sym (after_fits (length text) out 0 text room ∙ z), b.bytes f ∙ sym (placed_fits (length text) out 0 text room))

pub whole_none : (out text : List ℕ) → length out < length text → (0 ≡ place_after (length text) out 0 text) × (out ≡ placed (length text) out 0 text)
whole_none out text h =
    let few : length out < 0 + length text = omega arith in
    (sym (after_none (length text) out 0 text few), sym (placed_none (length text) out 0 text few))
