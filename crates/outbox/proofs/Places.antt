-- The places that are left from a number on, how many of them are sent, and an array made by a closure from another.
use Prim.Native.Nat.{ℕ, zero, suc, ◌+◌, ◌-◌, ◌≤◌, ◌<◌}
use mathlib.Core.Path.{◌≡◌, refl, sym, ap, subst, ◌∙◌}
use mathlib.Core.Bool.{cond}
use mathlib.Core.List.{List, [], ◌∷◌, map}
use native.Mathlib.Omega.{arith}
use native.Mathlib.Numerals.{add-one}
use lib.ListN.{length, get_or}
use denote.Param.Members.{Mut, Called}
use Rattle.std.specs.Array.{IsMapOf, MapsFrom}
use Rattle.std.specs.List.{count_by, range_with_len}
use Rattle.std.specs.Prelude.{Option, is_some}
use Rattle.std.proofs.lemmas.List.Sums.{sum_by-cons}
use Rattle.item.specs.Maxima.{max_nodes}
use Rattle.message.specs.declared.Envelope.{Envelope}
use Rattle.protocol.specs.Outgoing.{outgoing_to, outgoing_from}
use Rattle.protocol.specs.declared.Node.{Node}
use Rattle.protocol.specs.declared.Sends.{Sends}
use Rattle.store.specs.Change.{count_outgoing}

-- ---- the numbers from k on

abbrev pub outgoing_left : Node → Sends → ℕ → ℕ → List (Option Envelope)
outgoing_left node sends back k = outgoing_from node sends back k (max_nodes - k)

module _ (node : Node) (sends : Sends) (back k : ℕ) where
  pub left_cons : k < max_nodes → outgoing_left node sends back k ≡ outgoing_to node sends back k ∷ outgoing_left node sends back (k + 1)
  unfolding outgoing_from
  left_cons h =
      let e : max_nodes - k ≡ suc (max_nodes - (k + 1)) = omega arith in
      ap (outgoing_from node sends back k) e
      ∙ ap (λ (j : ℕ). outgoing_to node sends back k ∷ outgoing_from node sends back j (max_nodes - (k + 1))) (sym (add-one k))

  pub left_none : max_nodes ≤ k → outgoing_left node sends back k ≡ []
  unfolding outgoing_from
  left_none h =
      let e : max_nodes - k ≡ 0 = omega arith in
      ap (outgoing_from node sends back k) e

-- ---- how many are sent

pub count_places : (node : Node) (sends : Sends) (back k n : ℕ)
    → count_by (λ (j : ℕ). is_some (outgoing_to node sends back j)) (range_with_len k n) ≡ count_outgoing (outgoing_from node sends back k n)
unfolding count_outgoing outgoing_from
count_places node sends back k zero = refl
count_places node sends back k (suc n) =
    let sent = λ (j : ℕ). is_some (outgoing_to node sends back j) in
    let rest = ap (λ (j : ℕ). count_by sent (range_with_len j n)) (add-one k) ∙ count_places node sends back (suc k) n in
    sum_by-cons (λ (j : ℕ). cond (sent j) 1 0) k (range_with_len (k + 1) n)
    ∙ ap (λ (c : ℕ). cond (sent k) 1 0 + c) rest
    ∙ sym (sum_by-cons (λ (o : Option Envelope). cond (is_some o) 1 0) (outgoing_to node sends back k) (outgoing_from node sends back (suc k) n))

-- ---- an array made from another by a closure that stays as it is

module _ {F A B : Type 0} {g : Mut F (A × Unit {0}) B} {f : F} (value : A → B)
    (gives : (x : A) (y : B) (f' : F) → Called g f (x, tt) y f' → (y ≡ value x) × (f' ≡ f)) where
  maps_from : (xs : List A) (ys : List B) (i n k j : ℕ) (d : A) (e : B) → MapsFrom g f xs ys i n → k < n → i + k ≡ j → get_or ys j e ≡ value (get_or xs j d)
  maps_from xs ys i zero k j d e made h at = absurd (omega arith)
  maps_from xs ys i (suc n) zero j d e (f', x, y, from, here, call, made) h at =
      let here_is : i ≡ j = omega arith in
      subst (λ (k : ℕ). get_or ys k e ≡ value (get_or xs k d)) here_is (here.1 e ∙ (gives x y f' call).0 ∙ ap value (sym (from.1 d)))
  maps_from xs ys i (suc n) (suc k) j d e (f', x, y, from, here, call, made) h at =
      let rest = subst (λ (p : F). MapsFrom g p xs ys (i + 1) n) (gives x y f' call).1 made in
      maps_from xs ys (i + 1) n k j d e rest (omega arith) (omega arith)

same_map : {A B : Type 0} (value : A → B) (xs : List A) (ys : List B) (d : A) (e : B) → length xs ≡ length ys
    → ((k : ℕ) → k < length ys → get_or ys k e ≡ value (get_or xs k d)) → ys ≡ map value xs
same_map value [] [] d e h at = refl
same_map value [] (y ∷ ys) d e h at = absurd (omega arith)
same_map value (x ∷ xs) [] d e h at = absurd (omega arith)
same_map value (x ∷ xs) (y ∷ ys) d e h at = λ j. at 0 (omega arith) j ∷ same_map value xs ys d e (omega arith) (λ k h. at (suc k) (omega arith)) j

pub is_map : {F A B : Type 0} {g : Mut F (A × Unit {0}) B} {f : F} (value : A → B) (xs : List A) (ys : List B) (n : ℕ) (d : A) (e : B)
    → ((x : A) (y : B) (f' : F) → Called g f (x, tt) y f' → (y ≡ value x) × (f' ≡ f)) → IsMapOf g f xs ys n → length xs ≡ n → ys ≡ map value xs
is_map value xs ys n d e gives made h =
    same_map value xs ys d e (omega (arith, made.long)) (λ k l. maps_from value gives xs ys 0 n k k d e made.each (omega (arith, made.long)) (omega arith))
