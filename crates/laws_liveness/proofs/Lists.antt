-- Laws of `Each`, `Both` and of deliveries one after the other.
use Prim.Native.Nat.{◌<◌}
use native.Mathlib.Omega.{arith}
use mathlib.Core.Path.{◌≡◌, sym, subst, ◌∙◌}
use mathlib.Core.List.{List, [], ◌∷◌, ◌++◌, map, map-append}
use lib.ListN.{length}
use Rattle.laws_liveness.specs.Delivery.{Delivery, deliver, Deliver}
use Rattle.laws_liveness.specs.Each.{Each, Both}
use Rattle.operations.specs.Operation.{Result}

pub each_map : {A : Type 0} (P Q : A → Type 0) → ((a : A) → P a → Q a) → (l : List A) → Each P l → Each Q l
unfolding Each
each_map P Q h [] e = tt
each_map P Q h (a ∷ l) e = (h a e.0, each_map P Q h l e.1)

pub each_all : {A : Type 0} (P : A → Type 0) → ((a : A) → P a) → (l : List A) → Each P l
unfolding Each
each_all P h [] = tt
each_all P h (a ∷ l) = (h a, each_all P h l)

pub each_two : {A : Type 0} (P Q : A → Type 0) (l : List A) → Each P l → Each Q l → Each (λ a. P a × Q a) l
unfolding Each
each_two P Q [] e f = tt
each_two P Q (a ∷ l) e f = ((e.0, f.0), each_two P Q l e.1 f.1)

pub both_map : {A B : Type 0} (R S : A → B → Type 0) → ((a : A) (b : B) → R a b → S a b) → (l : List A) (m : List B) → Both R l m → Both S l m
unfolding Both
both_map R S h [] [] e = tt
both_map R S h [] (b ∷ m) e = e
both_map R S h (a ∷ l) [] e = e
both_map R S h (a ∷ l) (b ∷ m) e = (h a b e.0, both_map R S h l m e.1)

-- where each element has a partner there is a list of partners
pub both_of : {A B : Type 0} (R : A → B → Type 0) (l : List A) → Each (λ a. (b : B) × R a b) l → (m : List B) × Both R l m
unfolding Each Both
both_of R [] e = ([], tt)
both_of R (a ∷ l) e = let w = both_of R l e.1 in (e.0.0 ∷ w.0, (e.0.1, w.1))

pub deliver_join : (before : Result) (ds : List Delivery) (middle : Result) (es : List Delivery) (after : Result) → Deliver before ds middle
    → Deliver middle es after → Deliver before (ds ++ es) after
unfolding Deliver
deliver_join before [] middle es after p q = subst (λ (r : Result). Deliver r es after) (sym p) q
deliver_join before (d ∷ ds) middle es after p q = (p.0, p.1, deliver_join (deliver before d.at) ds middle es after p.2 q)

-- some element of a list that is not empty
pub each_some : {A : Type 0} (P : A → Type 0) (l : List A) → 0 < length l → Each P l → (a : A) × P a
unfolding Each
each_some P [] h e = absurd (omega arith)
each_some P (a ∷ l) h e = (a, e.0)

-- four lists, one after the other
pub map_four : {A B : Type 0} (f : A → B) (a b c d : List A) (a' b' c' d' : List B) → map f a ≡ a' → map f b ≡ b' → map f c ≡ c' → map f d ≡ d'
    → map f (a ++ (b ++ (c ++ d))) ≡ a' ++ (b' ++ (c' ++ d'))
map_four f a b c d a' b' c' d' p q r s =
    let last : map f (c ++ d) ≡ c' ++ d' = map-append f c d ∙ (λ i. r i ++ s i) in
    let most : map f (b ++ (c ++ d)) ≡ b' ++ (c' ++ d') = map-append f b (c ++ d) ∙ (λ i. q i ++ last i) in
    map-append f a (b ++ (c ++ d)) ∙ (λ i. p i ++ most i)
