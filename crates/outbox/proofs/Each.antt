-- A turn of the loop over the messages of a decision, and its end.
use Prim.Native.Nat.{ℕ}
use mathlib.Core.Path.{◌≡◌, refl, sym, ap, ◌∙◌}
use mathlib.Core.Bool.{Bool, true, false}
use mathlib.Core.List.{List, [], ◌∷◌}
use Rattle.item.specs.declared.Item.{Item}
use Rattle.message.specs.declared.Envelope.{Envelope}
use Rattle.std.specs.Prelude.{None, Option, Some}
use Rattle.store.specs.Records.{right_length, records_of, joined, on_records}
use Rattle.store.proofs.Joined.{records_count, records_sized, joined_records, right_after}
use Rattle.store.proofs.Locality.{Local, local_after, put_local}
use Rattle.store.specs.Change.{put_in, put_each}

-- ---- one change of the records after another, in the bytes

module _ (f : List (List ℕ) → List (List ℕ)) (s : List ℕ) where
  on_right : right_length s ≡ true → on_records f s ≡ joined (f (records_of s))
  unfolding on_records
  on_right e = rw e

  on_wrong : right_length s ≡ false → on_records f s ≡ s
  unfolding on_records
  on_wrong e = rw e

on_both : {New : List ℕ → Type 0} (f g : List (List ℕ) → List (List ℕ)) (s : List ℕ) → Local New (records_of s) (f (records_of s))
    → (t : Bool) → right_length s ≡ t → on_records g (on_records f s) ≡ on_records (λ rs. g (f rs)) s
on_both f g s a true e =
    on_right g (on_records f s) (right_after f s e (a.count ∙ records_count s) (a.sized (records_sized s e)))
    ∙ ap (λ (rs : List (List ℕ)). joined (g rs)) (local_after f s e a)
    ∙ sym (on_right (λ rs. g (f rs)) s e)
on_both f g s a false e = ap (on_records g) (on_wrong f s e) ∙ on_wrong g s e ∙ sym (on_wrong (λ rs. g (f rs)) s e)

on_same : (s : List ℕ) (t : Bool) → right_length s ≡ t → on_records (λ rs. rs) s ≡ s
on_same s true e = on_right (λ rs. rs) s e ∙ joined_records s e
on_same s false e = on_wrong (λ rs. rs) s e

-- ---- a turn and the end

module _ (s : List ℕ) (rows : List Item) where
  put_one : (o : Option Envelope) (os : List (Option Envelope))
      → on_records (λ rs. put_each rs (o ∷ os) rows) s ≡ on_records (λ rs. put_each rs os rows) (on_records (λ rs. put_each rs (o ∷ []) rows) s)
  unfolding put_each
  put_one None os = ap (on_records (λ rs. put_each rs os rows)) (sym (on_same s (right_length s) refl))
  put_one (Some e) os =
      sym (on_both (λ rs. put_in rs e rows) (λ rs. put_each rs os rows) s (put_local (records_of s) e rows) (right_length s) refl)

  -- where nothing is sent nothing is put
  pub put_none : {o : Option Envelope} → o ≡ None → s ≡ on_records (λ rs. put_each rs (o ∷ []) rows) s
  unfolding put_each
  put_none e = sym ((λ j. on_records (λ rs. put_each rs (e j ∷ []) rows) s) ∙ on_same s (right_length s) refl)

  pub put_some : {o : Option Envelope} {e : Envelope} (s' : List ℕ) → o ≡ Some e → s' ≡ on_records (λ rs. put_in rs e rows) s
      → s' ≡ on_records (λ rs. put_each rs (o ∷ []) rows) s
  unfolding put_each
  put_some s' p e = e ∙ sym (λ j. on_records (λ rs. put_each rs (p j ∷ []) rows) s)

module _ {all : List (Option Envelope)} (s : List ℕ) (rows : List Item) where
  pub put_turn : (o : Option Envelope) (os : List (Option Envelope)) (s' : List ℕ) → all ≡ o ∷ os
      → s' ≡ on_records (λ rs. put_each rs (o ∷ []) rows) s
      → on_records (λ rs. put_each rs all rows) s ≡ on_records (λ rs. put_each rs os rows) s'
  put_turn o os s' here e =
      (λ j. on_records (λ rs. put_each rs (here j) rows) s) ∙ put_one s rows o os ∙ ap (on_records (λ rs. put_each rs os rows)) (sym e)

  pub put_end : all ≡ [] → on_records (λ rs. put_each rs all rows) s ≡ s
  unfolding put_each
  put_end none = (λ j. on_records (λ rs. put_each rs (none j) rows) s) ∙ on_same s (right_length s) refl
