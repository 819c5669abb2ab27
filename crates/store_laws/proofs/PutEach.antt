-- Several messages put one after the other, into a sound store with a free record for each.
use Prim.Native.Nat.{ℕ, ◌+◌, ◌≤◌}
use mathlib.Core.Path.{◌≡◌, refl, sym, subst, ◌∙◌}
use mathlib.Core.List.{List, [], ◌∷◌, Memᴰ}
use native.Mathlib.Omega.{arith}
use Rattle.item.specs.declared.Item.{Item}
use Rattle.std.specs.Prelude.{Option, Some, None}
use Rattle.message.proofs.Counted.{count_none, count_some}
use Rattle.message.specs.declared.Envelope.{Envelope}
use Rattle.store.specs.Head.{group_size}
use Rattle.store.specs.Sound.{free_count}
use Rattle.store.specs.Change.{put_in, put_each, count_outgoing}
use Rattle.store_laws.proofs.Sound.{Sound}
use Rattle.store_laws.proofs.Put.{ForGroup, PutDone, put_done, some_free}

-- every message is for the group
unfoldable pub AllForGroup : ℕ → List (Option Envelope) → List Item → Type 0
AllForGroup n os rows = (e : Envelope) → Memᴰ (Some e) os → ForGroup n e rows

-- the records are sound, and `taken` fewer of them are free
pub record EachDone (rs rs' : List (List ℕ)) (taken : ℕ) : Type 0 where
  pub sound : Sound rs'
  pub size : group_size rs' ≡ group_size rs
  pub fewer : taken + free_count rs' ≡ free_count rs

pub put_each_done : (os : List (Option Envelope)) (rs : List (List ℕ)) (rows : List Item) → Sound rs → AllForGroup (group_size rs) os rows → count_outgoing os ≤ free_count rs
    → EachDone rs (put_each rs os rows) (count_outgoing os)
unfolding put_each count_outgoing AllForGroup
put_each_done [] rs rows g fit h = record { sound = g; size = refl; fewer = omega arith }
put_each_done (None ∷ os) rs rows g fit h =
    let r = put_each_done os rs rows g (λ e m. fit e (Memᴰ.tail m)) (omega (arith, count_none os)) in
    record { sound = r.sound; size = r.size; fewer = omega (arith, r.fewer, count_none os) }
put_each_done (Some e ∷ os) rs rows g fit h =
    let d : PutDone rs e rows = put_done rs g e rows (fit e (Memᴰ.head refl)) (some_free rs g.is_sound (omega (arith, count_some e os))) in
    let r : EachDone (put_in rs e rows) (put_each (put_in rs e rows) os rows) (count_outgoing os) =
    put_each_done os (put_in rs e rows) rows d.sound (λ q m. subst (λ (n : ℕ). ForGroup n q rows) (sym d.size) (fit q (Memᴰ.tail m)))
    (omega (arith, d.fewer, count_some e os)) in
    record { sound = r.sound; size = r.size ∙ d.size; fewer = omega (arith, r.fewer, d.fewer, count_some e os) }
