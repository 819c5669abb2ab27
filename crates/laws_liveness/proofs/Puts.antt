-- Messages put one after the other: those that were there stay, and each that is put is there.
use Prim.Native.Nat.{ℕ, ◌+◌, ◌≤◌, ◌<◌}
use native.Mathlib.Omega.{arith}
use mathlib.Core.Path.{◌≡◌, refl, sym, ap, subst, ◌∙◌}
use mathlib.Core.Logic.{◌≢◌, ◌⊎◌, inl, inr}
use mathlib.Core.List.Memᴰ
use mathlib.Core.List.{List, [], ◌∷◌, Memᴰ}
use Rattle.store_laws.specs.Lists.{free_list, times}
use Rattle.store_laws.proofs.Message.{message_free}
use Rattle.store_laws.proofs.Put.{ForGroup, PutDone, put_done, some_free}
use Rattle.store_laws.proofs.PutEach.{AllForGroup}
use Rattle.store_laws.proofs.Sound.{Sound}
use Rattle.store_laws.proofs.Times.{stands_head}
use Rattle.item.specs.declared.Item.{Item}
use Rattle.message.specs.declared.Envelope.{Envelope}
use Rattle.message.proofs.Counted.{count_none, count_some}
use Rattle.store.specs.Change.{put_in, put_each, count_outgoing}
use Rattle.store.specs.Head.{first_free, group_size}
use Rattle.store.specs.Sound.{free_count, message_in}
use Rattle.operations.proofs.Inbox.{no_fault}
use Rattle.std.specs.Prelude.{Option, Some, None}

pub record Puts (rs rs' : List (List ℕ)) (os : List (Option Envelope)) : Type 0 where
  pub old : (r : ℕ) (e : Envelope) → message_in rs r ≡ Some e → message_in rs' r ≡ Some e
  pub new : (e : Envelope) → Memᴰ (Some e) os → (r : ℕ) × (message_in rs' r ≡ Some e)
  pub fewer : count_outgoing os + free_count rs' ≡ free_count rs

-- the record taken held no message
stays : (rs : List (List ℕ)) (e : Envelope) (rows : List Item) → Sound rs → PutDone rs e rows → (r : ℕ) (c : Envelope) → message_in rs r ≡ Some c
    → message_in (put_in rs e rows) r ≡ Some c
stays rs e rows g d r c h =
    d.messages r (λ z. no_fault c (message_in rs r) h (ap (message_in rs) z ∙ message_free rs g.is_sound (first_free rs)
    (subst (λ (l : List ℕ). 0 < times (first_free rs) l) (sym d.free) (stands_head (first_free rs) (free_list (put_in rs e rows)))))) ∙ h

pub puts : (os : List (Option Envelope)) (rs : List (List ℕ)) (rows : List Item) → Sound rs → AllForGroup (group_size rs) os rows → count_outgoing os ≤ free_count rs
    → Puts rs (put_each rs os rows) os
unfolding put_each count_outgoing AllForGroup
puts [] rs rows g fit h = record { old = λ r e z. z; new = λ e m. absurd (Memᴰ.not-nil m); fewer = omega arith }
puts (None ∷ os) rs rows g fit h =
    let E : Puts rs (put_each rs os rows) os = puts os rs rows g (λ e m. fit e (Memᴰ.tail m)) (omega (arith, count_none os)) in
    record { old = E.old; new = λ e m. later E (Memᴰ.cases_cons m); fewer = omega (arith, E.fewer, count_none os) }
  where
    later : {e : Envelope} → Puts rs (put_each rs os rows) os → (Some e ≡ None) ⊎ Memᴰ (Some e) os → (r : ℕ) × (message_in (put_each rs os rows) r ≡ Some e)
    later E (inl z) = absurd (cc)
    later {e} E (inr m) = E.new e m
puts (Some e ∷ os) rs rows g fit h =
    let some : first_free rs ≢ 0 = some_free rs g.is_sound (omega (arith, count_some e os)) in
    let d : PutDone rs e rows = put_done rs g e rows (fit e (Memᴰ.head refl)) some in
    let E : Puts (put_in rs e rows) (put_each (put_in rs e rows) os rows) os =
    puts os (put_in rs e rows) rows d.sound
    (λ q m. subst (λ (n : ℕ). ForGroup n q rows) (sym d.size) (fit q (Memᴰ.tail m))) (omega (arith, d.fewer, count_some e os)) in
    record {
      old = λ r q z. E.old r q (stays rs e rows g d r q z);
      new = λ q m. first E d (Memᴰ.cases_cons m);
      fewer = omega (arith, E.fewer, d.fewer, count_some e os);
    }
  where
    first : {q : Envelope} → Puts (put_in rs e rows) (put_each (put_in rs e rows) os rows) os → PutDone rs e rows
        → (Some q ≡ Some e) ⊎ Memᴰ (Some q) os → (r : ℕ) × (message_in (put_each (put_in rs e rows) os rows) r ≡ Some q)
    first {q} E d (inl z) = (first_free rs, E.old (first_free rs) q (d.message ∙ sym z))
    first {q} E d (inr m) = E.new q m
