-- In a sound store a record that reads as a message stands on its addressee's inbox, so sender and addressee are two nodes of
-- the group.
use Prim.Native.Nat.{ℕ, ◌<◌}
use mathlib.Core.Path.{◌≡◌, sym, subst, ◌∙◌}
use mathlib.Core.Logic.{◌≢◌}
use mathlib.Core.Bool.{true}
use mathlib.Core.List.{List}
use Rattle.message.specs.declared.Envelope.{Envelope}
use Rattle.store_laws.proofs.Message.{MessageTo, inbox_message, message_inbox}
use Rattle.store.specs.Head.{group_size}
use Rattle.store.specs.Sound.{sound_records, message_in}
use Rattle.std.specs.Prelude.{Some}

-- sender and addressee are two nodes of a group of n
pub record Addressed (n : ℕ) (e : Envelope) : Type 0 where
  pub sender_below : e.sender < n
  pub addressee_below : e.addressee < n
  pub from_other : e.sender ≢ e.addressee

pub in_inbox : (rs : List (List ℕ)) (r : ℕ) (e : Envelope) → sound_records rs ≡ true → message_in rs r ≡ Some e → Addressed (group_size rs) e
in_inbox rs r e sound h =
    let w = message_inbox rs sound r e h in
    let m : MessageTo (group_size rs) e.addressee (message_in rs r) = inbox_message rs sound e.addressee w.0 r w.1 in
    let z : Some m.envelope ≡ Some e = sym m.found ∙ h in
    let same : m.envelope ≡ e = cc in
    record {
      sender_below = subst (λ (c : Envelope). c.sender < group_size rs) same m.from_group;
      addressee_below = w.0;
      from_other = subst (λ (c : Envelope). c.sender ≢ c.addressee) same m.to_other;
    }
