-- Which records hold a message: in a sound store those on the inboxes, each under its owner. A record that is the head, free
-- or not there holds none.
use Prim.Native.Nat.{ℕ, suc, ◌≤◌, ◌<◌}
use mathlib.Core.Path.{◌≡◌, refl, sym, ap, subst, ◌∙◌}
use mathlib.Core.Bool.{true, not, false≢true}
use mathlib.Core.Logic.{◌≢◌}
use mathlib.Core.List.{List, [], ◌∷◌}
use native.Mathlib.Omega.{arith}
use lib.Dec.{eqb, ltb}
use borrow.Author.Tests.{eqb-true, eqb-false, eq-eqb, ne_eqb, ltb-true, lt-ltb, not-true}
use lib.ListN.{length, drop, get_or, get_or-eq_default}
use lib.Seq.{get_or-drop}
use Rattle.item.proofs.Tests.{by_cond, and_left, and_right, and_both}
use Rattle.endian.proofs.PartLaws.{by_order}
use Rattle.endian.specs.Zero.{all_zero}
use Rattle.message.specs.declared.Envelope.{Envelope}
use Rattle.record.specs.Layout.{record_size, kind_at}
use Rattle.record.specs.Record.{read_record, zero_after_next}
use Rattle.store.specs.Records.{record_in}
use Rattle.store.specs.Head.{group_size, first_of}
use Rattle.store.specs.Sound.{addressed_to, belongs_to, message_in, sound_records}
use Rattle.store.proofs.Bytes.{kind_none, nothing_none}
use Rattle.store_laws.specs.Lists.{times, free_list, inbox_list}
use Rattle.store_laws.specs.Standing.{IsChain, OnChains}
use Rattle.store_laws.proofs.Times.{by_same, stands_where}
use Rattle.store_laws.proofs.Leads.{never_zero}
use Rattle.store_laws.proofs.OnChains.{sound_chains}
use Rattle.std.specs.Prelude.{None, Option, Some}

-- ---- what a record says

-- a free record holds no message
pub free_none : (n : ℕ) (r : List ℕ) → zero_after_next r ≡ true → read_record n r ≡ None
unfolding zero_after_next all_zero
free_none n r e =
    kind_none n r (sym (get_or-drop kind_at r 0 0) ∙ first (drop kind_at r) (and_right (eqb (length r) record_size) _ e))
  where
    first : (l : List ℕ) → all_zero l ≡ true → get_or l 0 0 ≡ 0
    first [] z = refl
    first (b ∷ l) z = eqb-true b 0 (and_left (eqb b 0) (all_zero l) z)

-- a record that belongs to node k holds a message to it
pub record MessageTo (n k : ℕ) (reading : Option Envelope) : Type 0 where
  pub envelope : Envelope
  pub found : reading ≡ Some envelope
  pub from_group : envelope.sender < n
  pub to_other : envelope.sender ≢ envelope.addressee
  pub to_owner : envelope.addressee ≡ k

pub addressed : (n k : ℕ) (reading : Option Envelope) → addressed_to n k reading ≡ true → MessageTo n k reading
unfolding addressed_to
addressed n k None e = absurd (false≢true e)
addressed n k (Some m) e =
    let t = and_right (ltb m.sender n) _ e in
    record {
      envelope = m;
      found = refl;
      from_group = ltb-true m.sender n (and_left (ltb m.sender n) _ e);
      to_other = eqb-false m.sender m.addressee (not-true (eqb m.sender m.addressee) (and_left (not (eqb m.sender m.addressee)) _ t));
      to_owner = eqb-true m.addressee k (and_right (not (eqb m.sender m.addressee)) _ t);
    }

-- and the other way round
pub addressed_is : (n k : ℕ) (reading : Option Envelope) → MessageTo n k reading → addressed_to n k reading ≡ true
unfolding addressed_to
addressed_is n k reading m =
    let e : Envelope = m.envelope in
    subst (λ (x : Option Envelope). addressed_to n k x ≡ true) (sym m.found)
    (and_both (lt-ltb e.sender n m.from_group) (and_both (ap not (ne_eqb e.sender e.addressee m.to_other)) (eq-eqb e.addressee k m.to_owner)))

not_fault : (e : Envelope) → Some e ≡ None → ⊥
not_fault e p = let z : ◌≡◌ {A = ℕ} 0 1 = cc in omega arith

same_message : (a b : Envelope) → Some a ≡ Some b → a ≡ b
same_message a b p = cc

-- ---- in a sound store

module _ (rs : List (List ℕ)) where
  pub message_head : message_in rs 0 ≡ None
  unfolding message_in
  message_head = refl

  pub message_read : (r : ℕ) → r ≢ 0 → message_in rs r ≡ read_record (group_size rs) (record_in rs r)
  unfolding message_in
  message_read r d = rw (ne_eqb r 0 d)

  pub message_beyond : (r : ℕ) → length rs ≤ r → message_in rs r ≡ None
  unfolding message_in record_in
  message_beyond r h =
      by_cond (λ (x : Option Envelope). x ≡ None) (eqb r 0) _ _
      (λ _. refl)
      (λ _. ap (read_record (group_size rs)) (get_or-eq_default rs [] h) ∙ nothing_none (group_size rs))

  -- what stands on a chain is not the head
  pub stands_not : (i : ℕ) (l : List ℕ) (r : ℕ) → IsChain rs i l → 0 < times r l → r ≢ 0
  stands_not i l r c h e = absurd (omega (arith, never_zero rs i l 0 c, ap (λ (k : ℕ). times k l) e))

  module _ (sound : sound_records rs ≡ true) where
    pub message_free : (r : ℕ) → 0 < times r (free_list rs) → message_in rs r ≡ None
    unfolding message_in
    message_free r h =
        by_cond (λ (x : Option Envelope). x ≡ None) (eqb r 0) _ _
        (λ _. refl)
        (λ _. free_none (group_size rs) (record_in rs r) ((sound_chains rs sound).free_zero r h))

    -- what stands on node k's inbox is a message to it
    pub inbox_message : (k : ℕ) → k < group_size rs → (r : ℕ) → 0 < times r (inbox_list rs k) → MessageTo (group_size rs) k (message_in rs r)
    unfolding belongs_to
    inbox_message k b r h =
        let c : OnChains rs (free_list rs) (inbox_list rs) = sound_chains rs sound in
        let d : r ≢ 0 = stands_not (first_of rs k) (inbox_list rs k) r (c.inbox_chain k b) h in
        subst (MessageTo (group_size rs) k) (sym (message_read r d)) (addressed (group_size rs) k (read_record (group_size rs) (record_in rs r)) (c.inbox_owned k b r h))

    -- and every message stands on the inbox of its addressee
    pub message_inbox : (r : ℕ) (e : Envelope) → message_in rs r ≡ Some e → (e.addressee < group_size rs) × (0 < times r (inbox_list rs e.addressee))
    message_inbox r e f =
        let c : OnChains rs (free_list rs) (inbox_list rs) = sound_chains rs sound in
        let d : r ≢ 0 = λ z. not_fault e (sym f ∙ ap (message_in rs) z ∙ message_head) in
        let b : r < length rs = by_order (suc r) (length rs) (λ h. h) (λ h. absurd (not_fault e (sym f ∙ message_beyond r (omega arith)))) in
        let free : times r (free_list rs) ≡ 0 = by_same (times r (free_list rs)) 0 (λ z. z) (λ z. absurd (not_fault e (sym f ∙ message_free r (omega arith)))) in
        let w = stands_where r (group_size rs) (inbox_list rs) 0 (omega (arith, c.once r d b)) in
        here w.0 (omega (arith, w.1)) w.2
      where
        here : (k : ℕ) → k < group_size rs → 0 < times r (inbox_list rs k) → (e.addressee < group_size rs) × (0 < times r (inbox_list rs e.addressee))
        here k low h =
            let m : MessageTo (group_size rs) k (message_in rs r) = inbox_message k low r h in
            let to : e.addressee ≡ k = ap (λ (x : Envelope). x.addressee) (same_message e m.envelope (sym f ∙ m.found)) ∙ m.to_owner in
            (omega arith, subst (λ (j : ℕ). 0 < times r (inbox_list rs j)) (sym to) h)
