-- Drop: the record stands no longer on its inbox and is the first free one, cleared; every other inbox is as it was, and so is
-- every other message.
use Prim.Native.Nat.{ℕ, suc, ◌+◌, ◌^◌, ◌≤◌, ◌<◌}
use mathlib.Core.Path.{◌≡◌, refl, sym, ap, subst, ◌∙◌}
use mathlib.Core.Bool.{true}
use mathlib.Core.Logic.{◌≢◌}
use mathlib.Core.List.{List, ◌∷◌, ◌++◌}
use native.Mathlib.Omega.{arith}
use lib.ListN.{length, set}
use Rattle.item.specs.Maxima.{valid_size}
use Rattle.record.specs.Layout.{record_size, next_of, rows_of}
use Rattle.record.specs.Record.{read_record, with_next, no_record, zero_after_next}
use Rattle.store.specs.Records.{record_in}
use Rattle.store.specs.Head.{first_free, group_size, first_of, head_zero, with_first_free}
use Rattle.store.specs.Chain.{next_in}
use Rattle.store.specs.Sound.{sound_records, free_count, message_in}
use Rattle.store.specs.Change.{unlinked, freed, drop_in}
use Rattle.store.proofs.Bytes.{Alike, alike_read, alike_rows, alike_zero, cleared_none, cleared_zero, next_cleared}
use Rattle.store.proofs.Joined.{Sized}
use Rattle.store.proofs.Locality.{Local, set_same, set_other, local_alike, unlinked_local, drop_local}
use Rattle.store_laws.specs.Lists.{times, without, free_list, inbox_list}
use Rattle.store_laws.specs.Standing.{Leads, IsChain, OnChains}
use Rattle.store_laws.proofs.Times.{by_same, times_append, times_head, stands_head, stands_cases, changed, changed_at, changed_other, Split, split_at}
use Rattle.store_laws.proofs.Leads.{leads_same, starts_below}
use Rattle.store_laws.proofs.OnChains.{free_is, inbox_is, sound_chains, sound_valid, sound_head, chains_sound, free_count_lem}
use Rattle.store_laws.proofs.Message.{message_read, message_head}
use Rattle.store_laws.proofs.Links.{Small, same_first, same_head, free_set, free_first, free_head}
use Rattle.store_laws.proofs.Inbox.{InboxChanged, IsInbox, unlinked_is}
use Rattle.store_laws.proofs.Sound.{Sound, size_least, size_most, head_long}
use Rattle.store_laws.proofs.Relinked.{free_there, free_inner, free_alone, inbox_inner, inbox_alone, inbox_there, inbox_once, inbox_only, is_inbox, Relinked, alike_belongs, relinked_chains}
use Rattle.std.specs.Prelude.{None}

-- ---- the records, with the lists of their chains

module _ (rs : List (List ℕ)) (sized : Sized record_size rs) (few : length rs ≤ 256 ^ 2) (valid : valid_size (group_size rs) ≡ true)
    (free : List ℕ) (inbox : ℕ → List ℕ) (c : OnChains rs free inbox)
    (k : ℕ) (low : k < group_size rs) (r : ℕ) (a b : List ℕ) (whole : inbox k ≡ a ++ (r ∷ b)) where
  -- the record is taken out of the inbox, cleared, and then it is the first free one
  abbrev out : List (List ℕ)
  out = unlinked rs k r

  abbrev empty : List ℕ
  empty = with_next no_record (first_free out)

  abbrev cleared : List (List ℕ)
  cleared = set out r empty

  abbrev after : List (List ℕ)
  after = with_first_free cleared r

  times_inbox : (y : ℕ) → times y (inbox k) ≡ times y a + times y (r ∷ b)
  times_inbox y = ap (times y) whole ∙ times_append y a (r ∷ b)

  on_inbox_lem : 0 < times r (inbox k)
  on_inbox_lem = omega (arith, times_inbox r, stands_head r b)

  inner : r ≢ 0
  inner = inbox_inner c r k low on_inbox_lem

  there : r < length rs
  there = inbox_there c r k low on_inbox_lem

  unlinks : InboxChanged rs out k a × IsChain out (first_of out k) (a ++ b)
  unlinks =
      unlinked_is rs sized few (head_long rs sized (omega (arith, size_least (group_size rs) valid))) k low (size_most (group_size rs) valid) r a b
      (subst (IsInbox rs k) whole (is_inbox c k low))

  out_local : Local (λ _. ⊥) rs out
  out_local = unlinked_local rs k r

  -- ---- the record cleared

  cleared_head : record_in cleared 0 ≡ record_in out 0
  cleared_head = set_other out r 0 empty (λ z. inner (sym z))

  cleared_long : length (record_in cleared 0) ≡ record_size
  cleared_long = ap length cleared_head ∙ head_long out (out_local.sized sized) (omega (arith, out_local.size, size_least (group_size rs) valid))

  after_first : (j : ℕ) → first_of after j ≡ first_of out j
  after_first j = free_first cleared cleared_long r j ∙ same_first out cleared cleared_head j

  after_other : (y : ℕ) → y ≢ 0 → y ≢ r → record_in after y ≡ record_in out y
  unfolding with_first_free
  after_other y z d = set_other cleared 0 y _ z ∙ set_other out r y empty d

  after_it : record_in after r ≡ empty
  unfolding with_first_free
  after_it = set_other cleared 0 r _ inner ∙ set_same out r empty (omega (arith, there, out_local.count))

  first_small : Small (first_free out)
  first_small =
      omega (arith, unlinks.0.free_same, starts_below rs (first_free rs) free (length rs) (omega (arith, there)) (λ y h. free_there c y h) c.free_chain)

  next_it : next_in after r ≡ first_free rs
  unfolding next_in
  next_it = ap next_of after_it ∙ next_cleared (first_free out) first_small ∙ unlinks.0.free_same

  next_out : (y : ℕ) → y ≢ 0 → y ≢ r → next_in after y ≡ next_in out y
  unfolding next_in
  next_out y z d = ap next_of (after_other y z d)

  next_other : (y : ℕ) → y ≢ 0 → y ≢ r → times y a ≡ 0 → next_in after y ≡ next_in rs y
  next_other y z d none = next_out y z d ∙ unlinks.0.next_same y z none

  after_alike : (y : ℕ) → y ≢ 0 → y ≢ r → Alike (record_in after y) (record_in rs y)
  after_alike y z d = subst (λ (q : List ℕ). Alike q (record_in rs y)) (sym (after_other y z d)) (local_alike out_local y z)

  -- ---- which records are not it

  not_it : (y : ℕ) (m : List ℕ) → times r m ≡ 0 → 0 < times y m → y ≢ r
  not_it y m none h z = absurd (omega (arith, ap (λ (i : ℕ). times i m) z))

  free_not : (y : ℕ) → 0 < times y free → y ≢ r
  free_not y h = not_it y free (inbox_alone c r k low on_inbox_lem) h

  other_not : (j : ℕ) → j < group_size rs → j ≢ k → (y : ℕ) → 0 < times y (inbox j) → y ≢ r
  other_not j h d y u = not_it y (inbox j) (inbox_only c r k low j h (λ z. d (sym z)) on_inbox_lem) u

  rest_not : (y : ℕ) → 0 < times y (a ++ b) → y ≢ r
  rest_not y h = not_it y (a ++ b) (omega (arith, inbox_once c r k low, times_inbox r, times_append r a b, times_head r r b refl)) h

  -- what stands in the rest of the inbox stood there
  stood : (y : ℕ) → 0 < times y (a ++ b) → 0 < times y (inbox k)
  unfolding times
  stood y h = omega (arith, times_inbox y, times_append y a b)

  before_none : (y : ℕ) → times y (inbox k) ≡ 0 → times y a ≡ 0
  before_none y e = omega (arith, times_inbox y)

  kept : Local (λ q. Alike q no_record) rs after
  unfolding drop_in freed
  kept = drop_local rs k r inner

  moves : Relinked rs after free (r ∷ free) inbox k (a ++ b)
  unfolding Leads times
  moves =
      record {
        size = kept.size;
        count = kept.count;
        free_chain = (
          sym (free_set cleared cleared_long r (omega (arith, there))),
          inner,
          subst (λ (x : ℕ). Leads after x free 0) (sym next_it)
              (leads_same rs after (first_free rs) free 0
              (λ y z h. next_other y z (free_not y h) (before_none y (free_alone c y k low h)))
              c.free_chain),
        );
        inbox_chain = subst (λ (x : ℕ). Leads after x (a ++ b) 0) (sym (after_first k))
            (leads_same out after (first_of out k) (a ++ b) 0 (λ y z h. next_out y z (rest_not y h)) unlinks.1);
        first = λ j d. after_first j ∙ unlinks.0.first_same j d;
        moved = λ y. omega (arith, times_inbox y, times_append y a b);
        next = λ j h d y u. next_other y (inbox_inner c y j h u) (other_not j h d y u) (before_none y (inbox_only c y j h k low d u));
        alike = λ j h d y u. after_alike y (inbox_inner c y j h u) (other_not j h d y u);
        zero_free = λ y h. stands_cases y r free
            (λ z. ap (λ (i : ℕ). zero_after_next (record_in after i)) z ∙ ap zero_after_next after_it ∙ cleared_zero (first_free out))
            (λ u. alike_zero (after_alike y (free_inner c y u) (free_not y u)) ∙ c.free_zero y u)
            h;
        owned = λ y h. alike_belongs (after_alike y (inbox_inner c y k low (stood y h)) (rest_not y h)) (group_size rs) k ∙ c.inbox_owned k low y (stood y h);
      }

  drop_chains : OnChains (drop_in rs k r) (r ∷ free) (changed inbox k (a ++ b))
  unfolding drop_in freed
  drop_chains = relinked_chains c low moves

  drop_head : head_zero (drop_in rs k r) ≡ head_zero rs
  unfolding drop_in freed
  drop_head = free_head cleared cleared_long r ∙ same_head out cleared cleared_head ∙ unlinks.0.head_same

  drop_it : record_in (drop_in rs k r) r ≡ empty
  unfolding drop_in freed
  drop_it = after_it

  drop_other : (y : ℕ) → y ≢ 0 → y ≢ r → Alike (record_in (drop_in rs k r) y) (record_in rs y)
  unfolding drop_in freed
  drop_other y z d = after_alike y z d

-- ---- the law

pub record DropDone (rs : List (List ℕ)) (k r : ℕ) : Type 0 where
  pub sound : Sound (drop_in rs k r)
  pub size : group_size (drop_in rs k r) ≡ group_size rs
  -- "a dropped one is cleared and becomes the free head"
  pub free : free_list (drop_in rs k r) ≡ r ∷ free_list rs
  pub inbox : inbox_list (drop_in rs k r) k ≡ without r (inbox_list rs k)
  pub others : (j : ℕ) → j < group_size rs → j ≢ k → inbox_list (drop_in rs k r) j ≡ inbox_list rs j
  pub message : message_in (drop_in rs k r) r ≡ None
  pub messages : (y : ℕ) → y ≢ r → message_in (drop_in rs k r) y ≡ message_in rs y
  pub rows_same : (y : ℕ) → y ≢ 0 → y ≢ r → rows_of (record_in (drop_in rs k r) y) ≡ rows_of (record_in rs y)
  pub more : free_count (drop_in rs k r) ≡ suc (free_count rs)

pub drop_done : (rs : List (List ℕ)) → Sound rs → (k : ℕ) → k < group_size rs → (r : ℕ) → 0 < times r (inbox_list rs k) → DropDone rs k r
drop_done rs g k low r on =
    record {
      sound = record { is_sound = sound'; sized = kept.sized g.sized; few = omega (arith, kept.count, g.few) };
      size = kept.size;
      free = free_is done;
      inbox = inbox_is done k (omega (arith, kept.size)) ∙ changed_at (inbox_list rs) k (s.before ++ s.after) ∙ sym s.rest;
      others = λ j h d. inbox_is done j (omega (arith, kept.size)) ∙ changed_other (inbox_list rs) k (s.before ++ s.after) j d;
      message = message_read rs' r inner' ∙ ap (read_record (group_size rs')) (drop_it rs g.sized g.few valid (free_list rs) (inbox_list rs) c k low r s.before s.after s.whole)
          ∙ cleared_none (group_size rs') (first_free (unlinked rs k r));
      messages = λ y d. by_same y 0
          (λ z. ap (message_in rs') z ∙ message_head rs' ∙ sym (ap (message_in rs) z ∙ message_head rs))
          (λ z. message_read rs' y z ∙ ap (λ (m : ℕ). read_record m (record_in rs' y)) kept.size
          ∙ alike_read (drop_other rs g.sized g.few valid (free_list rs) (inbox_list rs) c k low r s.before s.after s.whole y z d) (group_size rs)
          ∙ sym (message_read rs y z));
      rows_same = λ y z d. alike_rows (drop_other rs g.sized g.few valid (free_list rs) (inbox_list rs) c k low r s.before s.after s.whole y z d);
      more = omega (arith, free_count_lem rs g.is_sound, free_count_lem rs' sound', ap length (free_is done));
    }
  where
    rs' : List (List ℕ)
    rs' = drop_in rs k r

    valid : valid_size (group_size rs) ≡ true
    valid = sound_valid rs g.is_sound

    c : OnChains rs (free_list rs) (inbox_list rs)
    c = sound_chains rs g.is_sound

    s : Split r (inbox_list rs k)
    s = split_at r (inbox_list rs k) on

    inner' : r ≢ 0
    inner' = inbox_inner c r k low on

    kept : Local (λ q. Alike q no_record) rs (drop_in rs k r)
    kept = drop_local rs k r inner'

    done : OnChains (drop_in rs k r) (r ∷ free_list rs) (changed (inbox_list rs) k (s.before ++ s.after))
    done = drop_chains rs g.sized g.few valid (free_list rs) (inbox_list rs) c k low r s.before s.after s.whole

    sound' : sound_records (drop_in rs k r) ≡ true
    sound' =
        chains_sound (ap valid_size kept.size ∙ valid)
        (drop_head rs g.sized g.few valid (free_list rs) (inbox_list rs) c k low r s.before s.after s.whole ∙ sound_head rs g.is_sound)
        done
