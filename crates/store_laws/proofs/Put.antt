-- Put: the message stands at the end of its addressee's inbox in the record that was the first free one; every other inbox is
-- as it was, and so is every other message.
use Prim.Native.Nat.{ℕ, suc, ◌^◌, ◌≤◌, ◌<◌}
use mathlib.Core.Path.{◌≡◌, refl, sym, ap, subst, ◌∙◌}
use mathlib.Core.Bool.{true}
use mathlib.Core.Logic.{◌≢◌}
use mathlib.Core.List.{List, [], ◌∷◌, ◌++◌}
use native.Mathlib.Omega.{arith}
use borrow.Author.Tests.{ne_eqb}
use lib.ListN.{length}
use Rattle.item.specs.Maxima.{valid_size}
use Rattle.item.specs.declared.Item.{Item}
use Rattle.message.specs.declared.Envelope.{Envelope}
use Rattle.record.specs.Layout.{record_size, next_of, rows_of}
use Rattle.record.specs.Record.{read_record, record_bytes}
use Rattle.store.specs.Records.{record_in}
use Rattle.store.specs.Head.{first_free, group_size, first_of, head_zero, with_first_free}
use Rattle.store.specs.Chain.{next_in}
use Rattle.store.specs.Sound.{belongs_to, sound_records, free_count, message_in}
use Rattle.store.specs.Change.{appended, taken, put_in}
use Rattle.store.proofs.Bytes.{Alike, alike_read, alike_rows, alike_zero, next_written}
use Rattle.store.proofs.Joined.{Sized}
use Rattle.store.proofs.Locality.{Local, Holds, set_same, set_other, local_alike, free_local, taken_local, appended_local, put_local}
use Rattle.store_laws.specs.Lists.{times, free_list, inbox_list}
use Rattle.store_laws.specs.Standing.{Leads, IsChain, OnChains}
use Rattle.store_laws.proofs.Times.{by_same, times_head, times_other, times_append, stands_head, stands_tail, changed, changed_at, changed_other}
use Rattle.store_laws.proofs.Leads.{leads_join, leads_same, starts_below}
use Rattle.store_laws.proofs.OnChains.{at_most_once, free_is, inbox_is, sound_chains, sound_valid, sound_head, chains_sound, free_count_lem}
use Rattle.store_laws.proofs.Message.{addressed_is, message_read, message_head}
use Rattle.store_laws.proofs.Links.{Small, same_free, same_first, same_head, free_set, free_first, free_head}
use Rattle.store_laws.proofs.Inbox.{InboxChanged, IsInbox, appended_is}
use Rattle.store_laws.proofs.Sound.{Sound, size_least, size_most, head_long}
use Rattle.store_laws.proofs.Relinked.{free_there, free_inner, free_alone, inbox_inner, inbox_only, is_inbox, Relinked, alike_belongs, relinked_chains}
use Rattle.std.specs.Prelude.{Some}

-- a message from a node of a group of n to another, which its record can hold
pub record ForGroup (n : ℕ) (e : Envelope) (rows : List Item) : Type 0 where
  pub from_group : e.sender < n
  pub to_group : e.addressee < n
  pub to_other : e.sender ≢ e.addressee
  pub reads : read_record n (record_bytes n 0 e rows) ≡ Some e

-- ---- the records, with the lists of their chains

module _ (rs : List (List ℕ)) (sized : Sized record_size rs) (few : length rs ≤ 256 ^ 2) (valid : valid_size (group_size rs) ≡ true)
    (e : Envelope) (rows : List Item) (fits : ForGroup (group_size rs) e rows) (some : first_free rs ≢ 0)
    (t : List ℕ) (inbox : ℕ → List ℕ) (c : OnChains rs (first_free rs ∷ t) inbox) where
  abbrev f : ℕ
  f = first_free rs

  abbrev k : ℕ
  k = e.addressee

  abbrev l : List ℕ
  l = inbox e.addressee

  -- the first free record is written, and then it stands at the inbox's end
  abbrev written : List (List ℕ)
  written = taken rs e rows

  abbrev after : List (List ℕ)
  after = appended (taken rs e rows) e.addressee (first_free rs)

  abbrev rest : List (List ℕ)
  rest = with_first_free rs (next_in rs (first_free rs))

  long : length (record_in rs 0) ≡ record_size
  long = head_long rs sized (omega (arith, size_least (group_size rs) valid))

  first_low : f < length rs
  first_low = free_there c f (stands_head f t)

  first_small : Small f
  first_small = omega (arith, first_low)

  rest_chain : Leads rs (next_in rs f) t 0
  unfolding Leads
  rest_chain = c.free_chain.2

  next_small : Small (next_in rs f)
  next_small =
      omega (arith, starts_below rs (next_in rs f) t (length rs) (omega (arith, first_low)) (λ y h. free_there c y (stands_tail y f t h)) rest_chain)

  -- the first free record stands on no other chain
  not_first : (y : ℕ) (m : List ℕ) → times f m ≡ 0 → 0 < times y m → y ≢ f
  not_first y m none h z = absurd (omega (arith, ap (λ (i : ℕ). times i m) z))

  rest_not : (y : ℕ) → 0 < times y t → y ≢ f
  rest_not y h = not_first y t (omega (arith, at_most_once c f, times_head f f t refl)) h

  inbox_not : (j : ℕ) → j < group_size rs → (y : ℕ) → 0 < times y (inbox j) → y ≢ f
  inbox_not j low y h = not_first y (inbox j) (free_alone c f j low (stands_head f t)) h

  -- ---- the record written

  kept : Local (Holds (group_size rs) e rows) rs written
  kept = taken_local rs e rows some

  written_head : record_in written 0 ≡ record_in rest 0
  unfolding taken
  written_head = set_other rest f 0 (record_bytes (group_size rs) 0 e rows) (λ z. some (sym z))

  written_it : record_in written f ≡ record_bytes (group_size rs) 0 e rows
  unfolding taken
  written_it = set_same rest f (record_bytes (group_size rs) 0 e rows) (omega (arith, first_low, (free_local {New = λ _. ⊥} rs (next_in rs f)).count))

  written_other : (y : ℕ) → y ≢ 0 → y ≢ f → record_in written y ≡ record_in rs y
  unfolding taken with_first_free
  written_other y z d = set_other rest f y (record_bytes (group_size rs) 0 e rows) d ∙ set_other rs 0 y _ z

  next_written_other : (y : ℕ) → y ≢ 0 → y ≢ f → next_in written y ≡ next_in rs y
  unfolding next_in
  next_written_other y z d = ap next_of (written_other y z d)

  next_written_it : next_in written f ≡ 0
  unfolding next_in
  next_written_it = ap next_of written_it ∙ next_written (group_size rs) e rows

  written_first : (j : ℕ) → first_of written j ≡ first_of rs j
  written_first j = same_first rest written written_head j ∙ free_first rs long (next_in rs f) j

  written_inbox : IsInbox written k l
  written_inbox =
      let i : IsInbox rs k l = is_inbox c k fits.to_group in
      record {
        chain = subst (λ (x : ℕ). IsChain written x l) (sym (written_first k))
            (leads_same rs written (first_of rs k) l 0 (λ y z h. next_written_other y z (inbox_not k fits.to_group y h)) i.chain);
        once = i.once;
        there = λ y h. omega (arith, i.there y h, kept.count);
        short = omega (arith, i.short, kept.count);
      }

  -- ---- and at the inbox's end

  linked : InboxChanged written after k l × Leads after (first_of after k) l f
  linked =
      appended_is written (kept.sized sized) (omega (arith, kept.count))
      (head_long written (kept.sized sized) (omega (arith, kept.size, size_least (group_size rs) valid)))
      k (omega (arith, kept.size, fits.to_group)) (omega (arith, kept.size, size_most (group_size rs) valid)) f first_small l written_inbox

  after_local : Local (λ _. ⊥) written after
  after_local = appended_local written k f

  after_alike : (y : ℕ) → y ≢ 0 → y ≢ f → Alike (record_in after y) (record_in rs y)
  after_alike y z d = subst (Alike (record_in after y)) (written_other y z d) (local_alike after_local y z)

  after_next : (y : ℕ) → y ≢ 0 → y ≢ f → times y l ≡ 0 → next_in after y ≡ next_in rs y
  after_next y z d none = linked.0.next_same y z none ∙ next_written_other y z d

  after_it : Alike (record_in after f) (record_bytes (group_size rs) 0 e rows)
  after_it = subst (Alike (record_in after f)) written_it (local_alike after_local f some)

  belongs_it : belongs_to (group_size rs) k (record_bytes (group_size rs) 0 e rows) ≡ true
  unfolding belongs_to
  belongs_it =
      addressed_is (group_size rs) k (read_record (group_size rs) (record_bytes (group_size rs) 0 e rows))
      (record { envelope = e; found = fits.reads; from_group = fits.from_group; to_other = fits.to_other; to_owner = refl })

  -- a record of the inbox afterwards is the one put, or stood there
  gained : (y : ℕ) → y ≢ f → 0 < times y (l ++ (f ∷ [])) → 0 < times y l
  unfolding times
  gained y d h = omega (arith, times_append y l (f ∷ []), times_other f y [] (λ z. d (sym z)))

  moves : Relinked rs after (f ∷ t) t inbox k (l ++ (f ∷ []))
  unfolding Leads times
  moves =
      record {
        size = after_local.size ∙ kept.size;
        count = after_local.count ∙ kept.count;
        free_chain = subst (λ (x : ℕ). Leads after x t 0) (sym (linked.0.free_same ∙ same_free rest written written_head ∙ free_set rs long (next_in rs f) next_small))
            (leads_same rs after (next_in rs f) t 0
            (λ y z h. after_next y z (rest_not y h) (free_alone c y k fits.to_group (stands_tail y f t h)))
            rest_chain);
        inbox_chain = leads_join after (first_of after k) l f (f ∷ []) 0 linked.1
            (refl, some, linked.0.next_same f some (free_alone c f k fits.to_group (stands_head f t)) ∙ next_written_it);
        first = λ j d. linked.0.first_same j d ∙ written_first j;
        moved = λ r. omega (arith, times_append r l (f ∷ []));
        next = λ j h d r u. after_next r (inbox_inner c r j h u) (inbox_not j h r u) (inbox_only c r j h k fits.to_group d u);
        alike = λ j h d r u. after_alike r (inbox_inner c r j h u) (inbox_not j h r u);
        zero_free = λ r h. alike_zero (after_alike r (free_inner c r (stands_tail r f t h)) (rest_not r h)) ∙ c.free_zero r (stands_tail r f t h);
        owned = λ r h. by_same r f
            (λ z. ap (λ (i : ℕ). belongs_to (group_size rs) k (record_in after i)) z ∙ alike_belongs after_it (group_size rs) k ∙ belongs_it)
            (λ d.
            let u : 0 < times r l = gained r d h in
            alike_belongs (after_alike r (inbox_inner c r k fits.to_group u) d) (group_size rs) k ∙ c.inbox_owned k fits.to_group r u);
      }

  put_is : put_in rs e rows ≡ after
  unfolding put_in
  put_is = rw (ne_eqb (first_free rs) 0 some)

  put_chains : OnChains (put_in rs e rows) t (changed inbox k (l ++ (f ∷ [])))
  put_chains = subst (λ (x : List (List ℕ)). OnChains x t (changed inbox k (l ++ (f ∷ [])))) (sym put_is) (relinked_chains c fits.to_group moves)

  put_head : head_zero (put_in rs e rows) ≡ head_zero rs
  put_head = ap head_zero put_is ∙ linked.0.head_same ∙ same_head rest written written_head ∙ free_head rs long (next_in rs f)

  put_it : Alike (record_in (put_in rs e rows) f) (record_bytes (group_size rs) 0 e rows)
  put_it = subst (λ (x : List (List ℕ)). Alike (record_in x f) (record_bytes (group_size rs) 0 e rows)) (sym put_is) after_it

  put_other : (y : ℕ) → y ≢ 0 → y ≢ f → Alike (record_in (put_in rs e rows) y) (record_in rs y)
  put_other y z d = subst (λ (x : List (List ℕ)). Alike (record_in x y) (record_in rs y)) (sym put_is) (after_alike y z d)

-- ---- the law

-- a chain that does not end at once begins with its first record
uncons : (rs : List (List ℕ)) (i : ℕ) (l : List ℕ) → IsChain rs i l → i ≢ 0 → (t : List ℕ) × (l ≡ i ∷ t)
unfolding Leads
uncons rs i [] p d = absurd (d p)
uncons rs i (x ∷ t) p d = (t, ap (λ (y : ℕ). y ∷ t) p.0)

pub record PutDone (rs : List (List ℕ)) (e : Envelope) (rows : List Item) : Type 0 where
  pub sound : Sound (put_in rs e rows)
  pub size : group_size (put_in rs e rows) ≡ group_size rs
  -- "taken from the head of the free chain and put at the inbox's end"
  pub free : free_list rs ≡ first_free rs ∷ free_list (put_in rs e rows)
  pub inbox : inbox_list (put_in rs e rows) e.addressee ≡ inbox_list rs e.addressee ++ (first_free rs ∷ [])
  pub others : (j : ℕ) → j < group_size rs → j ≢ e.addressee → inbox_list (put_in rs e rows) j ≡ inbox_list rs j
  pub message : message_in (put_in rs e rows) (first_free rs) ≡ Some e
  pub messages : (r : ℕ) → r ≢ first_free rs → message_in (put_in rs e rows) r ≡ message_in rs r
  pub rows_put : rows_of (record_in (put_in rs e rows) (first_free rs)) ≡ rows_of (record_bytes (group_size rs) 0 e rows)
  pub rows_same : (r : ℕ) → r ≢ 0 → r ≢ first_free rs → rows_of (record_in (put_in rs e rows) r) ≡ rows_of (record_in rs r)
  pub fewer : suc (free_count (put_in rs e rows)) ≡ free_count rs

pub put_done : (rs : List (List ℕ)) → Sound rs → (e : Envelope) (rows : List Item) → ForGroup (group_size rs) e rows → first_free rs ≢ 0 → PutDone rs e rows
put_done rs g e rows fits some =
    record {
      sound = record { is_sound = sound'; sized = kept_all.sized g.sized; few = omega (arith, kept_all.count, g.few) };
      size = kept_all.size;
      free = cut.1 ∙ ap (λ (m : List ℕ). first_free rs ∷ m) (sym free');
      inbox = inbox_is done e.addressee (omega (arith, kept_all.size, fits.to_group)) ∙ changed_at (inbox_list rs) e.addressee _;
      others = λ j h d. inbox_is done j (omega (arith, kept_all.size)) ∙ changed_other (inbox_list rs) e.addressee _ j d;
      message = message_read rs' (first_free rs) some ∙ ap (λ (m : ℕ). read_record m (record_in rs' (first_free rs))) kept_all.size
          ∙ alike_read (put_it rs g.sized g.few valid e rows fits some t (inbox_list rs) c) (group_size rs)
          ∙ fits.reads;
      messages = λ r d. by_same r 0
          (λ z. ap (message_in rs') z ∙ message_head rs' ∙ sym (ap (message_in rs) z ∙ message_head rs))
          (λ z. message_read rs' r z ∙ ap (λ (m : ℕ). read_record m (record_in rs' r)) kept_all.size
          ∙ alike_read (put_other rs g.sized g.few valid e rows fits some t (inbox_list rs) c r z d) (group_size rs)
          ∙ sym (message_read rs r z));
      rows_put = alike_rows (put_it rs g.sized g.few valid e rows fits some t (inbox_list rs) c);
      rows_same = λ r z d. alike_rows (put_other rs g.sized g.few valid e rows fits some t (inbox_list rs) c r z d);
      fewer = omega (arith, free_count_lem rs g.is_sound, free_count_lem rs' sound', ap length cut.1, ap length free');
    }
  where
    rs' : List (List ℕ)
    rs' = put_in rs e rows

    valid : valid_size (group_size rs) ≡ true
    valid = sound_valid rs g.is_sound

    kept_all : Local (Holds (group_size rs) e rows) rs (put_in rs e rows)
    kept_all = put_local rs e rows

    cut : (t : List ℕ) × (free_list rs ≡ first_free rs ∷ t)
    cut = uncons rs (first_free rs) (free_list rs) (sound_chains rs g.is_sound).free_chain some

    t : List ℕ
    t = cut.0

    c : OnChains rs (first_free rs ∷ t) (inbox_list rs)
    c = subst (λ (m : List ℕ). OnChains rs m (inbox_list rs)) cut.1 (sound_chains rs g.is_sound)

    done : OnChains (put_in rs e rows) t (changed (inbox_list rs) e.addressee (inbox_list rs e.addressee ++ (first_free rs ∷ [])))
    done = put_chains rs g.sized g.few valid e rows fits some t (inbox_list rs) c

    free' : free_list (put_in rs e rows) ≡ t
    free' = free_is done

    sound' : sound_records (put_in rs e rows) ≡ true
    sound' =
        chains_sound (ap valid_size kept_all.size ∙ valid)
        (put_head rs g.sized g.few valid e rows fits some t (inbox_list rs) c ∙ sound_head rs g.is_sound)
        done

-- a sound store has a free record exactly if the first free one is not 0
pub some_free : (rs : List (List ℕ)) → sound_records rs ≡ true → 0 < free_count rs → first_free rs ≢ 0
unfolding Leads
some_free rs s h z = go (free_list rs) (sound_chains rs s).free_chain (omega (arith, free_count_lem rs s))
  where
    go : (l : List ℕ) → Leads rs (first_free rs) l 0 → 0 < length l → ⊥
    go [] p b = omega arith
    go (x ∷ l) p b = p.1 (p.0 ∙ z)
