-- Put and drop, as changes of the lists of entries.
use Prim.Native.Nat.{ℕ, suc, ◌≤◌, ◌<◌}
use native.Mathlib.Omega.{arith}
use mathlib.Core.Path.{◌≡◌, refl, sym, ap, subst, ◌∙◌}
use mathlib.Core.Logic.{◌≢◌}
use mathlib.Core.Bool.{Bool, true, false, cond}
use mathlib.Core.List.{List, [], ◌∷◌, ◌++◌, map, map-append, append_assoc, append-nil, Memᴰ}
use lib.Dec.{eqb}
use lib.ListN.{get_or, drop}
use borrow.Author.Tests.{eq-eqb, ne_eqb}
use Rattle.store_laws.proofs.Drop.{DropDone, drop_done}
use Rattle.store_laws.specs.Lists.{free_list, inbox_list, times, without}
use Rattle.store_laws.specs.Standing.{OnChains}
use Rattle.store_laws.proofs.Message.{MessageTo, inbox_message, message_free, message_head}
use Rattle.store_laws.proofs.OnChains.{sound_chains}
use Rattle.store_laws.proofs.Put.{ForGroup, PutDone, put_done, some_free}
use Rattle.store_laws.proofs.PutEach.{AllForGroup}
use Rattle.store_laws.proofs.Relinked.{inbox_once, inbox_only}
use Rattle.store_laws.proofs.Sound.{Sound}
use Rattle.store_laws.proofs.Times.{by_same, stands_head, stands_tail, times_head, times_other}
use Rattle.item.specs.declared.Item.{Item}
use Rattle.record.specs.Layout.{rows_of, held_rows}
use Rattle.message.specs.declared.Envelope.{Envelope}
use Rattle.message.proofs.Counted.{count_none, count_some}
use Rattle.std.specs.Prelude.{Option, Some, None}
use Rattle.record.specs.Record.{record_bytes}
use Rattle.store.specs.Change.{put_in, put_each, count_outgoing, drop_in}
use Rattle.store.specs.Head.{first_free, group_size}
use Rattle.store.specs.Records.{record_in}
use Rattle.store.specs.Sound.{free_count, message_in}
use Rattle.operations.proofs.Inbox.{no_fault}
use Rattle.laws_inboxes.specs.Inbox.{entry_in, entries_in, inbox}
use Rattle.laws_inboxes.specs.Sent.{entry_of, entries_to}

-- ---- lists

map_same : {A : Type 0} (f g : ℕ → A) (l : List ℕ) → ((r : ℕ) → 0 < times r l → f r ≡ g r) → map f l ≡ map g l
map_same f g [] h = refl
map_same f g (x ∷ l) h = λ i. h x (stands_head x l) i ∷ map_same f g l (λ r t. h r (stands_tail r x l t)) i

-- one more, or none, between two lists
between : {A : Type 0} (b : Bool) (x : A) (l t : List A) → (l ++ cond b (x ∷ []) []) ++ t ≡ l ++ cond b (x ∷ t) t
between true x l t = append_assoc l (x ∷ []) t
between false x l t = ap (λ (m : List _). m ++ t) (append-nil l)

times_nil : (r : ℕ) → times r [] ≡ 0
unfolding times
times_nil r = refl

join : (rs : List (List ℕ)) (a b : List ℕ) → entries_in rs (a ++ b) ≡ entries_in rs a ++ entries_in rs b
unfolding entries_in
join rs a b = map-append (entry_in rs) a b

without_none : (r : ℕ) (l : List ℕ) → times r l ≡ 0 → without r l ≡ l
unfolding without
without_none r [] h = refl
without_none r (x ∷ l) h =
    by_same x r
    (λ e. absurd (omega (arith, times_head x r l e)))
    (λ d. rw (ne_eqb x r d) (ap (λ (m : List ℕ). x ∷ m) (without_none r l (omega (arith, times_other x r l d)))))

-- what is left stood there, and where none stood twice it is none of r
without_stood : (r y : ℕ) (l : List ℕ) → times y (without r l) ≤ times y l
unfolding without
without_stood r y [] = omega arith
without_stood r y (x ∷ l) =
    by_same x r
    (λ e. rw (eq-eqb x r e) (by_same x y (λ z. omega (arith, times_head x y l z)) (λ z. omega (arith, times_other x y l z))))
    (λ d. rw (ne_eqb x r d)
    (by_same x y
    (λ z. omega (arith, times_head x y l z, times_head x y (without r l) z, without_stood r y l))
    (λ z. omega (arith, times_other x y l z, times_other x y (without r l) z, without_stood r y l))))

without_once : (r : ℕ) (l : List ℕ) → times r l ≤ 1 → times r (without r l) ≡ 0
unfolding without
without_once r [] h = omega (arith, without_stood r r [], times_nil r)
without_once r (x ∷ l) h =
    by_same x r
    (λ e. rw (eq-eqb x r e) (omega (arith, times_head x r l e)))
    (λ d. rw (ne_eqb x r d) (omega (arith, times_other x r (without r l) d, without_once r l (omega (arith, times_other x r l d)))))

-- ---- a message put

module _ (rs : List (List ℕ)) (g : Sound rs) (k : ℕ) (low : k < group_size rs) (r : ℕ) (on : 0 < times r (inbox_list rs k)) where
  to_k : MessageTo (group_size rs) k (message_in rs r)
  to_k = inbox_message rs g.is_sound k low r on

  -- what stands on an inbox is neither the head nor free
  not_head : r ≢ 0
  not_head z = no_fault to_k.envelope (message_in rs r) to_k.found (ap (message_in rs) z ∙ message_head rs)

  not_free : (f : ℕ) → 0 < times f (free_list rs) → r ≢ f
  not_free f h z = no_fault to_k.envelope (message_in rs r) to_k.found (ap (message_in rs) z ∙ message_free rs g.is_sound f h)

-- every record of the inbox of node k that is not changed
same_entries : (rs rs' : List (List ℕ)) (l : List ℕ) → ((r : ℕ) → 0 < times r l → message_in rs' r ≡ message_in rs r)
    → ((r : ℕ) → 0 < times r l → rows_of (record_in rs' r) ≡ rows_of (record_in rs r)) → entries_in rs' l ≡ entries_in rs l
unfolding entries_in entry_in
same_entries rs rs' l h k = map_same (entry_in rs') (entry_in rs) l (λ r t i. record { at = r; message = h r t i; rows = k r t i })

module _ (rs : List (List ℕ)) (g : Sound rs) (e : Envelope) (rows : List Item) (fits : ForGroup (group_size rs) e rows) (some : first_free rs ≢ 0)
    (read : rows_of (record_bytes (group_size rs) 0 e rows) ≡ held_rows e.message (group_size rs) rows) where
  put : PutDone rs e rows
  put = put_done rs g e rows fits some

  first_free_lem : 0 < times (first_free rs) (free_list rs)
  first_free_lem = rw put.free (stands_head (first_free rs) (free_list (put_in rs e rows)))

  old_entries : (k : ℕ) → k < group_size rs → entries_in (put_in rs e rows) (inbox_list rs k) ≡ entries_in rs (inbox_list rs k)
  old_entries k low =
      same_entries rs (put_in rs e rows) (inbox_list rs k)
      (λ r t. put.messages r (not_free rs g k low r t (first_free rs) first_free_lem))
      (λ r t. put.rows_same r (not_head rs g k low r t) (not_free rs g k low r t (first_free rs) first_free_lem))

  new_entry : entries_in (put_in rs e rows) (first_free rs ∷ []) ≡ entry_of (group_size rs) rows e (first_free rs) ∷ []
  unfolding entries_in entry_in
  new_entry = λ i. record { at = first_free rs; message = put.message i; rows = (put.rows_put ∙ read) i } ∷ []

  put_inbox : (k : ℕ) → k < group_size rs
      → inbox (put_in rs e rows) k ≡ inbox rs k ++ cond (eqb e.addressee k) (entry_of (group_size rs) rows e (first_free rs) ∷ []) []
  unfolding inbox
  put_inbox k low =
      by_same e.addressee k
      (λ z.
      let at_k : inbox_list (put_in rs e rows) k ≡ inbox_list rs k ++ (first_free rs ∷ [])
      = subst (λ (j : ℕ). inbox_list (put_in rs e rows) j ≡ inbox_list rs j ++ (first_free rs ∷ [])) z put.inbox in
      rw (eq-eqb e.addressee k z)
      (ap (entries_in (put_in rs e rows)) at_k ∙ joins (inbox_list rs k) ∙ (λ i. old_entries k low i ++ new_entry i)))
      (λ d.
      rw (ne_eqb e.addressee k d)
      (ap (entries_in (put_in rs e rows)) (put.others k low (λ z. d (sym z))) ∙ old_entries k low ∙ sym (append-nil (entries_in rs (inbox_list rs k)))))
    where
      joins : (l : List ℕ) → entries_in (put_in rs e rows) (l ++ (first_free rs ∷ [])) ≡ entries_in (put_in rs e rows) l ++ entries_in (put_in rs e rows) (first_free rs ∷ [])
      joins l = join (put_in rs e rows) l (first_free rs ∷ [])

-- ---- several

-- what several messages make of the inboxes and of the free chain
pub record EachPut (rs rs' : List (List ℕ)) (os : List (Option Envelope)) (rows : List Item) : Type 0 where
  pub inboxes : (k : ℕ) → k < group_size rs → inbox rs' k ≡ inbox rs k ++ entries_to (group_size rs) k rows os (free_list rs)
  pub free : free_list rs' ≡ drop (count_outgoing os) (free_list rs)

-- every message reads back with its rows
abbrev pub AllRead : ℕ → List (Option Envelope) → List Item → Type 0
AllRead n os rows = (e : Envelope) → Memᴰ (Some e) os → rows_of (record_bytes n 0 e rows) ≡ held_rows e.message n rows

one_put : (rs : List (List ℕ)) (e : Envelope) (os : List (Option Envelope)) (rows : List Item) → Sound rs → ForGroup (group_size rs) e rows
    → first_free rs ≢ 0 → rows_of (record_bytes (group_size rs) 0 e rows) ≡ held_rows e.message (group_size rs) rows
    → (rs'' : List (List ℕ)) → EachPut (put_in rs e rows) rs'' os rows → EachPut rs rs'' (Some e ∷ os) rows
unfolding entries_to count_outgoing
one_put rs e os rows g fits some read rs'' E =
    record {
      inboxes = λ k low.
          E.inboxes k (omega (arith, d.size))
          ∙ (λ i. put_inbox rs g e rows fits some read k low i ++ entries_to (d.size i) k rows os (rest i))
          ∙ between (eqb e.addressee k) (entry_of (group_size rs) rows e (first_free rs)) (inbox rs k) (entries_to (group_size rs) k rows os (drop 1 (free_list rs)))
          ∙ ap (λ (f : ℕ). inbox rs k ++ cond (eqb e.addressee k)
          (entry_of (group_size rs) rows e f ∷ entries_to (group_size rs) k rows os (drop 1 (free_list rs)))
          (entries_to (group_size rs) k rows os (drop 1 (free_list rs)))) first;
      free = E.free ∙ ap (drop (count_outgoing os)) rest ∙ dropped ∙ ap (λ (c : ℕ). drop c (free_list rs)) (sym (count_some e os));
    }
  where
    d : PutDone rs e rows
    d = put_done rs g e rows fits some

    rest : free_list (put_in rs e rows) ≡ drop 1 (free_list rs)
    rest = sym (ap (drop 1) d.free)

    first : first_free rs ≡ get_or (free_list rs) 0 0
    first = sym (ap (λ (l : List ℕ). get_or l 0 0) d.free)

    dropped : drop (count_outgoing os) (drop 1 (free_list rs)) ≡ drop (suc (count_outgoing os)) (free_list rs)
    dropped = subst (λ (l : List ℕ). drop (count_outgoing os) (drop 1 l) ≡ drop (suc (count_outgoing os)) l) (sym d.free) refl

none_put : (rs : List (List ℕ)) (os : List (Option Envelope)) (rows : List Item) (rs'' : List (List ℕ)) → EachPut rs rs'' os rows
    → EachPut rs rs'' (None ∷ os) rows
unfolding entries_to count_outgoing
none_put rs os rows rs'' E =
    record { inboxes = E.inboxes; free = E.free ∙ ap (λ (c : ℕ). drop c (free_list rs)) (sym (count_none os)) }

pub each_put : (os : List (Option Envelope)) (rs : List (List ℕ)) (rows : List Item) → Sound rs → AllForGroup (group_size rs) os rows → AllRead (group_size rs) os rows
    → count_outgoing os ≤ free_count rs → EachPut rs (put_each rs os rows) os rows
unfolding put_each count_outgoing entries_to AllForGroup
each_put [] rs rows g fit read h = record { inboxes = λ k low. sym (append-nil (inbox rs k)); free = refl }
each_put (None ∷ os) rs rows g fit read h =
    none_put rs os rows (put_each rs os rows)
    (each_put os rs rows g (λ e m. fit e (Memᴰ.tail m)) (λ e m. read e (Memᴰ.tail m)) (omega (arith, count_none os)))
each_put (Some e ∷ os) rs rows g fit read h =
    let f : ForGroup (group_size rs) e rows = fit e (Memᴰ.head refl) in
    let s : first_free rs ≢ 0 = some_free rs g.is_sound (omega (arith, count_some e os)) in
    let d : PutDone rs e rows = put_done rs g e rows f s in
    one_put rs e os rows g f s (read e (Memᴰ.head refl)) (put_each (put_in rs e rows) os rows)
    (each_put os (put_in rs e rows) rows d.sound
    (λ q m. subst (λ (n : ℕ). ForGroup n q rows) (sym d.size) (fit q (Memᴰ.tail m)))
    (λ q m. subst (λ (n : ℕ). rows_of (record_bytes n 0 q rows) ≡ held_rows q.message n rows) (sym d.size) (read q (Memᴰ.tail m)))
    (omega (arith, d.fewer, count_some e os)))

-- ---- a message dropped

module _ (rs : List (List ℕ)) (g : Sound rs) (k : ℕ) (low : k < group_size rs) (r : ℕ) (on : 0 < times r (inbox_list rs k)) where
  gone : DropDone rs k r
  gone = drop_done rs g k low r on

  c : OnChains rs (free_list rs) (inbox_list rs)
  c = sound_chains rs g.is_sound

  rest_list : (j : ℕ) → j < group_size rs → inbox_list (drop_in rs k r) j ≡ without r (inbox_list rs j)
  rest_list j h =
      by_same j k
      (λ z. subst (λ (i : ℕ). inbox_list (drop_in rs k r) i ≡ without r (inbox_list rs i)) (sym z) gone.inbox)
      (λ d. gone.others j h d ∙ sym (without_none r (inbox_list rs j) (inbox_only c r k low j h (λ z. d (sym z)) on)))

  pub drop_inbox : (j : ℕ) → j < group_size rs → inbox (drop_in rs k r) j ≡ entries_in rs (without r (inbox_list rs j))
  unfolding inbox
  drop_inbox j h =
      ap (entries_in (drop_in rs k r)) (rest_list j h)
      ∙ same_entries rs (drop_in rs k r) (without r (inbox_list rs j))
      (λ y t. gone.messages y (not_r y t))
      (λ y t. gone.rows_same y (not_head rs g j h y (omega (arith, without_stood r y (inbox_list rs j)))) (not_r y t))
    where
      not_r : (y : ℕ) → 0 < times y (without r (inbox_list rs j)) → y ≢ r
      not_r y t z = absurd (omega (arith, without_once r (inbox_list rs j) (inbox_once c r j h), ap (λ (i : ℕ). times i (without r (inbox_list rs j))) z))

  pub drop_free : free_list (drop_in rs k r) ≡ r ∷ free_list rs
  drop_free = gone.free
