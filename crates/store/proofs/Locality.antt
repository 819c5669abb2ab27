-- Locality: what a change of the store does to each record, whatever the records are and whatever the chains say. A record
-- from 1 reads after `put` as before or as the message put; after `drop` as before or as none; after set-up as none.
use Prim.Native.Nat.{ℕ, zero, suc, ◌<◌}
use mathlib.Core.Path.{◌≡◌, refl, sym, ap, subst, ◌∙◌}
use mathlib.Core.Bool.{Bool, true, false}
use mathlib.Core.Logic.{◌≢◌, ◌⊎◌, inl, inr, ⊎_elim}
use mathlib.Core.List.{List, [], ◌∷◌, Memᴰ}
use native.Mathlib.Omega.{arith}
use native.Mathlib.Nat.{not-suc-le-zero, le_of_suc-le-suc}
use lib.Dec.{eqb}
use borrow.Author.Tests.{eqb-true, eqb-false}
use lib.ListN.{length, get_or, set, length-set, get_or-eq_default}
use lib.Seq.{get_or-set_same, get_or-set_other, set_out}
use Rattle.item.proofs.Tests.{by_cond}
use Rattle.item.specs.declared.Item.{Item}
use Rattle.message.specs.declared.Envelope.{Envelope}
use Rattle.std.specs.Prelude.{Option, Some}
use Rattle.endian.proofs.PartLaws.{by_order}
use Rattle.endian.specs.Number.{with_number}
use Rattle.endian.proofs.NumberLaws.{length_with_number}
use Rattle.record.specs.Layout.{record_size, rows_of}
use Rattle.record.specs.Record.{read_record, record_bytes, with_next, no_record}
use Rattle.store.specs.Records.{record_in, right_length, records_of, on_records}
use Rattle.store.proofs.Joined.{Sized, records_count, records_sized, records_after}
use Rattle.store.specs.Head.{free_at, size_at, inbox_at, first_free, group_size, first_of, with_first_free, with_first_of}
use Rattle.store.specs.Chain.{next_in, last_from, before_from}
use Rattle.store.specs.Change.{with_next_in, appended, taken, put_in, put_each, unlinked, freed, drop_in, free_records, empty_head, empty_records}
use Rattle.record.proofs.RoundTripLaws.{length_record}
use Rattle.store.proofs.Bytes.{byte_other, Alike, alike_self, alike_trans, alike_next, alike_byte, alike_read, alike_rows, zero_none, cleared_none, nothing_none, length_cleared}
use Rattle.std.specs.Prelude.{None}

-- a change that keeps n, the number of records and their sizes, and leaves each record from 1 alike apart from next, or new
pub record Local (New : List ℕ → Type 0) (rs rs' : List (List ℕ)) : Type 0 where
  pub count : length rs' ≡ length rs
  pub size : group_size rs' ≡ group_size rs
  pub sized : Sized record_size rs → Sized record_size rs'
  pub each : (i : ℕ) → i ≢ 0 → Alike (record_in rs' i) (record_in rs i) ⊎ New (record_in rs' i)

-- ---- one record changed

pub set_other : (rs : List (List ℕ)) (i j : ℕ) (r : List ℕ) → j ≢ i → record_in (set rs i r) j ≡ record_in rs j
unfolding record_in
set_other rs i j r d = get_or-set_other rs i j r [] d

pub set_same : (rs : List (List ℕ)) (i : ℕ) (r : List ℕ) → i < length rs → record_in (set rs i r) i ≡ r
unfolding record_in
set_same rs i r h = get_or-set_same rs i r [] h

-- record j once record i is r: it is r, or as it was
pub set_cases : (P : List ℕ → Type 0) (rs : List (List ℕ)) (i j : ℕ) (r : List ℕ)
    → (j ≡ i → P r) → P (record_in rs j) → P (record_in (set rs i r) j)
set_cases P rs i j r new old = go (eqb j i) refl
  where
    go : (t : Bool) → eqb j i ≡ t → P (record_in (set rs i r) j)
    go true e =
        by_order (suc i) (length rs)
        (λ h. subst P (sym (ap (record_in (set rs i r)) (eqb-true j i e) ∙ set_same rs i r h)) (new (eqb-true j i e)))
        (λ h. subst P (sym (ap (λ (l : List (List ℕ)). record_in l j) (set_out rs i r (omega arith)))) old)
    go false e = subst P (sym (set_other rs i j r (eqb-false j i e))) old

module _ {New : List ℕ → Type 0} (rs : List (List ℕ)) (i : ℕ) (r : List ℕ) where
  pub set_local : (length (record_in rs i) ≡ record_size → length r ≡ record_size)
      → (i ≡ 0 → get_or r size_at 0 ≡ get_or (record_in rs i) size_at 0)
      → (i ≢ 0 → Alike r (record_in rs i) ⊎ New r)
      → Local New rs (set rs i r)
  unfolding group_size Sized
  set_local long same new =
      record {
        count = length-set rs i r;
        size = set_cases (λ q. get_or q size_at 0 ≡ get_or (record_in rs 0) size_at 0) rs i 0 r (λ e. same (sym e) ∙ ap (λ (k : ℕ). get_or (record_in rs k) size_at 0) (sym e)) refl;
        sized = λ s j h.
            set_cases (λ q. length q ≡ record_size) rs i j r
            (λ e. long (ap (λ (k : ℕ). length (record_in rs k)) (sym e) ∙ s j (omega (arith, length-set rs i r))))
            (s j (omega (arith, length-set rs i r)));
        each = λ j d.
            set_cases (λ q. Alike q (record_in rs j) ⊎ New q) rs i j r
            (λ e. subst (λ (k : ℕ). Alike r (record_in rs k) ⊎ New r) (sym e) (new (λ z. d (e ∙ z))))
            (inl (alike_self (record_in rs j)));
      }

-- ---- one change after the other

pub local_none : {New : List ℕ → Type 0} (rs : List (List ℕ)) → Local New rs rs
local_none rs = record { count = refl; size = refl; sized = λ s. s; each = λ i d. inl (alike_self (record_in rs i)) }

pub local_then : {New : List ℕ → Type 0} {rs rs' rs'' : List (List ℕ)} → ((r q : List ℕ) → Alike r q → New q → New r)
    → Local New rs rs' → Local New rs' rs'' → Local New rs rs''
local_then {New} {rs} {rs'} {rs''} keeps a b =
    record {
      count = b.count ∙ a.count;
      size = b.size ∙ a.size;
      sized = λ s. b.sized (a.sized s);
      each = λ i d.
          ⊎_elim
          (λ (k : Alike (record_in rs'' i) (record_in rs' i)).
          ⊎_elim
          (λ (l : Alike (record_in rs' i) (record_in rs i)). inl (alike_trans k l))
          (λ (m : New (record_in rs' i)). inr (keeps _ _ k m))
          (a.each i d))
          (λ (m : New (record_in rs'' i)). inr m)
          (b.each i d);
    }

pub local_as : {New New' : List ℕ → Type 0} {rs rs' : List (List ℕ)} → ((r : List ℕ) → New r → New' r) → Local New rs rs' → Local New' rs rs'
local_as {New} {New'} {rs} {rs'} f a =
    record {
      count = a.count;
      size = a.size;
      sized = a.sized;
      each = λ i d. ⊎_elim (λ (k : Alike (record_in rs' i) (record_in rs i)). inl k) (λ (m : New (record_in rs' i)). inr (f _ m)) (a.each i d);
    }

-- a change without new records
pub local_alike : {rs rs' : List (List ℕ)} → Local (λ _. ⊥) rs rs' → (i : ℕ) → i ≢ 0 → Alike (record_in rs' i) (record_in rs i)
local_alike {rs} {rs'} a i d = ⊎_elim (λ (k : Alike (record_in rs' i) (record_in rs i)). k) (λ (z : ⊥). absurd z) (a.each i d)

-- ---- the chains alone change

module _ {New : List ℕ → Type 0} (rs : List (List ℕ)) where
  pub free_local : (i : ℕ) → Local New rs (with_first_free rs i)
  unfolding with_first_free
  free_local i =
      set_local rs 0 (with_number 2 (record_in rs 0) free_at i)
      (λ e. length_with_number 2 (record_in rs 0) free_at i ∙ e)
      (λ _. byte_other 2 (record_in rs 0) free_at i size_at (inr (omega arith)))
      (λ d. absurd (d refl))

  pub first_local : (k i : ℕ) → Local New rs (with_first_of rs k i)
  unfolding with_first_of inbox_at
  first_local k i =
      set_local rs 0 (with_number 2 (record_in rs 0) (inbox_at k) i)
      (λ e. length_with_number 2 (record_in rs 0) (inbox_at k) i ∙ e)
      (λ _. byte_other 2 (record_in rs 0) (inbox_at k) i size_at (inl (omega arith)))
      (λ d. absurd (d refl))

  pub next_local : (i next : ℕ) → Local New rs (with_next_in rs i next)
  unfolding with_next_in
  next_local i next =
      set_local rs i (with_next (record_in rs i) next)
      (λ e. (alike_next (record_in rs i) next).size ∙ e)
      (λ _. alike_byte (alike_next (record_in rs i) next) size_at (omega arith))
      (λ _. inl (alike_next (record_in rs i) next))

  pub appended_local : (k i : ℕ) → Local New rs (appended rs k i)
  unfolding appended
  appended_local k i =
      by_cond (Local New rs) (eqb (first_of rs k) 0) _ _
      (λ _. first_local k i)
      (λ _. next_local (last_from (length rs) rs (first_of rs k)) i)

  pub unlinked_local : (k r : ℕ) → Local New rs (unlinked rs k r)
  unfolding unlinked
  unlinked_local k r =
      by_cond (Local New rs) (eqb (first_of rs k) r) _ _
      (λ _. first_local k (next_in rs r))
      (λ _. next_local (before_from (length rs) rs r (first_of rs k)) (next_in rs r))

-- ---- put

-- a record that holds the message, whatever its next
abbrev pub Holds : ℕ → Envelope → List Item → List ℕ → Type 0
Holds n e rows r = Alike r (record_bytes n 0 e rows)

-- after the first free record, which is not 0, is taken
pub taken_local : (rs : List (List ℕ)) (e : Envelope) (rows : List Item) → first_free rs ≢ 0 → Local (Holds (group_size rs) e rows) rs (taken rs e rows)
unfolding taken
taken_local rs e rows d =
    local_then (λ r q k l. alike_trans k l) (free_local rs (next_in rs (first_free rs)))
    (set_local (with_first_free rs (next_in rs (first_free rs))) (first_free rs) (record_bytes (group_size rs) 0 e rows)
    (λ _. length_record (group_size rs) 0 e rows)
    (λ z. absurd (d z))
    (λ _. inr (alike_self (record_bytes (group_size rs) 0 e rows))))

-- after `put` each record from 1 is as before apart from next, or holds the message
pub put_local : (rs : List (List ℕ)) (e : Envelope) (rows : List Item) → Local (Holds (group_size rs) e rows) rs (put_in rs e rows)
unfolding put_in
put_local rs e rows =
    by_cond (Local (Holds (group_size rs) e rows) rs) (eqb (first_free rs) 0) _ _
    (λ _. local_none rs)
    (λ z. local_then (λ r q k l. alike_trans k l) (taken_local rs e rows (eqb-false (first_free rs) 0 z)) (appended_local (taken rs e rows) e.addressee (first_free rs)))

-- a record that holds one of these messages
pub record HoldsOne (n : ℕ) (os : List (Option Envelope)) (rows : List Item) (r : List ℕ) : Type 0 where
  pub envelope : Envelope
  pub among : Memᴰ (Some envelope) os
  pub holds : Holds n envelope rows r

-- after several: as before apart from next, or it holds one of them
pub put_each_local : (os : List (Option Envelope)) (rs : List (List ℕ)) (rows : List Item) → Local (HoldsOne (group_size rs) os rows) rs (put_each rs os rows)
unfolding put_each
put_each_local [] rs rows = local_none rs
put_each_local (None ∷ os) rs rows =
    local_as (λ r h. record { envelope = h.envelope; among = Memᴰ.tail h.among; holds = h.holds }) (put_each_local os rs rows)
put_each_local (Some e ∷ os) rs rows = step (put_local rs e rows) (put_each_local os _ rows)
  where
    New : List ℕ → Type 0
    New = HoldsOne (group_size rs) (Some e ∷ os) rows

    step : {rs' : List (List ℕ)} → Local (Holds (group_size rs) e rows) rs rs' → Local (HoldsOne (group_size rs') os rows) rs' (put_each rs' os rows)
        → Local New rs (put_each rs' os rows)
    step a b =
        local_then (λ r q k h. record { envelope = h.envelope; among = h.among; holds = alike_trans k h.holds })
        (local_as (λ r h. record { envelope = e; among = Memᴰ.head refl; holds = h }) a)
        (local_as (λ r h. record {
          envelope = h.envelope;
          among = Memᴰ.tail h.among;
          holds = subst (λ (n : ℕ). Holds n h.envelope rows r) a.size h.holds;
        }) b)

-- ---- drop

-- after `drop` of a record from 1: as before apart from next, or cleared
pub drop_local : (rs : List (List ℕ)) (k r : ℕ) → r ≢ 0 → Local (λ q. Alike q no_record) rs (drop_in rs k r)
unfolding drop_in freed
drop_local rs k r d =
    then (then (unlinked_local rs k r) clear) (free_local (set (unlinked rs k r) r (with_next no_record (first_free (unlinked rs k r)))) r)
  where
    New : List ℕ → Type 0
    New q = Alike q no_record

    then : {a b c : List (List ℕ)} → Local New a b → Local New b c → Local New a c
    then = local_then (λ r q k l. alike_trans k l)

    clear : Local New (unlinked rs k r) (set (unlinked rs k r) r (with_next no_record (first_free (unlinked rs k r))))
    clear =
        set_local (unlinked rs k r) r (with_next no_record (first_free (unlinked rs k r)))
        (λ _. length_cleared (first_free (unlinked rs k r)))
        (λ z. absurd (d z))
        (λ _. inr (alike_next no_record (first_free (unlinked rs k r))))

-- ---- what is read afterwards

-- record r says what q says, in a group of any size
pub record Reads (r q : List ℕ) : Type 0 where
  pub message : (n : ℕ) → read_record n r ≡ read_record n q
  pub rows : rows_of r ≡ rows_of q

alike_reads : {r q : List ℕ} → Alike r q → Reads r q
alike_reads a = record { message = alike_read a; rows = alike_rows a }

-- one of the messages
pub record ReadsOne (n : ℕ) (os : List (Option Envelope)) (rows : List Item) (r : List ℕ) : Type 0 where
  pub envelope : Envelope
  pub among : Memᴰ (Some envelope) os
  pub reads : Reads r (record_bytes n 0 envelope rows)

pub put_each_reads : (rs : List (List ℕ)) (os : List (Option Envelope)) (rows : List Item) (i : ℕ) → i ≢ 0
    → Reads (record_in (put_each rs os rows) i) (record_in rs i) ⊎ ReadsOne (group_size rs) os rows (record_in (put_each rs os rows) i)
put_each_reads rs os rows i d =
    ⊎_elim
    (λ (k : Alike (record_in (put_each rs os rows) i) (record_in rs i)). inl (alike_reads k))
    (λ (h : HoldsOne (group_size rs) os rows (record_in (put_each rs os rows) i)). inr (record { envelope = h.envelope; among = h.among; reads = alike_reads h.holds }))
    ((put_each_local os rs rows).each i d)

pub drop_reads : (rs : List (List ℕ)) (k r : ℕ) → r ≢ 0 → (i : ℕ) → i ≢ 0
    → Reads (record_in (drop_in rs k r) i) (record_in rs i) ⊎ ((n : ℕ) → read_record n (record_in (drop_in rs k r) i) ≡ None)
drop_reads rs k r z i d =
    ⊎_elim
    (λ (a : Alike (record_in (drop_in rs k r) i) (record_in rs i)). inl (alike_reads a))
    (λ (a : Alike (record_in (drop_in rs k r) i) no_record). inr (λ n. alike_read a n ∙ zero_none n))
    ((drop_local rs k r z).each i d)

-- ---- set-up

pub length_free_records : (left i : ℕ) → length (free_records left i) ≡ left
unfolding free_records
length_free_records zero i = refl
length_free_records (suc zero) i = refl
length_free_records (suc (suc left)) i = ap suc (length_free_records (suc left) (suc i))

pub length_empty : (count n : ℕ) → length (empty_records count n) ≡ count
unfolding empty_records
length_empty zero n = refl
length_empty (suc left) n = ap suc (length_free_records left 1)

-- a record of them is cleared but for its next
pub free_record : (P : List ℕ → Type 0) → ((next : ℕ) → P (with_next no_record next)) → (left i j : ℕ) → j < left → P (record_in (free_records left i) j)
unfolding free_records record_in
free_record P p zero i j h = absurd (not-suc-le-zero h)
free_record P p (suc zero) i zero h = p 0
free_record P p (suc zero) i (suc j) h = absurd (not-suc-le-zero (le_of_suc-le-suc h))
free_record P p (suc (suc left)) i zero h = p (suc i)
free_record P p (suc (suc left)) i (suc j) h = free_record P p (suc left) (suc i) j (le_of_suc-le-suc h)

pub empty_reads : (count n i : ℕ) → i ≢ 0 → (m : ℕ) → read_record m (record_in (empty_records count n) i) ≡ None
unfolding empty_records record_in
empty_reads zero n i d m = nothing_none m
empty_reads (suc left) n zero d m = absurd (d refl)
empty_reads (suc left) n (suc i) d m =
    by_order (suc i) left
    (λ h. free_record (λ r. read_record m r ≡ None) (cleared_none m) left 1 i h)
    (λ h. ap (read_record m) (get_or-eq_default (free_records left 1) [] (omega (arith, length_free_records left 1))) ∙ nothing_none m)

pub empty_size : (left n : ℕ) → group_size (empty_records (suc left) n) ≡ n
unfolding empty_records record_in group_size empty_head with_next
empty_size left n = get_or-set_same (with_next no_record 1) size_at n 0 (omega (arith, length_cleared 1))

pub empty_sized : (count n : ℕ) → Sized record_size (empty_records count n)
unfolding empty_records record_in Sized empty_head with_next
empty_sized zero n i h = absurd (not-suc-le-zero h)
empty_sized (suc left) n zero h = length-set (with_next no_record 1) size_at n ∙ length_cleared 1
empty_sized (suc left) n (suc i) h = free_record (λ r. length r ≡ record_size) length_cleared left 1 i (omega (arith, length_free_records left 1))

-- ---- bytes

-- the records of the bytes afterwards are the records afterwards
pub local_after : {New : List ℕ → Type 0} (change : List (List ℕ) → List (List ℕ)) (s : List ℕ) → right_length s ≡ true
    → Local New (records_of s) (change (records_of s)) → records_of (on_records change s) ≡ change (records_of s)
local_after change s e a = records_after change s e (a.count ∙ records_count s) (a.sized (records_sized s e))
