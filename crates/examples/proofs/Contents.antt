-- The records of a store from which nothing was dropped, as the list of what was put into it, the latest first: the r-th
-- message stands in record r, and the records after the last are free. By the laws of the chains a message put is one more.
use Prim.Native.Nat.{ℕ, suc, ◌-◌, ◌≤◌, ◌<◌}
use native.Mathlib.Omega.{arith}
use mathlib.Core.Path.{◌≡◌, refl, sym, ap, ◌∙◌}
use mathlib.Core.Bool.{Bool, true, cond, ◌&&◌}
use mathlib.Core.List.{List, [], ◌∷◌}
use mathlib.Core.Logic.{◌≢◌}
use lib.Dec.{eqb}
use lib.ListN.{length}
use borrow.Author.Tests.{eq-eqb, ne_eqb}
use Rattle.item.specs.Maxima.{valid_size}
use Rattle.item.proofs.Tests.{and_left, and_right}
use Rattle.item.specs.declared.Item.{Item}
use Rattle.message.specs.Rows.{held_rows}
use Rattle.message.specs.declared.Envelope.{Envelope}
use Rattle.message.proofs.Counted.{count_none, count_some}
use Rattle.record.specs.Layout.{rows_of}
use Rattle.store.specs.Change.{put_in, put_each, count_outgoing, empty_records}
use Rattle.store.specs.Head.{first_free, group_size}
use Rattle.store.proofs.Locality.{put_local, length_empty, empty_reads}
use Rattle.store.specs.Records.{record_count, record_in}
use Rattle.store.specs.Sound.{free_count, message_in}
use Rattle.store_laws.proofs.Empty.{EmptyDone, length_numbers, set_up_done}
use Rattle.store_laws.specs.Lists.{numbers_from, free_list}
use Rattle.store_laws.proofs.Message.{message_head, message_read}
use Rattle.store_laws.proofs.OnChains.{sound_valid, free_count_lem}
use Rattle.store_laws.proofs.Put.{PutDone, put_done, some_free}
use Rattle.store_laws.proofs.Sound.{Sound}
use Rattle.store_laws.proofs.Times.{by_same}
use Rattle.protocol.specs.Network.{Packet}
use Rattle.operations.proofs.Inbox as inbox
use Rattle.examples.proofs.Fits.{fits, goes, read_rows}
use Rattle.std.specs.Prelude.{None, Option, Some}

-- the message in record r, and the items beside it
unfoldable pub found : List Packet → ℕ → Option Envelope
found [] r = None
found (l ∷ sent) r = cond (eqb r (suc (length sent))) (Some l.envelope) (found sent r)

unfoldable pub beside : List Packet → ℕ → List Item
beside [] r = []
beside (l ∷ sent) r = cond (eqb r (suc (length sent))) l.rows (beside sent r)

-- how many records are free
abbrev pub free_after : List Packet → ℕ
free_after sent = record_count - suc (length sent)

pub record Holds (n : ℕ) (rs : List (List ℕ)) (sent : List Packet) : Type 0 where
  pub sound : Sound rs
  pub many : length rs ≡ record_count
  pub size : group_size rs ≡ n
  pub free : free_list rs ≡ numbers_from (free_after sent) (suc (length sent))
  pub messages : (r : ℕ) → message_in rs r ≡ found sent r
  pub items : (r : ℕ) (e : Envelope) → found sent r ≡ Some e → rows_of (record_in rs r) ≡ beside sent r

-- ---- none

pub holds_none : (n : ℕ) → valid_size n ≡ true → Holds n (empty_records record_count n) []
unfolding found
holds_none n valid =
    let done : EmptyDone record_count n = set_up_done n valid in
    record {
      sound = done.sound;
      many = length_empty record_count n;
      size = done.size;
      free = done.free;
      messages = λ r. by_same r 0
          (λ z. ap (message_in (empty_records record_count n)) z ∙ message_head (empty_records record_count n))
          (λ d. message_read (empty_records record_count n) r d ∙ empty_reads record_count n r d _);
      items = λ r e h. absurd (inbox.no_fault e None h refl);
    }

-- ---- one more

-- a message, and as many of the rows as its record holds
abbrev pub packet : ℕ → Envelope → List Item → Packet
packet n e rows = record { envelope = e; rows = held_rows e.message n rows }

module _ {n : ℕ} {rs : List (List ℕ)} {sent : List Packet} (H : Holds n rs sent) where
  pub free_are : free_count rs ≡ free_after sent
  free_are = free_count_lem rs H.sound.is_sound ∙ ap length H.free ∙ length_numbers (free_after sent) (suc (length sent))

  -- where a record is free, it is the one after the last message
  next_free : 0 < free_after sent → free_list rs ≡ suc (length sent) ∷ numbers_from (free_after sent - 1) (suc (suc (length sent)))
  unfolding numbers_from
  next_free room = H.free ∙ ap (λ (m : ℕ). numbers_from m (suc (length sent))) one_less
    where
      one_less : free_after sent ≡ suc (free_after sent - 1)
      one_less = omega arith

  module _ (e : Envelope) (rows : List Item) (fit : fits n e rows ≡ true) (room : 0 < free_after sent) where
    valid : valid_size n ≡ true
    valid = rw H.size at (sound_valid rs H.sound.is_sound)

    done : PutDone rs e rows
    done = put_done rs H.sound e rows (rw H.size (goes n e rows valid fit)) (some_free rs H.sound.is_sound (omega (arith, free_are)))

    first : first_free rs ≡ suc (length sent)
    first = cc (done.free, next_free room)

    rest : free_list (put_in rs e rows) ≡ numbers_from (free_after sent - 1) (suc (suc (length sent)))
    rest = cc (done.free, next_free room)

    less : free_after sent - 1 ≡ free_after (packet n e rows ∷ sent)
    less = omega arith

    pub holds_one_more : Holds n (put_in rs e rows) (packet n e rows ∷ sent)
    unfolding found beside
    holds_one_more =
        record {
          sound = done.sound;
          many = (put_local rs e rows).count ∙ H.many;
          size = done.size ∙ H.size;
          free = rest ∙ ap (λ (m : ℕ). numbers_from m (suc (suc (length sent)))) less;
          messages = λ r. by_same r (suc (length sent))
              (λ z. rw (eq-eqb r (suc (length sent)) z) (ap (message_in (put_in rs e rows)) (z ∙ sym first) ∙ done.message))
              (λ d. rw (ne_eqb r (suc (length sent)) d) (done.messages r (λ z. d (z ∙ first)) ∙ H.messages r));
          items = λ r m. by_same r (suc (length sent))
              (λ z. rw (eq-eqb r (suc (length sent)) z) (λ _. new r z))
              (λ d. rw (ne_eqb r (suc (length sent)) d) (λ h. old r m h (λ z. d (z ∙ first)) ∙ H.items r m h));
        }
      where
        new : (r : ℕ) → r ≡ suc (length sent) → rows_of (record_in (put_in rs e rows) r) ≡ held_rows e.message n rows
        new r z =
            ap (λ (i : ℕ). rows_of (record_in (put_in rs e rows) i)) (z ∙ sym first) ∙ done.rows_put
            ∙ rw H.size (read_rows n e rows valid fit)

        old : (r : ℕ) (m : Envelope) → found sent r ≡ Some m → r ≢ first_free rs → rows_of (record_in (put_in rs e rows) r) ≡ rows_of (record_in rs r)
        old r m h d = done.rows_same r (inbox.message_read rs r m (H.messages r ∙ h)).0 d

-- ---- several

-- the messages in their order, with the rows beside them
unfoldable pub packets_put : ℕ → List (Option Envelope) → List Item → List Packet → List Packet
packets_put n [] rows sent = sent
packets_put n (None ∷ os) rows sent = packets_put n os rows sent
packets_put n (Some e ∷ os) rows sent = packets_put n os rows (packet n e rows ∷ sent)

unfoldable pub all_fit : ℕ → List (Option Envelope) → List Item → Bool
all_fit n [] rows = true
all_fit n (None ∷ os) rows = all_fit n os rows
all_fit n (Some e ∷ os) rows = fits n e rows && all_fit n os rows

pub holds_more : {n : ℕ} (os : List (Option Envelope)) (rows : List Item) {rs : List (List ℕ)} {sent : List Packet} → Holds n rs sent
    → all_fit n os rows ≡ true → count_outgoing os ≤ free_after sent → Holds n (put_each rs os rows) (packets_put n os rows sent)
unfolding put_each packets_put all_fit count_outgoing
holds_more [] rows H fit room = H
holds_more (None ∷ os) rows H fit room = holds_more os rows H fit (omega (arith, count_none os))
holds_more {n} (Some e ∷ os) rows H fit room =
    let here = fits n e rows in
    holds_more os rows (holds_one_more H e rows (and_left here _ fit) (omega (arith, count_some e os))) (and_right here _ fit)
    (omega (arith, count_some e os))
