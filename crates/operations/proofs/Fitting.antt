-- Every number of a node fits the width that a record has for it: every decision keeps this, and sends only numbers that fit.
-- A counter rises only below its largest, a tag comes from an event whose tag fits, and all else from nodes and messages.
use Prim.Native.Nat.{ℕ, zero, suc, ◌^◌, ◌<◌}
use native.Mathlib.Omega.{arith}
use mathlib.Core.Path.{◌≡◌, refl}
use mathlib.Core.Bool.{Bool, true, false}
use mathlib.Core.List.{List, [], ◌∷◌}
use lib.Dec.{eqb}
use lib.ListN.{length, get_or, set, replicate, get_or-replicate, get_or-eq_default, length-replicate}
use lib.Seq.{get_or-set_same, get_or-set_other, set_out}
use borrow.Author.Tests.{eqb-true, eqb-false}
use Rattle.endian.proofs.PartLaws.{by_order}
use Rattle.item.specs.Counter.{largest, index_at_largest, next_index, incarnation_at_largest, next_incarnation, attempt_at_largest, next_attempt}
use Rattle.item.specs.Item.{zero_item, ranks_below, same_item}
use Rattle.item.specs.Maxima.{max_nodes, tag_size}
use Rattle.item.specs.Row.{zero_row}
use Rattle.item.proofs.Tests.{by_cond}
use Rattle.item.specs.declared.counters.Attempt.{Attempt}
use Rattle.item.specs.declared.counters.Incarnation.{Incarnation}
use Rattle.item.specs.declared.counters.Index.{Index}
use Rattle.item.specs.declared.Item.{Item}
use Rattle.item.specs.declared.Row.{Row}
use Rattle.item.specs.declared.Tag.{Tag}
use Rattle.message.specs.declared.Message.{Message}
use Rattle.message.specs.declared.Message.TheVariants as message
use Rattle.record.specs.Kind.{other_of, attempt_of, item_of}
use Rattle.record.specs.Layout.{index_size}
use Rattle.record.specs.RoundTrip.{ItemFits}
use Rattle.protocol.specs.Answer.{ok, refused}
use Rattle.protocol.specs.Merge.{merge_row, merge_rows}
use Rattle.protocol.specs.Node.{no_peer, no_peers, zero_rows, row_of, own_item, stored_row, blank_node, crashed, started, storing_begun, write_ended}
use Rattle.protocol.specs.Phase.{is_down, is_up_idle, is_fetching}
use Rattle.protocol.specs.Write.{send_store, send_fetch, next_item, written, write_at_largest, write_step, retried, nothing_to_retry, retry_step, crash_step, start_step}
use Rattle.protocol.specs.declared.Node.{Node}
use Rattle.protocol.specs.declared.Phase.{Phase}
use Rattle.protocol.specs.declared.Refusal.{Refusal}
use Rattle.protocol.specs.declared.Sends.{Sends}
use Rattle.protocol.specs.declared.Sends.TheVariants as sends
use Rattle.protocol.specs.declared.Step.{Step}
use Rattle.operations.specs.Fits.{CounterFits, PeerFits, NodeFits}

pub record MessageFits (m : Message) : Type 0 where
  pub other_fits : CounterFits (other_of m).0
  pub attempt_fits : CounterFits (attempt_of m).0
  pub item_fits : ItemFits (item_of m)

-- what is sent; the incarnations in a Confirm are the node's own peers'
abbrev pub SendsFit : Sends → Type 0
SendsFit sends.Nothing = Unit {0}
SendsFit (sends.Back m) = MessageFits m
SendsFit (sends.Others m) = MessageFits m
SendsFit (sends.Asked a item) = CounterFits a.0 × ItemFits item

-- the decision of a node: its number and its group stay, and all that it keeps and sends fits
pub record StepFits (node : Node) (step : Step) : Type 0 where
  pub same_number : step.node.number ≡ node.number
  pub same_size : step.node.n ≡ node.n
  pub node_fits : NodeFits step.node
  pub sends_fit : SendsFit step.sends

-- ---- numbers

pub zero_fits : ItemFits zero_item
unfolding ItemFits
zero_fits = (omega arith, omega arith)

index_fits : (i : Index) → i.0 < 256 ^ index_size → (next_index i).0 < 256 ^ index_size
unfolding next_index index_at_largest
index_fits i h =
    by_cond (λ (j : Index). j.0 < 256 ^ index_size) (eqb i.0 (largest 64)) _ _ (λ _. h)
    (λ e. let d : i.0 ≡ largest 64 → ⊥ = eqb-false i.0 (largest 64) e in omega arith)

incarnation_rises : (i : Incarnation) → CounterFits i.0 → CounterFits (next_incarnation i).0
unfolding next_incarnation incarnation_at_largest
incarnation_rises i h =
    by_cond (λ (j : Incarnation). CounterFits j.0) (eqb i.0 (largest 32)) _ _ (λ _. h)
    (λ e. let d : i.0 ≡ largest 32 → ⊥ = eqb-false i.0 (largest 32) e in omega arith)

attempt_rises : (a : Attempt) → CounterFits a.0 → CounterFits (next_attempt a).0
unfolding next_attempt attempt_at_largest
attempt_rises a h =
    by_cond (λ (b : Attempt). CounterFits b.0) (eqb a.0 (largest 32)) _ _ (λ _. h)
    (λ e. let d : a.0 ≡ largest 32 → ⊥ = eqb-false a.0 (largest 32) e in omega arith)

-- ---- lists

-- every place of a list of equals, and beyond it
pub get_or_same : {A : Type 0} (n i : ℕ) (a : A) → get_or (replicate n a) i a ≡ a
get_or_same n i a =
    by_order (suc i) n
    (λ h. get_or-replicate n i a a h)
    (λ h. get_or-eq_default (replicate n a) a (omega (arith, length-replicate n a)))

-- every place after one was set
pub set_any : {A : Type 0} (P : A → Type 0) (l : List A) (j : ℕ) (a d : A) → P a → ((i : ℕ) → P (get_or l i d))
    → (i : ℕ) → P (get_or (set l j a) i d)
set_any P l j a d new old i = go (eqb i j) refl
  where
    go : (t : Bool) → eqb i j ≡ t → P (get_or (set l j a) i d)
    go true e =
        by_order (suc j) (length l)
        (λ h. rw (eqb-true i j e, get_or-set_same l j a d h) new)
        (λ h. rw (set_out l j a (omega arith)) (old i))
    go false e = rw (get_or-set_other l j i a d (eqb-false i j e)) (old i)

merge_fits : (first : Bool) (row : Row) (item : Item) → ItemFits row.item → ItemFits item → ItemFits (merge_row first row item).item
unfolding merge_row
merge_fits first row item r i =
    by_cond (λ (s : Row). ItemFits s.item) first _ _ (λ _. i)
    (λ _. by_cond (λ (s : Row). ItemFits s.item) (ranks_below row.item item) _ _ (λ _. i)
    (λ _. by_cond (λ (s : Row). ItemFits s.item) (ranks_below item row.item) _ _ (λ _. r)
    (λ _. by_cond (λ (s : Row). ItemFits s.item) (same_item item row.item) _ _ (λ _. r) (λ _. r))))

pub merged_fit : (first : Bool) (rows : List Row) (items : List Item) → ((i : ℕ) → ItemFits (get_or rows i zero_row).item)
    → ((i : ℕ) → ItemFits (get_or items i zero_item)) → (i : ℕ) → ItemFits (get_or (merge_rows first rows items) i zero_row).item
unfolding merge_rows
merged_fit first [] items r h i = zero_fits
merged_fit first (row ∷ rows) [] r h i = r i
merged_fit first (row ∷ rows) (item ∷ items) r h zero = merge_fits first row item (r 0) (h 0)
merged_fit first (row ∷ rows) (item ∷ items) r h (suc i) = merged_fit first rows items (λ j. r (suc j)) (λ j. h (suc j)) i

-- ---- nodes

pub none_fits : (i : ℕ) → PeerFits (get_or no_peers i no_peer)
none_fits i = rw (get_or_same max_nodes i no_peer) (omega arith)

zeros_fit : (i : ℕ) → ItemFits (get_or zero_rows i zero_row).item
zeros_fit i = rw (get_or_same max_nodes i zero_row) zero_fits

pub blank_fits : (number n : ℕ) (i : Incarnation) → CounterFits i.0 → NodeFits (blank_node number n i)
unfolding blank_node row_of
blank_fits number n i h =
    record { incarnation_fits = h; attempt_fits = omega arith; items_fit = zeros_fit; counted_fit = none_fits; asked_fit = none_fits }

module _ (node : Node) (N : NodeFits node) where
  pub ended_fits : NodeFits (write_ended node)
  unfolding write_ended row_of
  ended_fits =
      record {
        incarnation_fits = N.incarnation_fits;
        attempt_fits = N.attempt_fits;
        items_fit = N.items_fit;
        counted_fit = none_fits;
        asked_fit = none_fits;
      }

  pub own_fits : ItemFits (own_item node)
  unfolding own_item
  own_fits = N.items_fit node.number

  pub storing_fits : (phase : Phase) (a : Attempt) (item : Item) → CounterFits a.0 → ItemFits item → NodeFits (storing_begun node phase a item)
  unfolding storing_begun row_of
  storing_fits phase a item h k =
      record {
        incarnation_fits = N.incarnation_fits;
        attempt_fits = h;
        items_fit = set_any (λ (r : Row). ItemFits r.item) node.rows node.number
            (stored_row item node.incarnation a) zero_row k N.items_fit;
        counted_fit = none_fits;
        asked_fit = none_fits;
      }

  -- the write that has begun is sent
  pub store_sent : (phase : Phase) (a : Attempt) (item : Item) → CounterFits a.0 → ItemFits item
      → StepFits node (send_store (storing_begun node phase a item))
  unfolding send_store ok own_item other_of attempt_of item_of storing_begun
  store_sent phase a item h k =
      let S : NodeFits (storing_begun node phase a item) = storing_fits phase a item h k in
      record {
        same_number = refl;
        same_size = refl;
        node_fits = S;
        sends_fit = record { other_fits = omega arith; attempt_fits = h; item_fits = S.items_fit node.number };
      }

  pub fetch_fits : MessageFits message.Fetch
  unfolding other_of attempt_of item_of
  fetch_fits = record { other_fits = omega arith; attempt_fits = omega arith; item_fits = zero_fits }

  pub by_refused : (why : Refusal) → StepFits node (refused node why)
  unfolding refused
  by_refused why = record { same_number = refl; same_size = refl; node_fits = N; sends_fit = tt }

  -- the node as it is, and an answer sent
  pub by_answer : (m : Message) → MessageFits m → StepFits node (ok node (sends.Back m))
  unfolding ok
  by_answer m h = record { same_number = refl; same_size = refl; node_fits = N; sends_fit = h }

-- nothing sent
pub by_quiet : (node after : Node) → after.number ≡ node.number → after.n ≡ node.n → NodeFits after → StepFits node (ok after sends.Nothing)
unfolding ok
by_quiet node after e e' h = record { same_number = e; same_size = e'; node_fits = h; sends_fit = tt }

by_fetch : (node after : Node) → after.number ≡ node.number → after.n ≡ node.n → NodeFits after → StepFits node (send_fetch after)
unfolding send_fetch ok
by_fetch node after e e' h = record { same_number = e; same_size = e'; node_fits = h; sends_fit = fetch_fits after h }

-- ---- Write, Retry, Crash, Start

module _ (node : Node) (N : NodeFits node) where
  pub write_fits : (tag : Tag) → tag.0 < 256 ^ tag_size → StepFits node (write_step node tag)
  unfolding write_step written next_item ItemFits
  write_fits tag h =
      by_cond (StepFits node) (is_up_idle node.phase) _ _
      (λ _. by_cond (StepFits node) (write_at_largest node) _ _
      (λ _. by_refused node N _)
      (λ _. store_sent node N _ (next_attempt node.attempt) (next_item (own_item node) tag)
      (attempt_rises node.attempt N.attempt_fits) (index_fits (own_item node).index (own_fits node N).0, h)))
      (λ _. by_refused node N _)

  pub retry_fits : StepFits node (retry_step node)
  unfolding retry_step retried
  retry_fits =
      by_cond (StepFits node) (nothing_to_retry node) _ _
      (λ _. by_refused node N _)
      (λ _. by_cond (StepFits node) (is_fetching node.phase) _ _
      (λ _. by_fetch node node refl refl N)
      (λ _. by_cond (StepFits node) (attempt_at_largest node.attempt) _ _
      (λ _. by_refused node N _)
      (λ _. store_sent node N _ (next_attempt node.attempt) (own_item node) (attempt_rises node.attempt N.attempt_fits) (own_fits node N))))

  pub crashed_fits : NodeFits (crashed node)
  unfolding crashed
  crashed_fits = blank_fits node.number node.n node.incarnation N.incarnation_fits

  pub crash_fits : StepFits node (crash_step node)
  unfolding crash_step crashed blank_node
  crash_fits =
      by_cond (StepFits node) (is_down node.phase) _ _
      (λ _. by_refused node N _)
      (λ _. by_quiet node (crashed node) refl refl crashed_fits)

  started_fits : NodeFits (started node)
  unfolding started row_of
  started_fits =
      record {
        incarnation_fits = incarnation_rises node.incarnation N.incarnation_fits;
        attempt_fits = omega arith;
        items_fit = zeros_fit;
        counted_fit = none_fits;
        asked_fit = none_fits;
      }

  pub start_fits : StepFits node (start_step node)
  unfolding start_step started
  start_fits =
      by_cond (StepFits node) (is_down node.phase) _ _
      (λ _. by_cond (StepFits node) (incarnation_at_largest node.incarnation) _ _
      (λ _. by_refused node N _)
      (λ _. by_fetch node (started node) refl refl started_fits))
      (λ _. by_refused node N _)
