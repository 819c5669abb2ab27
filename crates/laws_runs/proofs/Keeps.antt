-- Every operation keeps a sound table and store sound: a decision that is carried out puts into the store only messages for
-- the group, and leaves a sound node in its place.
use Prim.Native.Nat.{ℕ, ◌^◌, ◌≤◌, ◌<◌}
use native.Mathlib.Omega.{arith}
use native.Mathlib.Nat.{zero-add}
use mathlib.Core.Path.{◌≡◌, refl, sym, ap, subst, ◌∙◌}
use mathlib.Core.Logic.{◌≢◌}
use mathlib.Core.Bool.{true, false, false≢true}
use mathlib.Core.List.{List, Memᴰ}
use lib.Dec.{ltb}
use lib.ListN.{length, set, length-set}
use borrow.Author.Tests.{eq-eqb, ltb-true, ltb-false}
use Rattle.item.specs.Maxima.{max_nodes, tag_size, valid_size}
use Rattle.item.proofs.Tests.{by_cond, and_left, and_right, and_both}
use Rattle.item.specs.declared.Tag.{Tag}
use Rattle.record.specs.Layout.{rows_of, held_rows}
use Rattle.message.specs.declared.Envelope.{Envelope}
use Rattle.record.specs.Record.{read_record, record_bytes}
use Rattle.record.specs.RoundTrip.{Fits, RowsFit, ReadsBack}
use Rattle.record.proofs.RoundTripLaws.{reads_back}
use Rattle.store.specs.Change.{put_each, count_outgoing, drop_in}
use Rattle.store.specs.Head.{group_size}
use Rattle.store.proofs.Locality.{put_each_local, drop_local}
use Rattle.store.specs.Records.{right_length, records_of, joined, record_in}
use Rattle.store.specs.Sound.{sound_records, sound_store, free_count, message_in}
use Rattle.store_laws.proofs.Drop.{DropDone, drop_done}
use Rattle.store_laws.proofs.Message.{message_inbox}
use Rattle.store_laws.proofs.OnChains.{sound_valid}
use Rattle.store_laws.proofs.Put.{ForGroup}
use Rattle.store_laws.proofs.PutEach.{AllForGroup, put_each_done}
use Rattle.store_laws.proofs.Sound.{store_right, store_sound}
use Rattle.store_laws.proofs.Widths.{for_group}
use Rattle.operations.specs.Claim.{TagFits}
use Rattle.protocol.specs.Deliver.{deliver_step}
use Rattle.operations.specs.Operation.{refuse, sent_by, carried_out, at_node, dropped, delivered, on_sound, on_records, perform}
use Rattle.protocol.specs.Answer.{is_refused}
use Rattle.protocol.specs.Node.{row_items}
use Rattle.protocol.specs.Outgoing.{outgoing}
use Rattle.protocol.specs.Sound.{sound_node}
use Rattle.protocol.specs.Table.{no_node, node_at, sound_table}
use Rattle.protocol.specs.Shaped.{Shaped}
use Rattle.protocol.proofs.TableLaws.{table_count, every_sound, node_sound}
use Rattle.protocol.specs.Write.{write_step, retry_step, crash_step, start_step}
use Rattle.protocol.specs.declared.Answer.{Answer}
use Rattle.protocol.specs.declared.Event.{Event}
use Rattle.protocol.specs.declared.Event.TheVariants as event
use Rattle.protocol.specs.declared.Node.{Node}
use Rattle.protocol.specs.declared.Step.{Step}
use Rattle.operations.specs.Fits.{NodeFits}
use Rattle.operations.proofs.Fitting.{StepFits, set_any, write_fits, retry_fits, crash_fits, start_fits}
use Rattle.operations.proofs.FittingDelivery.{deliver_fits}
use Rattle.laws_runs.proofs.Inbox.{Addressed, in_inbox}
use Rattle.operations.proofs.Inbox.{message_read}
use Rattle.protocol.proofs.InView.{number_is, size_is, size_fits}
use Rattle.operations.proofs.Sent.{outgoing_fits, rows_fit, node_items_fit}
use Rattle.protocol.proofs.Shapes.{write_shaped, retry_shaped, crash_shaped, start_shaped, deliver_shaped}
use Rattle.operations.proofs.Represents.{StoreOf, store_after}
use Rattle.laws_node.specs.Decision.{Write, Retry, Crash, Start, Deliver, decide, Stands, Comes, MayCome}
use Rattle.laws_node.specs.Laws.{SoundStaysSound}
use Rattle.laws_node.proofs.Every.{every_set}
use Rattle.laws_node.proofs.Sound.{sound_stays_sound}
use Rattle.laws_runs.specs.Laws.{are_sound, SoundGroup, LeavesSound}
use Rattle.laws_runs.specs.Within.{Within}
use Rattle.laws_runs.proofs.Bytes.{put_each_bytes, drop_bytes, joined_bytes, records_bytes}
use Rattle.laws_runs.proofs.Going.{Going, going, is_back, write_not, retry_not, crash_not, start_not}
use Rattle.laws_runs.proofs.Messages.{Says, says}
use Rattle.std.specs.Prelude.{None, Option, Some}

-- ---- a sound table

module _ (n : ℕ) (table : List Node) (e : sound_table n table ≡ true) where
  node_set : (k : ℕ) (node : Node) → sound_node n k node ≡ true → sound_table n (set table k node) ≡ true
  unfolding sound_table
  node_set k node s =
      and_both (eq-eqb (length (set table k node)) n (simp length-set (table_count n table e)))
      (every_set (sound_node n) 0 table k node (every_sound n table e)
      (λ j d. subst (λ (i : ℕ). sound_node n i node ≡ true) (sym (d ∙ zero-add k)) s))

-- ---- a decision that may be carried out

-- the decision of node k of a sound group: it leaves a sound node, whose numbers fit as all that it sends does, and it answers
-- no one but another node
pub record Decided (n : ℕ) (table : List Node) (k back : ℕ) (step : Step) : Type 0 where
  pub low : k < n
  pub sound : sound_node n k step.node ≡ true
  pub shaped : Shaped step.node
  pub fits : StepFits (node_at table k) step
  pub other : is_back step.sends ≡ true → back ≢ k

-- ---- a sound group

module _ (n : ℕ) (table : List Node) (store : List ℕ) (G : SoundGroup n table store) where
  pub group_store : sound_store store ≡ true
  unfolding are_sound
  group_store = and_left (sound_store store) _ G.sound

  pub group_records : sound_records (records_of store) ≡ true
  unfolding sound_store
  group_records = and_right (right_length store) _ group_store

  pub group_table : sound_table n table ≡ true
  unfolding are_sound
  group_table = subst (λ (i : ℕ). sound_table i table ≡ true) G.size (and_right (sound_store store) _ G.sound)

  pub group_valid : valid_size n ≡ true
  group_valid = subst (λ (i : ℕ). valid_size i ≡ true) G.size (sound_valid (records_of store) group_records)

  pub store_of : StoreOf n store
  store_of = record { right = store_right store group_store; size = G.size }

  pub stands : (k : ℕ) → k < n → Stands n k (node_at table k)
  stands k h =
      record {
        valid = group_valid;
        below = h;
        sound = node_sound n table group_table k h;
        rows_length = (G.within.shaped k).rows_length;
        counted_length = (G.within.shaped k).counted_length;
      }

  -- other records, sound and of bytes, and another sound table
  module _ (rs' : List (List ℕ)) (A : StoreOf n (joined rs') × (records_of (joined rs') ≡ rs')) (sound : sound_records rs' ≡ true)
      (table' : List Node) (sound_table_lem : sound_table n table' ≡ true) (within : Within table' (joined rs')) where
    changed_sound : SoundGroup n table' (joined rs')
    unfolding are_sound sound_store
    changed_sound =
        record {
          size = A.0.size;
          sound = and_both (and_both A.0.right (ap sound_records A.1 ∙ sound))
              (subst (λ (i : ℕ). sound_table i table' ≡ true) (sym A.0.size) sound_table_lem);
          within = within;
        }

  -- the decision `step` of node k
  module _ (k back : ℕ) (step : Step) (D : Decided n table k back step) where
    number_low : step.node.number < 16
    number_low =
        let number : step.node.number ≡ k = number_is n k step.node D.sound in
        let most : n ≤ max_nodes = size_fits n group_valid in
        omega (arith, D.low)

    size_low : step.node.n ≤ 16
    size_low =
        let size : step.node.n ≡ n = size_is n k step.node D.sound in
        let most : n ≤ max_nodes = size_fits n group_valid in
        omega arith

    envelope_fits : (e : Envelope) → Memᴰ (Some e) (outgoing step.node step.sends back) → Fits e
    envelope_fits = outgoing_fits step.node back D.fits.node_fits number_low size_low step.sends D.fits.sends_fit

    items_fit_lem : RowsFit (row_items step.node)
    items_fit_lem = rows_fit (row_items step.node) (node_items_fit step.node D.fits.node_fits)

    -- what it sends may be put, and reads back with the rows beside it
    pub all_for_group : AllForGroup (group_size (records_of store)) (outgoing step.node step.sends back) (row_items step.node)
    unfolding AllForGroup
    all_for_group e m =
        let g : Going n k e = going n k back step.node D.sound step.sends D.other e m in
        subst (λ (i : ℕ). ForGroup i e (row_items step.node)) (sym G.size)
        (for_group n e (row_items step.node) (omega (arith, g.from_k, D.low)) g.to_group (λ z. g.to_other (sym g.from_k ∙ z))
        (envelope_fits e m) items_fit_lem)

    pub all_read : (e : Envelope) → Memᴰ (Some e) (outgoing step.node step.sends back)
        → rows_of (record_bytes n 0 e (row_items step.node)) ≡ held_rows e.message n (row_items step.node)
    unfolding ReadsBack
    all_read e m = (reads_back n 0 e (row_items step.node) (omega arith) (envelope_fits e m) items_fit_lem).1

    pub records_are : records_of (joined (put_each (records_of store) (outgoing step.node step.sends back) (row_items step.node)))
        ≡ put_each (records_of store) (outgoing step.node step.sends back) (row_items step.node)
    records_are =
        (store_after n store _ store_of (put_each_local (outgoing step.node step.sends back) (records_of store) (row_items step.node))).1

    accepted : (a : Answer) → count_outgoing (outgoing step.node step.sends back) ≤ free_count (records_of store)
        → LeavesSound n (record {
          answer = a;
          table = set table k step.node;
          store = joined (put_each (records_of store) (outgoing step.node step.sends back) (row_items step.node));
        })
    unfolding node_at
    accepted a room =
        changed_sound (put_each (records_of store) (outgoing step.node step.sends back) (row_items step.node))
        (store_after n store _ store_of (put_each_local (outgoing step.node step.sends back) (records_of store) (row_items step.node)))
        (put_each_done (outgoing step.node step.sends back) (records_of store) (row_items step.node) (store_sound store group_store) all_for_group room
        ).sound.is_sound
        (set table k step.node) (node_set n table group_table k step.node D.sound)
        (record {
          shaped = set_any Shaped table k step.node no_node D.shaped G.within.shaped;
          fit = set_any NodeFits table k step.node no_node D.fits.node_fits G.within.fit;
          bytes = joined_bytes _ (put_each_bytes (outgoing step.node step.sends back) (records_of store) (row_items step.node) (records_bytes store G.within.bytes));
        })

    carried : LeavesSound n (carried_out table store (records_of store) k back step)
    unfolding carried_out sent_by refuse
    carried =
        by_cond (LeavesSound n) (is_refused step.answer) _ _
        (λ _. G)
        (λ _. by_cond (LeavesSound n) (ltb (free_count (records_of store)) (count_outgoing (outgoing step.node step.sends back))) _ _
        (λ _. G)
        (λ e. accepted step.answer
        (ltb-false (free_count (records_of store)) (count_outgoing (outgoing step.node step.sends back)) e)))

  -- the four calls
  module _ (k : ℕ) (low : k < n) where
    call_decided : (f : Node → Step) → sound_node n k (f (node_at table k)).node ≡ true → ((node : Node) → Shaped node → Shaped (f node).node)
        → ((node : Node) → NodeFits node → StepFits node (f node)) → ((node : Node) → is_back (f node).sends ≡ false)
        → Decided n table k k (f (node_at table k))
    call_decided f sound shape fit quiet =
        record {
          low = low;
          sound = sound;
          shaped = shape (node_at table k) (G.within.shaped k);
          fits = fit (node_at table k) (G.within.fit k);
          other = λ z. absurd (false≢true (sym (quiet (node_at table k)) ∙ z));
        }

    pub write_decided : (tag : Tag) → tag.0 < 256 ^ tag_size → Decided n table k k (write_step (node_at table k) tag)
    unfolding SoundStaysSound MayCome decide
    write_decided tag t =
        call_decided (λ node. write_step node tag) (sound_stays_sound n k (Write tag) (node_at table k) (stands k low) tt)
        (λ node s. write_shaped node tag s) (λ node f. write_fits node f tag t) (λ node. write_not node tag)

    pub retry_decided : Decided n table k k (retry_step (node_at table k))
    unfolding SoundStaysSound MayCome decide
    retry_decided = call_decided retry_step (sound_stays_sound n k Retry (node_at table k) (stands k low) tt) retry_shaped retry_fits retry_not

    pub crash_decided : Decided n table k k (crash_step (node_at table k))
    unfolding SoundStaysSound MayCome decide
    crash_decided = call_decided crash_step (sound_stays_sound n k Crash (node_at table k) (stands k low) tt) crash_shaped crash_fits crash_not

    pub start_decided : Decided n table k k (start_step (node_at table k))
    unfolding SoundStaysSound MayCome decide
    start_decided = call_decided start_step (sound_stays_sound n k Start (node_at table k) (stands k low) tt) start_shaped start_fits start_not

  at_node_lem : (f : Node → Step) (k : ℕ) → (k < n → Decided n table k k (f (node_at table k))) → LeavesSound n (at_node f k table store (records_of store))
  unfolding at_node refuse
  at_node_lem f k d =
      by_cond (LeavesSound n) (ltb k (group_size (records_of store))) _ _
      (λ e. carried k k (f (node_at table k)) (d (omega (arith, ltb-true k (group_size (records_of store)) e, G.size))))
      (λ _. G)

  drops : (r : ℕ) (m : Option Envelope) → message_in (records_of store) r ≡ m → LeavesSound n (dropped m r table store (records_of store))
  unfolding dropped refuse
  drops r None h = G
  drops r (Some e) h =
      let w = message_inbox (records_of store) group_records r e h in
      let d : DropDone (records_of store) e.addressee r = drop_done (records_of store) (store_sound store group_store) e.addressee w.0 r w.1 in
      changed_sound (drop_in (records_of store) e.addressee r)
      (store_after n store _ store_of (drop_local (records_of store) e.addressee r (message_read (records_of store) r e h).0))
      d.sound.is_sound table group_table
      (record {
        shaped = G.within.shaped;
        fit = G.within.fit;
        bytes = joined_bytes _ (drop_bytes (records_of store) e.addressee r (records_bytes store G.within.bytes));
      })

  -- the message in a record may come to its addressee
  module _ (r : ℕ) (e : Envelope) (h : message_in (records_of store) r ≡ Some e) where
    pub addressed : Addressed n e
    addressed = subst (λ (i : ℕ). Addressed i e) G.size (in_inbox (records_of store) r e group_records h)

    pub said : Says n e (rows_of (record_in (records_of store) r))
    said =
        says n (record_in (records_of store) r) (records_bytes store G.within.bytes r) e
        (subst (λ (i : ℕ). read_record i (record_in (records_of store) r) ≡ Some e) G.size (message_read (records_of store) r e h).1)

    pub comes : Comes n e.addressee e (rows_of (record_in (records_of store) r))
    comes =
        record {
          sender_below = addressed.sender_below;
          from_other = addressed.from_other;
          items_length = said.items_length;
          items_zero = said.items_zero;
        }

    pub delivered_sound : sound_node n e.addressee (deliver_step (node_at table e.addressee) e (rows_of (record_in (records_of store) r))).node ≡ true
    unfolding SoundStaysSound MayCome decide
    delivered_sound =
        sound_stays_sound n e.addressee (Deliver e (rows_of (record_in (records_of store) r))) (node_at table e.addressee)
        (stands e.addressee addressed.addressee_below) comes

    pub deliver_decided : Decided n table e.addressee e.sender (deliver_step (node_at table e.addressee) e (rows_of (record_in (records_of store) r)))
    deliver_decided =
        record {
          low = addressed.addressee_below;
          sound = delivered_sound;
          shaped = deliver_shaped (node_at table e.addressee) e _ (G.within.shaped e.addressee);
          fits = deliver_fits (node_at table e.addressee) e _ (G.within.fit e.addressee) said.incarnation_fits said.items_fit said.message_fits;
          other = λ _. addressed.from_other;
        }

  delivers : (r : ℕ) (m : Option Envelope) → message_in (records_of store) r ≡ m → LeavesSound n (delivered m r table store (records_of store))
  unfolding delivered refuse
  delivers r None h = G
  delivers r (Some e) h = carried e.addressee e.sender _ (deliver_decided r e h)

  on_sound_lem : (e : Event) → TagFits e → LeavesSound n (on_sound e table store (records_of store))
  unfolding on_sound TagFits
  on_sound_lem (event.Write k tag) t = at_node_lem (λ node. write_step node tag) k (λ low. write_decided k low tag t)
  on_sound_lem (event.Retry k) t = at_node_lem retry_step k (λ low. retry_decided k low)
  on_sound_lem (event.Crash k) t = at_node_lem crash_step k (λ low. crash_decided k low)
  on_sound_lem (event.Start k) t = at_node_lem start_step k (λ low. start_decided k low)
  on_sound_lem (event.Drop r) t = drops r (message_in (records_of store) r) refl
  on_sound_lem (event.Deliver r) t = delivers r (message_in (records_of store) r) refl

  -- on a sound group it is the event alone that decides
  pub performed_is : (e : Event) → perform e table store ≡ on_sound e table store (records_of store)
  unfolding perform on_records
  performed_is e = rw (store_right store group_store, group_records, G.size, group_table)

  pub performs : (e : Event) → TagFits e → LeavesSound n (perform e table store)
  performs e t = subst (LeavesSound n) (sym (performed_is e)) (on_sound_lem e t)
