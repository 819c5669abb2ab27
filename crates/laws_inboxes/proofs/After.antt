-- The laws: what the store holds after set-up and after each event that acts, and how many records are free.
use Prim.Native.Nat.{ℕ, ◌+◌, ◌-◌, ◌<◌}
use native.Mathlib.Omega.{arith}
use mathlib.Core.Path.{◌≡◌, refl, sym, ap, subst, ◌∙◌}
use mathlib.Core.Bool.{true, not, false≢true}
use mathlib.Core.List.{List, [], ◌++◌, append-nil}
use lib.Dec.{ltb}
use borrow.Author.Tests.{ltb-true, ltb-false}
use Rattle.store_laws.proofs.Empty.{set_up_done}
use Rattle.store_laws.specs.Lists.{held_on, free_list, inbox_list, times}
use Rattle.store_laws.proofs.Held.{records_counted as Counted-of}
use Rattle.store_laws.proofs.Message.{message_inbox}
use Rattle.store_laws.proofs.Sound.{Sound, store_sound}
use Rattle.item.proofs.Tests.{by_cond}
use Rattle.item.specs.declared.Item.{Item}
use Rattle.record.specs.Layout.{rows_of, held_rows}
use Rattle.record.specs.Record.{record_bytes}
use Rattle.store.specs.Change.{count_outgoing, drop_in, empty_records}
use Rattle.store.specs.Head.{group_size}
use Rattle.store.proofs.Joined.{records_count, records_joined}
use Rattle.store.proofs.Locality.{drop_local, length_empty, empty_sized}
use Rattle.store.specs.Records.{record_count, records_of, record_in, joined}
use Rattle.store.specs.Sound.{free_count, message_in}
use Rattle.operations.specs.Claim.{TagFits}
use Rattle.operations.specs.Operation.{Result, refuse, sent_by, carried_out, at_node, dropped, delivered, on_sound, set_up}
use Rattle.protocol.specs.Answer.{is_refused}
use Rattle.protocol.specs.Node.{row_items}
use Rattle.protocol.specs.Outgoing.{outgoing}
use Rattle.protocol.specs.Table.{node_at}
use Rattle.protocol.specs.Write.{write_step, retry_step, crash_step, start_step}
use Rattle.protocol.specs.declared.Event.{Event}
use Rattle.protocol.specs.declared.Event.TheVariants as event
use Rattle.protocol.specs.declared.Node.{Node}
use Rattle.protocol.specs.declared.Step.{Step}
use Rattle.operations.proofs.Inbox.{message_read}
use Rattle.operations.proofs.Represents.{store_after}
use Rattle.operations.proofs.Start.{SetUpTo, set_up_is}
use Rattle.laws_runs.specs.Laws.{SoundGroup}
use Rattle.laws_runs.proofs.Keeps.{Decided, group_store, group_records, store_of, all_for_group, all_read, records_are, write_decided, retry_decided, crash_decided, start_decided, deliver_decided, performed_is}
use Rattle.laws_enabled.specs.Acting.{acted}
use Rattle.laws_inboxes.specs.Inbox.{entries_in, inbox}
use Rattle.laws_inboxes.specs.Laws.{SetUpEmpties, HoldsAfter, HoldsAfterCall, RecordsCounted}
use Rattle.laws_inboxes.specs.Sent.{sent_for, sent_by_event, entries_to, kept, freed}
use Rattle.laws_inboxes.proofs.Entries.{EachPut, AllRead, each_put, drop_inbox, drop_free}
use Rattle.std.specs.Prelude.{None, Option, Some}
use Rattle.message.specs.declared.Envelope.{Envelope}

module _ (n : ℕ) (table : List Node) (store : List ℕ) (G : SoundGroup n table store) where
  -- ---- a decision carried out

  module _ (k back : ℕ) (step : Step) (D : Decided n table k back step) where
    reads : AllRead (group_size (records_of store)) (outgoing step.node step.sends back) (row_items step.node)
    reads e m =
        subst (λ (i : ℕ). rows_of (record_bytes i 0 e (row_items step.node)) ≡ held_rows e.message i (row_items step.node))
        (sym G.size) (all_read n table store G k back step D e m)

    carried : acted (carried_out table store (records_of store) k back step) ≡ true
        → EachPut (records_of store) (records_of (carried_out table store (records_of store) k back step).store)
        (outgoing step.node step.sends back) (row_items step.node)
    unfolding carried_out sent_by refuse acted
    carried =
        by_cond Put (is_refused step.answer) _ _
        (λ e z. absurd (false≢true (sym (ap not e) ∙ z)))
        (λ _. by_cond Put (ltb (free_count (records_of store)) (count_outgoing (outgoing step.node step.sends back))) _ _
        (λ _ z. absurd (false≢true z))
        (λ t _. subst (λ (rs : List (List ℕ)). EachPut (records_of store) rs (outgoing step.node step.sends back) (row_items step.node))
        (sym (records_are n table store G k back step D))
        (each_put (outgoing step.node step.sends back) (records_of store) (row_items step.node) (store_sound store (group_store n table store G))
        (all_for_group n table store G k back step D) reads
        (ltb-false (free_count (records_of store)) (count_outgoing (outgoing step.node step.sends back)) t))))
      where
        Put : Result → Type 0
        Put r = acted r ≡ true → EachPut (records_of store) (records_of r.store) (outgoing step.node step.sends back) (row_items step.node)

  at_node_lem : (f : Node → Step) (k : ℕ) → (k < n → Decided n table k k (f (node_at table k))) → acted (at_node f k table store (records_of store)) ≡ true
      → EachPut (records_of store) (records_of (at_node f k table store (records_of store)).store)
      (outgoing (f (node_at table k)).node (f (node_at table k)).sends k) (row_items (f (node_at table k)).node)
  unfolding at_node refuse acted
  at_node_lem f k d =
      by_cond
      (λ (r : Result). acted r ≡ true → EachPut (records_of store) (records_of r.store)
      (outgoing (f (node_at table k)).node (f (node_at table k)).sends k) (row_items (f (node_at table k)).node))
      (ltb k (group_size (records_of store))) _ _
      (λ e. carried k k (f (node_at table k)) (d (omega (arith, ltb-true k (group_size (records_of store)) e, G.size))))
      (λ _ z. absurd (false≢true z))

  delivers : (r : ℕ) (m : Option Envelope) → message_in (records_of store) r ≡ m → acted (delivered m r table store (records_of store)) ≡ true
      → EachPut (records_of store) (records_of (delivered m r table store (records_of store)).store)
      (sent_for m (rows_of (record_in (records_of store) r)) table).messages (sent_for m (rows_of (record_in (records_of store) r)) table).rows
  unfolding delivered refuse acted sent_for
  delivers r None h z = absurd (false≢true z)
  delivers r (Some e) h z = carried e.addressee e.sender _ (deliver_decided n table store G r e h) z

  -- ---- in a group of n

  inboxes_of : (rs' : List (List ℕ)) (os : List (Option Envelope)) (rows : List Item) → EachPut (records_of store) rs' os rows
      → (k : ℕ) → k < n → inbox rs' k ≡ inbox (records_of store) k ++ entries_to n k rows os (free_list (records_of store))
  inboxes_of rs' os rows E k low =
      E.inboxes k (omega (arith, G.size))
      ∙ ap (λ (i : ℕ). inbox (records_of store) k ++ entries_to i k rows os (free_list (records_of store))) G.size

  gone : (k r : ℕ) → k < group_size (records_of store) → 0 < times r (inbox_list (records_of store) k)
      → HoldsAfter n (event.Drop r) table (records_of store) (drop_in (records_of store) k r)
  unfolding kept freed sent_by_event entries_to count_outgoing
  gone k r low on =
      let g : Sound (records_of store) = store_sound store (group_store n table store G) in
      record {
        inboxes = λ j h. drop_inbox (records_of store) g k low r on j (omega (arith, G.size)) ∙ sym (append-nil _);
        free = drop_free (records_of store) g k low r on;
      }

  drops : (r : ℕ) (m : Option Envelope) → message_in (records_of store) r ≡ m → acted (dropped m r table store (records_of store)) ≡ true
      → HoldsAfter n (event.Drop r) table (records_of store) (records_of (dropped m r table store (records_of store)).store)
  unfolding dropped refuse acted
  drops r None h z = absurd (false≢true z)
  drops r (Some e) h z =
      let w = message_inbox (records_of store) (group_records n table store G) r e h in
      subst (HoldsAfter n (event.Drop r) table (records_of store))
      (sym (store_after n store _ (store_of n table store G) (drop_local (records_of store) e.addressee r (message_read (records_of store) r e h).0)).1)
      (gone e.addressee r w.0 w.1)

  on_sound_lem : (e : Event) → TagFits e → acted (on_sound e table store (records_of store)) ≡ true
      → HoldsAfter n e table (records_of store) (records_of (on_sound e table store (records_of store)).store)
  unfolding on_sound TagFits kept freed sent_by_event
  on_sound_lem (event.Write k tag) t z =
      let E = at_node_lem (λ node. write_step node tag) k (λ low. write_decided n table store G k low tag t) z in
      record { inboxes = inboxes_of _ _ _ E; free = E.free }
  on_sound_lem (event.Retry k) t z =
      let E = at_node_lem retry_step k (λ low. retry_decided n table store G k low) z in
      record { inboxes = inboxes_of _ _ _ E; free = E.free }
  on_sound_lem (event.Crash k) t z =
      let E = at_node_lem crash_step k (λ low. crash_decided n table store G k low) z in
      record { inboxes = inboxes_of _ _ _ E; free = E.free }
  on_sound_lem (event.Start k) t z =
      let E = at_node_lem start_step k (λ low. start_decided n table store G k low) z in
      record { inboxes = inboxes_of _ _ _ E; free = E.free }
  on_sound_lem (event.Drop r) t z = drops r (message_in (records_of store) r) refl z
  on_sound_lem (event.Deliver r) t z =
      let E = delivers r (message_in (records_of store) r) refl z in
      record { inboxes = inboxes_of _ _ _ E; free = E.free }

-- ---- the laws

pub holds_after_call : HoldsAfterCall
unfolding HoldsAfterCall
holds_after_call n table store G e t =
    subst (λ (r : Result). acted r ≡ true → HoldsAfter n e table (records_of store) (records_of r.store))
    (sym (performed_is n table store G e)) (on_sound_lem n table store G e t)

pub records_counted : RecordsCounted
unfolding RecordsCounted
records_counted n table store G =
    subst (λ (i : ℕ). free_count (records_of store) + held_on i (inbox_list (records_of store)) 0 ≡ record_count - 1) G.size
    (Counted-of (records_of store) (group_records n table store G) ∙ ap (λ (i : ℕ). i - 1) (records_count store))

empty_holds : (n : ℕ) (rs : List (List ℕ)) → ((k : ℕ) → k < n → inbox_list rs k ≡ []) → (k : ℕ) → k < n → inbox rs k ≡ []
unfolding inbox entries_in
empty_holds n rs h k low = rw (h k low)

pub set_up_empties : SetUpEmpties
unfolding SetUpEmpties
set_up_empties n table store ok =
    let U : SetUpTo n (set_up n table store) = set_up_is n table store ok in
    let e : records_of (joined (empty_records record_count n)) ≡ empty_records record_count n
    = records_joined (empty_records record_count n) (length_empty record_count n) (empty_sized record_count n) in
    let d = set_up_done n U.valid in
    rw (U.store_is, e) (record { inboxes = empty_holds n (empty_records record_count n) d.inboxes; free = d.free })
