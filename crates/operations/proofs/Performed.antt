-- Every call over table and store, refused or accepted, is a call of the network: with the same event, answer and message.
use Prim.Native.Nat.{ℕ, ◌<◌, ◌≤◌}
use native.Mathlib.Omega.{arith}
use mathlib.Core.Path.{◌≡◌, refl, sym, subst, ◌∙◌}
use mathlib.Core.Logic.{◌≢◌, ◌⊎◌, inl, inr}
use mathlib.Core.Bool.{◌&&◌}
use mathlib.Core.List.{List}
use lib.Dec.{ltb}
use lib.ListN.{length}
use borrow.Author.Tests.{ltb-true}
use Rattle.item.specs.Maxima.{max_nodes}
use Rattle.item.proofs.Tests.{by_cond}
use Rattle.item.specs.declared.Item.{Item}
use Rattle.record.specs.Layout.{rows_of}
use Rattle.record.specs.Record.{read_record}
use Rattle.store.specs.Change.{drop_in}
use Rattle.store.specs.Head.{group_size}
use Rattle.store.proofs.Locality.{Reads, drop_local, drop_reads}
use Rattle.store.specs.Records.{right_length, records_of, joined, record_in}
use Rattle.store.specs.Sound.{sound_records, message_in}
use Rattle.operations.specs.Claim.{TagFits}
use Rattle.protocol.specs.Answer.{by_decision}
use Rattle.protocol.specs.Deliver.{deliver_step}
use Rattle.protocol.specs.Network.{Packet, Decides, writes, retries, crashes, starts, delivers, drops}
use Rattle.operations.specs.Operation.{perform, at_node, dropped, delivered, on_sound, on_records}
use Rattle.operations.specs.Run.{delivered_by}
use Rattle.protocol.specs.Table.{node_at, sound_table}
use Rattle.protocol.specs.Write.{write_step, retry_step, crash_step, start_step}
use Rattle.protocol.specs.declared.Event.{Event}
use Rattle.protocol.specs.declared.Event.TheVariants as event
use Rattle.protocol.specs.declared.Node.{Node}
use Rattle.protocol.specs.declared.Refusal.TheVariants.{StoreLength, Unsound, NoNode, NoMessage}
use Rattle.protocol.specs.declared.Step.{Step}
use Rattle.operations.specs.Fits.{NodeFits}
use Rattle.operations.proofs.Fitting.{StepFits, write_fits, retry_fits, crash_fits, start_fits}
use Rattle.operations.proofs.FittingDelivery.{deliver_fits}
use Rattle.protocol.proofs.Grouped.{Grouped}
use Rattle.operations.proofs.Inbox.{message_read, no_fault}
use Rattle.operations.proofs.Represents.{WasSent, AllSent, StoreOf, Represents, Simulated, network_of, store_after, refused_call, carried}
use Rattle.std.specs.Prelude.{None, Option, Some}
use Rattle.message.specs.declared.Envelope.{Envelope}

module _ (n : ℕ) (fits : n ≤ max_nodes) (table : List Node) (store : List ℕ) (sent : List Packet) (G : Grouped n (network_of table sent))
    (S : Represents n table store sent) where
  -- an event at a node that the call names
  at_node_lem : (e : Event) (decide : Node → Step) (k : ℕ) → (k < length table → Decides (network_of table sent) e None k k (decide (node_at table k)))
      → ((node : Node) → NodeFits node → StepFits node (decide node)) → Simulated n table sent e None (at_node decide k table store (records_of store))
  unfolding at_node by_decision
  at_node_lem e decide k d fit =
      by_cond (Simulated n table sent e None) (ltb k (group_size (records_of store))) _ _
      (λ t.
      let h : k < length table = omega (arith, ltb-true k (group_size (records_of store)) t, S.store_of.size, G.count) in
      carried n table store sent G S e None fits k k (decide (node_at table k)) (d h) (fit (node_at table k) (S.fit k)))
      (λ _. refused_call n table store sent G S e None NoNode refl)

  -- a message dropped: it was sent all the same
  drops_one : (r : ℕ) (m : Option Envelope) → message_in (records_of store) r ≡ m → Simulated n table sent (event.Drop r) None (dropped m r table store (records_of store))
  unfolding dropped by_decision
  drops_one r None h = refused_call n table store sent G S (event.Drop r) None NoMessage refl
  drops_one r (Some e) h =
      record {
        sent_after = sent;
        next = drops r;
        represents = record { store_of = A.0; fit = S.fit; all_sent = subst (AllSent n sent) (sym A.1) all_sent };
      }
    where
      d : r ≢ 0
      d = (message_read (records_of store) r e h).0

      rs' : List (List ℕ)
      rs' = drop_in (records_of store) e.addressee r

      A : StoreOf n (joined rs') × (records_of (joined rs') ≡ rs')
      A = store_after n store rs' S.store_of (drop_local (records_of store) e.addressee r d)

      all_sent : AllSent n sent rs'
      all_sent i z c found = go (drop_reads (records_of store) e.addressee r d i z)
        where
          go : Reads (record_in rs' i) (record_in (records_of store) i) ⊎ ((k : ℕ) → read_record k (record_in rs' i) ≡ None)
              → WasSent sent c (rows_of (record_in rs' i))
          go (inl R) = rw R.rows (S.all_sent i z c (sym (R.message n) ∙ found))
          go (inr none) = absurd (no_fault c _ found (none n))

  -- a message delivered
  delivers_one : (r : ℕ) (m : Option Envelope) → message_in (records_of store) r ≡ m
      → Simulated n table sent (event.Deliver r) m (delivered m r table store (records_of store))
  unfolding delivered by_decision
  delivers_one r None h = refused_call n table store sent G S (event.Deliver r) None NoMessage refl
  delivers_one r (Some e) h =
      let items : List Item = rows_of (record_in (records_of store) r) in
      let C : WasSent sent e items =
      S.all_sent r (message_read (records_of store) r e h).0 e
      (subst (λ (i : ℕ). read_record i (record_in (records_of store) r) ≡ Some e) S.store_of.size (message_read (records_of store) r e h).1) in
      carried n table store sent G S (event.Deliver r) (Some e) fits e.addressee e.sender (deliver_step (node_at table e.addressee) e items)
      (delivers r (record { envelope = e; rows = items }) C.was_sent)
      (deliver_fits (node_at table e.addressee) e items (S.fit e.addressee) C.fits.1 C.items_fit C.fits.0)

  on_sound_lem : (e : Event) → TagFits e → Simulated n table sent e (delivered_by e store) (on_sound e table store (records_of store))
  unfolding on_sound delivered_by TagFits
  on_sound_lem (event.Write k tag) t = at_node_lem (event.Write k tag) (λ node. write_step node tag) k (writes k tag) (λ node N. write_fits node N tag t)
  on_sound_lem (event.Retry k) t = at_node_lem (event.Retry k) retry_step k (retries k) retry_fits
  on_sound_lem (event.Crash k) t = at_node_lem (event.Crash k) crash_step k (crashes k) crash_fits
  on_sound_lem (event.Start k) t = at_node_lem (event.Start k) start_step k (starts k) start_fits
  on_sound_lem (event.Drop r) t = drops_one r (message_in (records_of store) r) refl
  on_sound_lem (event.Deliver r) t = delivers_one r (message_in (records_of store) r) refl

  -- every call
  pub performed : (e : Event) → TagFits e → Simulated n table sent e (delivered_by e store) (perform e table store)
  unfolding perform on_records by_decision
  performed e t =
      let rs : List (List ℕ) = records_of store in
      by_cond (Simulated n table sent e (delivered_by e store)) (right_length store) _ _
      (λ _. by_cond (Simulated n table sent e (delivered_by e store)) (sound_records rs && sound_table (group_size rs) table) _ _
      (λ _. on_sound_lem e t)
      (λ _. refused_call n table store sent G S e (delivered_by e store) Unsound refl))
      (λ _. refused_call n table store sent G S e (delivered_by e store) StoreLength refl)
