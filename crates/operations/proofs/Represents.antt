-- Table and store represent a network: its nodes are the table's, and every record that reads as a message was sent. A decision
-- that is carried out keeps this: a record that reads as a message afterwards did so before, or its message was just sent.
use Prim.Native.Nat.{ℕ, ◌<◌, ◌≤◌}
use native.Mathlib.Omega.{arith}
use mathlib.Core.Path.{◌≡◌, refl, sym, ap, subst, ◌∙◌}
use mathlib.Core.Logic.{◌≢◌, ◌⊎◌, inl, inr}
use mathlib.Core.Bool.{true, false}
use mathlib.Core.List.Memᴰ
use mathlib.Core.List.{List, ◌++◌, Memᴰ}
use lib.Dec.{ltb}
use lib.ListN.{length, get_or, set}
use Rattle.item.specs.Item.{zero_item}
use Rattle.item.specs.Maxima.{max_nodes}
use Rattle.item.proofs.Tests.{by_cond}
use Rattle.item.specs.declared.Item.{Item}
use Rattle.message.specs.declared.Envelope.{Envelope}
use Rattle.record.specs.Layout.{record_size, rows_of}
use Rattle.message.specs.Rows.{held_rows}
use Rattle.record.specs.Record.{read_record, record_bytes}
use Rattle.record.specs.RoundTrip.{ItemFits, Fits, ReadsBack}
use Rattle.record.proofs.RoundTripLaws.{reads_back}
use Rattle.store.specs.Change.{put_each, count_outgoing}
use Rattle.store.specs.Head.{group_size}
use Rattle.store.proofs.Joined.{Sized, records_count, records_sized, records_joined, joined_right}
use Rattle.store.proofs.Locality.{Local, Reads, ReadsOne, put_each_local, put_each_reads}
use Rattle.store.specs.Records.{record_count, right_length, records_of, joined, record_in}
use Rattle.store.specs.Sound.{free_count}
use Rattle.protocol.specs.Network.{Packet, Network, packet_of, packets_of, network_after, Decides, Next, host_refuses, node_refuses, acts}
use Rattle.operations.specs.Operation.{Result, refuse, sent_by, carried_out}
use Rattle.protocol.specs.Answer.{is_refused, by_decision}
use Rattle.protocol.specs.Node.{row_items}
use Rattle.protocol.specs.Outgoing.{outgoing}
use Rattle.protocol.specs.Table.{no_node, node_at}
use Rattle.protocol.specs.declared.Event.{Event}
use Rattle.protocol.specs.declared.Node.{Node}
use Rattle.protocol.specs.declared.Refusal.{Refusal}
use Rattle.protocol.specs.declared.Refusal.TheVariants.{NoRoom}
use Rattle.protocol.specs.declared.Step.{Step}
use Rattle.operations.specs.Fits.{CounterFits, NodeFits}
use Rattle.operations.proofs.Fitting.{MessageFits, StepFits, set_any}
use Rattle.protocol.proofs.Grouped.{Grouped, deciding_place}
use Rattle.protocol.proofs.InView.{Placed}
use Rattle.protocol.proofs.Packets.{has_packet}
use Rattle.operations.proofs.Sent.{outgoing_fits, message_fits_of, rows_fit, node_items_fit, held_fit}
use Rattle.std.specs.Prelude.{Option, Some}

-- a message with the items beside it: its numbers fit, and it was sent
pub record WasSent (sent : List Packet) (e : Envelope) (items : List Item) : Type 0 where
  pub fits : MessageFits e.message × CounterFits e.incarnation.0
  pub items_fit : (j : ℕ) → ItemFits (get_or items j zero_item)
  pub was_sent : Memᴰ (record { envelope = e; rows = items }) sent

-- every record but the head that reads as a message was sent
abbrev pub AllSent : ℕ → List Packet → List (List ℕ) → Type 0
AllSent n sent rs = (r : ℕ) → r ≢ 0 → (e : Envelope) → read_record n (record_in rs r) ≡ Some e → WasSent sent e (rows_of (record_in rs r))

-- a store of a group of n
pub record StoreOf (n : ℕ) (store : List ℕ) : Type 0 where
  pub right : right_length store ≡ true
  pub size : group_size (records_of store) ≡ n

-- table and store are those of a network in which all this was sent
pub record Represents (n : ℕ) (table : List Node) (store : List ℕ) (sent : List Packet) : Type 0 where
  pub store_of : StoreOf n store
  pub fit : (p : ℕ) → NodeFits (node_at table p)
  pub all_sent : AllSent n sent (records_of store)

abbrev pub network_of : List Node → List Packet → Network
network_of table sent = record { nodes = table; sent = sent }

-- a change of the records that keeps n, their number and their sizes
pub store_after : {New : List ℕ → Type 0} (n : ℕ) (store : List ℕ) (rs : List (List ℕ)) → StoreOf n store → Local New (records_of store) rs
    → StoreOf n (joined rs) × (records_of (joined rs) ≡ rs)
store_after n store rs S L =
    let many : length rs ≡ record_count = L.count ∙ records_count store in
    let sized : Sized record_size rs = L.sized (records_sized store S.right) in
    let e : records_of (joined rs) ≡ rs = records_joined rs many sized in
    (record { right = joined_right rs many sized; size = ap group_size e ∙ L.size ∙ S.size }, e)

-- a call over table and store is a call of the network, which table and store afterwards represent again
pub record Simulated (n : ℕ) (table : List Node) (sent : List Packet) (e : Event) (m : Option Envelope) (result : Result) : Type 0 where
  pub sent_after : List Packet
  pub next : Next (network_of table sent) (record { event = e; answer = result.answer; message = m }) (network_of result.table sent_after)
  pub represents : Represents n result.table result.store sent_after

module _ (n : ℕ) (table : List Node) (store : List ℕ) (sent : List Packet) (G : Grouped n (network_of table sent)) (S : Represents n table store sent)
    (event : Event) (m : Option Envelope) where
  -- a call that table or store refuse
  pub refused_call : (why : Refusal) → by_decision why ≡ false → Simulated n table sent event m (refuse why table store)
  unfolding refuse
  refused_call why h = record { sent_after = sent; next = host_refuses event m why h; represents = S }

  -- the decision `step` of node k
  module _ (fits : n ≤ max_nodes) (k back : ℕ) (step : Step) (d : Decides (network_of table sent) event m k back step)
      (F : StepFits (node_at table k) step) where
    at_place : (k < n) × Placed n k step.node
    at_place = let D = deciding_place n (network_of table sent) G d in (D.0, D.1.0)

    out : List (Option Envelope)
    out = outgoing step.node step.sends back

    rows : List Item
    rows = row_items step.node

    sent' : List Packet
    sent' = packets_of step.node out ++ sent

    -- a record that holds a message just sent
    new_sent : (r : List ℕ) (e : Envelope) → ReadsOne n out rows r → read_record n r ≡ Some e → WasSent sent' e (rows_of r)
    unfolding sent' rows out ReadsBack packet_of
    new_sent r e O h =
        subst (λ (c : Envelope). WasSent sent' c (rows_of r)) (sym same_envelope) (rw (O.reads.rows ∙ back_read.1) carried)
      where
        c : Envelope
        c = O.envelope

        c_fits : Fits c
        c_fits =
            outgoing_fits step.node back F.node_fits
            (omega (arith, at_place.0, at_place.1.has_number)) (omega (arith, at_place.1.has_size))
            step.sends F.sends_fit O.envelope O.among

        back_read : (read_record n (record_bytes n 0 c rows) ≡ Some c) × (rows_of (record_bytes n 0 c rows) ≡ held_rows c.message n rows)
        back_read =
            let R = reads_back n 0 c rows (omega arith) c_fits (rows_fit rows (node_items_fit step.node F.node_fits)) in
            (R.0, R.1)

        same_envelope : e ≡ c
        same_envelope = let z : Some e ≡ Some c = sym h ∙ O.reads.message n ∙ back_read.0 in cc

        carried : WasSent sent' c (held_rows c.message n rows)
        carried =
            record {
              fits = message_fits_of c c_fits;
              items_fit = held_fit c.message n rows (node_items_fit step.node F.node_fits);
              was_sent = subst (λ (i : ℕ). Memᴰ (record { envelope = c; rows = held_rows c.message i rows }) sent') at_place.1.has_size
                  (Memᴰ.append_left sent (has_packet step.node out O.envelope O.among));
            }

    sent_after_puts : AllSent n sent' (put_each (records_of store) out rows)
    unfolding sent' rows out
    sent_after_puts r d e h = go (put_each_reads (records_of store) out rows r d)
      where
        rs' : List (List ℕ)
        rs' = put_each (records_of store) out rows

        old : List ℕ
        old = record_in (records_of store) r

        go : Reads (record_in rs' r) old ⊎ ReadsOne (group_size (records_of store)) out rows (record_in rs' r) → WasSent sent' e (rows_of (record_in rs' r))
        go (inl R) =
            let C : WasSent sent e (rows_of old) = S.all_sent r d e (sym (R.message n) ∙ h) in
            rw R.rows (record { fits = C.fits; items_fit = C.items_fit; was_sent = Memᴰ.append_right (packets_of step.node out) C.was_sent })
        go (inr O) = new_sent (record_in rs' r) e (subst (λ (k : ℕ). ReadsOne k out rows (record_in rs' r)) S.store_of.size O) h

    accepted : is_refused step.answer ≡ false → Simulated n table sent event m
        (record {
          answer = step.answer;
          table = set table k step.node;
          store = joined (put_each (records_of store) (outgoing step.node step.sends back) (row_items step.node));
        })
    unfolding sent' rows out node_at network_after
    accepted a =
        let rs' : List (List ℕ) = put_each (records_of store) out rows in
        let A = store_after n store rs' S.store_of (put_each_local out (records_of store) rows) in
        record {
          sent_after = sent';
          next = acts d a;
          represents = record {
            store_of = A.0;
            fit = set_any NodeFits table k step.node no_node F.node_fits S.fit;
            all_sent = subst (AllSent n sent') (sym A.1) sent_after_puts;
          };
        }

    -- carried out: refused, without room, or accepted
    pub carried : Simulated n table sent event m (carried_out table store (records_of store) k back step)
    unfolding carried_out sent_by by_decision
    carried =
        by_cond (Simulated n table sent event m) (is_refused step.answer) _ _
        (λ e. record { sent_after = sent; next = node_refuses d e; represents = S })
        (λ e. by_cond (Simulated n table sent event m) (ltb (free_count (records_of store)) (count_outgoing (outgoing step.node step.sends back))) _ _
        (λ _. refused_call NoRoom refl)
        (λ _. accepted e))
