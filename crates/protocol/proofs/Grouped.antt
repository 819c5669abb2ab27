-- What holds of the network in every run: n nodes, each at its place, and every message that was sent is from one node of the
-- group to another, with fifteen rows beside it.
use Prim.Native.Nat.{ℕ, zero, suc, ◌+◌, ◌<◌}
use native.Mathlib.Omega.{arith}
use native.Mathlib.Nat.{zero-add}
use mathlib.Core.Path.{◌≡◌, refl, sym, ap, subst, ◌∙◌}
use mathlib.Core.Logic.{◌≢◌, ◌⊎◌, inl, inr}
use mathlib.Core.Bool.{Bool, true, false}
use mathlib.Core.List.Memᴰ
use mathlib.Core.List.{◌++◌, Memᴰ}
use lib.Dec.{eqb}
use lib.ListN.{length, get_or, set, length-set}
use lib.Seq.{get_or-set_same, get_or-set_other}
use borrow.Author.Tests.{eqb-true, eqb-false}
use Rattle.item.specs.Maxima.{max_nodes}
use Rattle.item.proofs.Tests.{by_cond}
use Rattle.message.specs.declared.Message.{Message}
use Rattle.message.specs.declared.Message.TheVariants as message
use Rattle.item.specs.declared.counters.Incarnation.{Incarnation}
use Rattle.returns.proofs.ViewLaws.{clash}
use Rattle.protocol.specs.Network.{Packet, Network, packet_of, packets_of, network_after, Decides, writes, retries, crashes, starts, delivers, Next, host_refuses, node_refuses, drops, acts, fresh_network}
use Rattle.protocol.specs.Node.{fresh_node, peer_of, row_items}
use Rattle.protocol.specs.Outgoing.{message_to, outgoing}
use Rattle.protocol.specs.Call.{Call}
use Rattle.protocol.specs.Table.{no_node, node_at, fresh_nodes, fresh_table}
use Rattle.protocol.specs.declared.Event.{Event}
use Rattle.protocol.specs.declared.Node.{Node}
use Rattle.protocol.specs.declared.Sends.{Sends}
use Rattle.protocol.specs.declared.Sends.TheVariants as sends
use Rattle.protocol.specs.declared.Step.{Step}
use Rattle.protocol.proofs.InView.{Placed}
use Rattle.protocol.proofs.Packets.{each_packet, held_length}
use Rattle.protocol.proofs.Placed.{fresh_placed, BackToOther, PlacedStep, write_placed, retry_placed, crash_placed, start_placed, deliver_placed}
use Rattle.protocol.proofs.Sending.{outgoing_goes}
use Rattle.std.specs.Prelude.{Option, Some, None, is_some, option_map}
use Rattle.message.specs.declared.Envelope.{Envelope}

-- a packet from one node of a group of n to another
pub record Addressed (n : ℕ) (l : Packet) : Type 0 where
  pub sender_below : l.envelope.sender < n
  pub addressee_below : l.envelope.addressee < n
  pub from_other : l.envelope.sender ≢ l.envelope.addressee
  pub rows_length : length l.rows ≡ max_nodes

pub record Grouped (n : ℕ) (net : Network) : Type 0 where
  pub count : length net.nodes ≡ n
  pub placed : (k : ℕ) → k < n → Placed n k (node_at net.nodes k)
  pub addressed : (l : Packet) → Memᴰ l net.sent → Addressed n l

-- ---- what a node at its place sends

module _ (n k back : ℕ) (node : Node) (p : Placed n k node) where
  other_than_k : (s : Sends) → BackToOther k back s → (to : ℕ) (m : Message) → message_to s node back to ≡ Some m → to ≢ k
  unfolding message_to
  other_than_k sends.Nothing b to m = λ h. clash (cc)
  other_than_k (sends.Back w) b to m =
      by_cond (λ o. o ≡ Some m → to ≢ k) (eqb to back) _ _ (λ t h z. b (sym (eqb-true to back t) ∙ z)) (λ t h. clash (cc))
  other_than_k (sends.Others w) b to m =
      by_cond (λ o. o ≡ Some m → to ≢ k) (eqb to node.number) _ _
      (λ t h. clash (cc)) (λ t h z. eqb-false to node.number t (z ∙ sym p.has_number))
  other_than_k (sends.Asked a i) b to m = go (peer_of node.asked to) refl
    where
      go : (q : Option Incarnation) → peer_of node.asked to ≡ q → option_map (λ other. message.Confirm other a i) q ≡ Some m → to ≢ k
      go None e h = clash (cc)
      go (Some o) e h = (p.asks_others to (ap (λ (r : Option Incarnation). is_some r) e)).1

  sent_addressed : k < n → (s : Sends) → BackToOther k back s → (e : Envelope) → Memᴰ (Some e) (outgoing node s back)
      → Addressed n (packet_of node e)
  unfolding packet_of
  sent_addressed h s b e m =
      let g = outgoing_goes node s back e m in
      subst (λ (d : Envelope). Addressed n (packet_of node d)) (sym g.envelope)
      (record {
        sender_below = omega (arith, p.has_number);
        addressee_below = omega (arith, p.has_size, g.below);
        from_other = λ z. other_than_k s b g.to g.message g.sent (sym z ∙ p.has_number);
        rows_length = held_length _ node.n (row_items node);
      })

-- ---- one decision

module _ (n : ℕ) (net : Network) (G : Grouped n net) where
  -- the node that decides, its place and the place of what it decides
  pub deciding_place : {e : Event} {m : Option Envelope} {k back : ℕ} {step : Step} → Decides net e m k back step → (k < n) × PlacedStep n k back step
  deciding_place (writes k tag h) = let b : k < n = omega (arith, G.count) in (b, write_placed n k _ (G.placed k b) tag)
  deciding_place (retries k h) = let b : k < n = omega (arith, G.count) in (b, retry_placed n k _ (G.placed k b))
  deciding_place (crashes k h) = let b : k < n = omega (arith, G.count) in (b, crash_placed n k _ (G.placed k b))
  deciding_place (starts k h) = let b : k < n = omega (arith, G.count) in (b, start_placed n k _ (G.placed k b))
  deciding_place (delivers r p sent) =
      let A : Addressed n p = G.addressed p sent in
      let b : p.envelope.addressee < n = A.addressee_below in
      (b, deliver_placed n p.envelope.addressee _ (G.placed p.envelope.addressee b) p.envelope p.rows A.sender_below A.from_other)

  module _ (k back : ℕ) (step : Step) (b : k < n) (P : PlacedStep n k back step) where
    placed_after : (q : ℕ) → q < n → Placed n q (node_at (set net.nodes k step.node) q)
    unfolding node_at
    placed_after q h = go (eqb q k) refl
      where
        go : (t : Bool) → eqb q k ≡ t → Placed n q (get_or (set net.nodes k step.node) q no_node)
        go true e =
            let z : q ≡ k = eqb-true q k e in
            rw z (rw (get_or-set_same net.nodes k step.node no_node (omega (arith, G.count))) P.0)
        go false e = rw (get_or-set_other net.nodes k q step.node no_node (eqb-false q k e)) (G.placed q h)

    addressed_after : (l : Packet) → Memᴰ l (packets_of step.node (outgoing step.node step.sends back) ++ net.sent) → Addressed n l
    addressed_after l m = go (Memᴰ.append_cases (packets_of step.node (outgoing step.node step.sends back)) m)
      where
        go : Memᴰ l (packets_of step.node (outgoing step.node step.sends back)) ⊎ Memᴰ l net.sent → Addressed n l
        go (inl j) =
            each_packet step.node (Addressed n) (outgoing step.node step.sends back)
            (sent_addressed n k back step.node P.0 b step.sends P.1) l j
        go (inr j) = G.addressed l j

    carried_grouped : Grouped n (network_after net k back step)
    unfolding network_after
    carried_grouped =
        record { count = length-set net.nodes k step.node ∙ G.count; placed = placed_after; addressed = addressed_after }

  pub grouped_next : {call : Call} {net' : Network} → Next net call net' → Grouped n net'
  grouped_next (host_refuses e m why h) = G
  grouped_next (node_refuses d a) = G
  grouped_next (drops r) = G
  grouped_next (acts {k = k} {back = back} {step = step} d a) =
      let D : (k < n) × PlacedStep n k back step = deciding_place d in
      carried_grouped k back step D.0 D.1

-- ---- set-up

fresh_length : (n k left : ℕ) → length (fresh_nodes n k left) ≡ left
unfolding fresh_nodes
fresh_length n k zero = refl
fresh_length n k (suc left) = ap suc (fresh_length n (suc k) left)

fresh_at : (n k left j : ℕ) → j < left → get_or (fresh_nodes n k left) j no_node ≡ fresh_node (k + j) n
unfolding fresh_nodes
fresh_at n k zero j h = absurd (omega arith)
fresh_at n k (suc left) zero h = let z : k ≡ k + 0 = omega arith in ap (λ (i : ℕ). fresh_node i n) z
fresh_at n k (suc left) (suc j) h =
    let z : suc k + j ≡ k + suc j = omega arith in
    fresh_at n (suc k) left j (omega arith) ∙ ap (λ (i : ℕ). fresh_node i n) z

-- a node as set up is fresh, and where there is none it is blank
fresh_any : (P : Node → Type 0) (n : ℕ) → ((k : ℕ) → P (fresh_node k n)) → P no_node → (k left p : ℕ) → P (get_or (fresh_nodes n k left) p no_node)
unfolding fresh_nodes
fresh_any P n new old k zero p = old
fresh_any P n new old k (suc left) zero = new k
fresh_any P n new old k (suc left) (suc p) = fresh_any P n new old (suc k) left p

pub each_fresh : (P : Node → Type 0) (n : ℕ) → ((k : ℕ) → P (fresh_node k n)) → P no_node → (p : ℕ) → P (node_at (fresh_table n) p)
unfolding node_at fresh_table
each_fresh P n new old p = fresh_any P n new old 0 n p

pub set_up_grouped : (n : ℕ) → Grouped n (fresh_network n)
unfolding fresh_network fresh_table node_at
set_up_grouped n =
    record {
      count = fresh_length n 0 n;
      placed = λ k h. rw (fresh_at n 0 n k h ∙ ap (λ (i : ℕ). fresh_node i n) (zero-add k)) (fresh_placed n k);
      addressed = λ l m. absurd (Memᴰ.not-nil m);
    }
