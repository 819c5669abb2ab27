-- The network as one fixed node x sees it. In this view a call is a step of the relation, or none, and it tells its note.
use Prim.Native.Nat.{ℕ, suc, ◌+◌, ◌<◌, ◌≤◌}
use native.Mathlib.Omega.{arith}
use mathlib.Core.Path.{◌≡◌, refl, sym, ap, subst}
use mathlib.Core.Bool.{false}
use mathlib.Core.List.{List}
use lib.ListN.{set}
use lib.Seq.{get_or-set_same, get_or-set_other}
use Rattle.item.specs.Maxima.{max_nodes}
use Rattle.returns.specs.Change.{Change, MaySend, same}
use Rattle.returns.specs.Change as relation
use Rattle.returns.specs.History.{Note, quiet}
use Rattle.returns.specs.View.{ViewNode, ViewMessage, View, Each}
use Rattle.returns.proofs.ChangeLaws.{did_at}
use Rattle.protocol.specs.Network.{Packet, Network, packets_of, network_after, Decides, writes, retries, crashes, starts, delivers, Next, host_refuses, node_refuses, drops, acts}
use Rattle.protocol.specs.Answer.{is_refused}
use Rattle.protocol.specs.Outgoing.{outgoing}
use Rattle.protocol.specs.Call.{Call, is_ok}
use Rattle.protocol.specs.Table.{no_node, node_at}
use Rattle.protocol.specs.Write.{write_step}
use Rattle.protocol.specs.declared.Answer.{Answer}
use Rattle.protocol.specs.declared.Answer.TheVariants as answer
use Rattle.protocol.specs.declared.Event.{Event}
use Rattle.protocol.specs.declared.Event.TheVariants as event
use Rattle.protocol.specs.declared.Node.{Node}
use Rattle.protocol.specs.declared.Step.{Step}
use Rattle.protocol.proofs.Calls.{write_answers_ok, write_tied, retry_tied, crash_tied, start_tied}
use Rattle.protocol.proofs.Delivery.{deliver_tied}
use Rattle.protocol.proofs.Grouped.{Addressed, Grouped, deciding_place}
use Rattle.protocol.proofs.InView.{InView, Placed}
use Rattle.protocol.proofs.Packets.{seen_packets, append_seen, packet_seen, each_sent}
use Rattle.protocol.proofs.Placed.{PlacedStep}
use Rattle.protocol.proofs.Seen.{seen, Tied}
use Rattle.protocol.proofs.Told.{told, told_by, told_refused}
use Rattle.std.specs.Prelude.{None, Option}
use Rattle.message.specs.declared.Envelope.{Envelope}

abbrev pub shown : ℕ → Network → View
shown x net = record { node = λ p. seen x (node_at net.nodes p); sent = seen_packets x net.sent }

module _ (f n x : ℕ) (odd : n ≡ suc (f + f)) (fits : n ≤ max_nodes) (x_below : x < n) (net : Network) (G : Grouped n net) where
  in_view : (k : ℕ) → k < n → InView f n x k (shown x net) (node_at net.nodes k)
  in_view k h = record { size = odd; fits = fits; x_below = x_below; k_below = h; placed = G.placed k h; view = refl }

  -- every decision is one that the relation allows
  decision_tied : {e : Event} {m : Option Envelope} {k back : ℕ} {step : Step} → Decides net e m k back step → is_refused step.answer ≡ false
      → Tied f x (shown x net) (told x e m step.answer) k back step
  unfolding is_ok
  decision_tied (writes k tag h) a =
      let node : Node = node_at net.nodes k in
      subst (λ (b : Answer). Tied f x (shown x net) (told x (event.Write k tag) None b) k k (write_step node tag))
      (sym (write_answers_ok node tag a)) (write_tied tag (in_view k (omega (arith, G.count))) a)
  decision_tied (retries k h) a = retry_tied (in_view k (omega (arith, G.count))) a
  decision_tied (crashes k h) a = crash_tied (in_view k (omega (arith, G.count))) a
  decision_tied (starts k h) a = start_tied (in_view k (omega (arith, G.count))) a
  decision_tied (delivers r p sent) a =
      let A : Addressed n p = G.addressed p sent in
      deliver_tied p.envelope p.rows (in_view p.envelope.addressee A.addressee_below)
      (record {
        to_k = refl;
        sender_below = A.sender_below;
        from_other = A.from_other;
        items_length = A.rows_length;
        was_sent = packet_seen x net.sent _ sent;
      }) a

  -- carried out, it is a step of the relation
  carried_shown : (note : Note) (k back : ℕ) (step : Step) → k < n → Placed n k step.node → Tied f x (shown x net) note k back step
      → relation.Next f x (shown x net) note (shown x (network_after net k back step))
  unfolding network_after node_at
  carried_shown note k back step h p T =
      subst (λ (l : List ViewMessage). relation.Next f x (shown x net) note (record { node = node'; sent = l })) (sym (append_seen x packets net.sent))
      (did_at f x (shown x net) note k node' (seen_packets x packets)
      (λ q d. ap (seen x) (get_or-set_other net.nodes k q step.node no_node d))
      (subst (λ (v : Node). Change f x (shown x net) note k (seen x v)) (sym at_k) T.changes)
      (subst (λ (v : Node). Each (MaySend x (shown x net) k (seen x v)) (seen_packets x packets)) (sym at_k)
      (each_sent x step.node (omega (arith, p.has_size)) (omega (arith, p.has_size))
      (MaySend x (shown x net) k (seen x step.node)) out T.sending)))
    where
      out : List (Option Envelope)
      out = outgoing step.node step.sends back

      packets : List Packet
      packets = packets_of step.node out

      node' : ℕ → ViewNode
      node' q = seen x (node_at (set net.nodes k step.node) q)

      at_k : node_at (set net.nodes k step.node) k ≡ step.node
      at_k = get_or-set_same net.nodes k step.node no_node (omega (arith, G.count))

  quietly : {note : Note} → note ≡ quiet → relation.Next f x (shown x net) note (shown x net)
  quietly e = subst (λ (t : Note). relation.Next f x (shown x net) t (shown x net)) (sym e) same

  pub next_shown : {call : Call} {net' : Network} → Next net call net' → relation.Next f x (shown x net) (told_by x call) (shown x net')
  unfolding is_refused
  next_shown (host_refuses e m why h) = quietly (told_refused x e m (answer.Refused why) refl)
  next_shown (node_refuses {e = e} {m = m} {step = step} d a) = quietly (told_refused x e m step.answer a)
  next_shown (drops r) = same
  next_shown (acts {k = k} {back = back} {step = step} d a) =
      let D : (k < n) × PlacedStep n k back step = deciding_place n net G d in
      carried_shown _ k back step D.0 D.1.0 (decision_tied d a)
