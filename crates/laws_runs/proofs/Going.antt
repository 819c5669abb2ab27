-- What a decision of a sound node sends goes to other nodes of the group.
use Prim.Native.Nat.{ℕ, zero, suc, ◌+◌, ◌<◌}
use native.Mathlib.Omega.{arith}
use native.Mathlib.Nat.{zero-add}
use mathlib.Core.Path.{◌≡◌, refl, sym, ap, ◌∙◌}
use mathlib.Core.Logic.{◌≢◌}
use mathlib.Core.Bool.{Bool, true, false, not, ◌&&◌}
use mathlib.Core.List.{List, [], ◌∷◌, Memᴰ}
use lib.Dec.{eqb, ltb}
use borrow.Author.Tests.{eqb-false, not-true}
use Rattle.item.proofs.Tests.{and_left, and_right}
use Rattle.item.specs.declared.Tag.{Tag}
use Rattle.message.specs.declared.Envelope.{Envelope}
use Rattle.message.specs.declared.Message.{Message}
use Rattle.message.specs.declared.Message.TheVariants as message
use Rattle.std.specs.Prelude.{Option, Some, is_some}
use Rattle.item.specs.declared.counters.Incarnation.{Incarnation}
use Rattle.returns.proofs.ViewLaws.{clash}
use Rattle.protocol.proofs.Counts.{some_present}
use Rattle.protocol.proofs.Sending.{each_nothing, each_other, each_back, each_asked}
use Rattle.protocol.specs.Answer.{ok, refused}
use Rattle.protocol.specs.Node.{peer_of}
use Rattle.protocol.specs.Outgoing.{envelope_to, outgoing}
use Rattle.protocol.specs.Sound.{every_from, peer_sound, peers_sound, sound_node}
use Rattle.protocol.specs.Write.{send_store, send_fetch, write_step, retry_step, crash_step, start_step}
use Rattle.protocol.specs.declared.Node.{Node}
use Rattle.protocol.specs.declared.Peer.{Peer}
use Rattle.protocol.specs.declared.Refusal.{Refusal}
use Rattle.protocol.specs.declared.Sends.{Sends}
use Rattle.protocol.specs.declared.Sends.TheVariants as sends
use Rattle.protocol.specs.declared.Step.{Step}
use Rattle.protocol.proofs.Cases.{write_cases, retry_cases, crash_cases, start_cases}
use Rattle.protocol.proofs.InView.{number_is, size_is}

-- a peer of a sound list is another node
peer_other : (k n at : ℕ) (peers : List Peer) (to : ℕ) (o : Incarnation) → every_from (peer_sound k n) at peers ≡ true
    → peer_of peers to ≡ Some o → at + to ≢ k
unfolding every_from peer_sound peer_of
peer_other k n at [] to o e p z = clash (cc)
peer_other k n at (q ∷ peers) zero o e p z =
    let there : q.present ≡ true = sym (some_present q) ∙ ap (λ (r : Option Incarnation). is_some r) p in
    let s : (ltb at n && not (eqb at k)) ≡ true =
    rw there at (and_left (peer_sound k n at q) (every_from (peer_sound k n) (suc at) peers) e) in
    eqb-false at k (not-true (eqb at k) (and_right (ltb at n) _ s)) (omega arith)
peer_other k n at (q ∷ peers) (suc to) o e p z =
    peer_other k n (suc at) peers to o (and_right (peer_sound k n at q) (every_from (peer_sound k n) (suc at) peers) e) p (omega arith)

asked_sound : (n k : ℕ) (node : Node) → sound_node n k node ≡ true → every_from (peer_sound k n) 0 node.asked ≡ true
unfolding sound_node peers_sound
asked_sound n k node e = search (and_left, and_right)

-- whether a decision answers the sender
unfoldable pub is_back : Sends → Bool
is_back sends.Nothing = false
is_back (sends.Back message) = true
is_back (sends.Others message) = false
is_back (sends.Asked attempt item) = false

-- sender and addressee of what is sent
pub record Going (n k : ℕ) (e : Envelope) : Type 0 where
  pub from_k : e.sender ≡ k
  pub to_group : e.addressee < n
  pub to_other : k ≢ e.addressee

module _ (n k back : ℕ) (node : Node) (e : sound_node n k node ≡ true) where
  going_to : (to : ℕ) (m : Message) → to < node.n → k ≢ to → Going n k (envelope_to node to m)
  going_to to m low d =
      let size : node.n ≡ n = size_is n k node e in
      record { from_k = number_is n k node e; to_group = omega arith; to_other = d }

  pub going : (s : Sends) → (is_back s ≡ true → back ≢ k) → (d : Envelope) → Memᴰ (Some d) (outgoing node s back) → Going n k d
  unfolding is_back
  going sends.Nothing b = each_nothing (Going n k) node back
  going (sends.Back m) b = each_back (Going n k) node back m (λ l. going_to back m l (λ z. b refl (sym z)))
  going (sends.Others m) b = each_other (Going n k) node back m (λ to l d. going_to to m l (λ z. d (sym z ∙ sym (number_is n k node e))))
  going (sends.Asked a i) b = each_asked (Going n k) node back a i
      (λ to l o p. going_to to (message.Confirm o a i) l
      (λ z. peer_other k n 0 node.asked to o (asked_sound n k node e) p (zero-add to ∙ sym z)))

-- ---- a call answers nobody

abbrev pub NotBack : Step → Type 0
NotBack step = is_back step.sends ≡ false

module _ (node : Node) where
  refused_not : (why : Refusal) → NotBack (refused node why)
  unfolding refused is_back
  refused_not why = refl

  store_not : NotBack (send_store node)
  unfolding send_store ok is_back
  store_not = refl

  fetch_not : NotBack (send_fetch node)
  unfolding send_fetch ok is_back
  fetch_not = refl

  quiet_not : NotBack (ok node sends.Nothing)
  unfolding ok is_back
  quiet_not = refl

module _ (node : Node) where
  pub write_not : (tag : Tag) → NotBack (write_step node tag)
  write_not tag = write_cases NotBack node (refused_not node) tag (λ _ _. store_not _)

  pub retry_not : NotBack (retry_step node)
  retry_not = retry_cases NotBack node (refused_not node) (λ _. fetch_not _) (λ _ _ _. store_not _)

  pub crash_not : NotBack (crash_step node)
  crash_not = crash_cases NotBack node (refused_not node) (quiet_not _)

  pub start_not : NotBack (start_step node)
  start_not = start_cases NotBack node (refused_not node) (λ _ _. fetch_not _)
