-- What a decision sends, in x's view, for each of the ways to send: nothing, to all others, back to the sender, to the peers
-- asked. An outgoing message is the one that `message_to` gives for some node `to`.
use Prim.Native.Nat.{ℕ, zero, suc}
use mathlib.Core.Path.{◌≡◌, refl, sym, ap, ◌∙◌, subst}
use mathlib.Core.Logic.{◌⊎◌, inl, inr, ◌≢◌}
use native.Mathlib.Omega.{arith}
use mathlib.Core.Bool.{Bool, true, false, cond}
use mathlib.Core.List.Memᴰ
use mathlib.Core.List.{[], ◌∷◌, Memᴰ}
use lib.Dec.{eqb, ltb}
use Prim.Native.Nat.{◌<◌}
use borrow.Author.Tests.{eqb-true, eqb-false, eq-eqb, ltb-true}
use Rattle.item.specs.declared.Item.{Item}
use Rattle.item.specs.declared.counters.Attempt.{Attempt}
use Rattle.item.specs.declared.counters.Incarnation.{Incarnation}
use Rattle.message.specs.declared.Message.TheVariants as message
use Rattle.item.specs.Maxima.{max_nodes}
use Rattle.item.proofs.Tests.{by_cond}
use Rattle.message.specs.declared.Envelope.{Envelope}
use Rattle.message.specs.declared.Message.{Message}
use Rattle.std.specs.Prelude.{Option, Some, None, option_map}
use Rattle.returns.specs.Change.{Change, MaySend}
use Rattle.returns.specs.History.{Note}
use Rattle.returns.specs.View.{confirming, ViewMessage, View, Each}
use Rattle.returns.proofs.ViewLaws.{each_nil, each_cons, clash}
use Rattle.protocol.specs.Answer.{ok}
use Rattle.protocol.specs.Node.{own_item, row_of, peer_of, row_items}
use Rattle.protocol.specs.Outgoing.{message_to, envelope_to, outgoing_to, outgoing_from, outgoing}
use Rattle.protocol.specs.Storing.{send_confirm}
use Rattle.protocol.specs.Write.{send_store, send_fetch}
use Rattle.protocol.specs.declared.Node.{Node}
use Rattle.protocol.specs.declared.Sends.{Sends}
use Rattle.protocol.specs.declared.Sends.TheVariants as sends
use Rattle.protocol.specs.declared.Step.{Step}
use Rattle.protocol.proofs.Seen.{seen, stage_in, if_at, seen_as, seen_message, note_of, Tied}

-- what is outgoing goes to some node
pub outgoing_from_lem : (node : Node) (s : Sends) (back k count : ℕ) (o : Option Envelope) → Memᴰ o (outgoing_from node s back k count)
    → (to : ℕ) × (o ≡ outgoing_to node s back to)
unfolding outgoing_from
outgoing_from_lem node s back k zero o m = absurd (Memᴰ.not-nil m)
outgoing_from_lem node s back k (suc count) o m = go (outgoing_from_lem node s back (suc k) count o) (Memᴰ.cases_cons m)
  where
    go : (Memᴰ o (outgoing_from node s back (suc k) count) → (to : ℕ) × (o ≡ outgoing_to node s back to))
        → (o ≡ outgoing_to node s back k) ⊎ Memᴰ o (outgoing_from node s back (suc k) count)
        → (to : ℕ) × (o ≡ outgoing_to node s back to)
    go r (inl e) = (k, e)
    go r (inr t) = r t

-- an envelope that goes out: to whom, and with what message
pub record Goes (node : Node) (s : Sends) (back : ℕ) (e : Envelope) : Type 0 where
  pub to : ℕ
  pub below : to < node.n
  pub message : Message
  pub sent : message_to s node back to ≡ Some message
  pub envelope : e ≡ envelope_to node to message

pub goes_lem : (node : Node) (s : Sends) (back to : ℕ) (e : Envelope) → outgoing_to node s back to ≡ Some e → Goes node s back e
unfolding outgoing_to
goes_lem node s back to e h = go (ltb to node.n) (message_to s node back to) refl refl h
  where
    go : (t : Bool) (o : Option Message) → ltb to node.n ≡ t → message_to s node back to ≡ o
        → cond t (option_map (envelope_to node to) o) None ≡ Some e → Goes node s back e
    go true (Some m) l sent same =
        record { to = to; below = ltb-true to node.n l; message = m; sent = sent; envelope = cc }
    go true None l sent same = clash (cc)
    go false o l sent same = clash (cc)

pub outgoing_goes : (node : Node) (s : Sends) (back : ℕ) (e : Envelope) → Memᴰ (Some e) (outgoing node s back) → Goes node s back e
unfolding outgoing
outgoing_goes node s back e m =
    let (to, h) = outgoing_from_lem node s back 0 max_nodes (Some e) m in
    goes_lem node s back to e (sym h)

each_outgoing : (P : Envelope → Type 0) (node : Node) (s : Sends) (back : ℕ)
    → ((to : ℕ) → to < node.n → (m : Message) → message_to s node back to ≡ Some m → P (envelope_to node to m))
    → (e : Envelope) → Memᴰ (Some e) (outgoing node s back) → P e
each_outgoing P node s back h e m =
    let g = outgoing_goes node s back e m in
    subst P (sym g.envelope) (h g.to g.below g.message g.sent)

-- nothing, one message to all others or back to the sender of the one delivered, or a Confirm to each peer asked
module _ (P : Envelope → Type 0) (node : Node) (back : ℕ) where
  pub each_nothing : (e : Envelope) → Memᴰ (Some e) (outgoing node sends.Nothing back) → P e
  unfolding message_to
  each_nothing = each_outgoing P node sends.Nothing back (λ to l m h. clash (cc))

  pub each_other : (m : Message) → ((to : ℕ) → to < node.n → to ≢ node.number → P (envelope_to node to m))
      → (e : Envelope) → Memᴰ (Some e) (outgoing node (sends.Others m) back) → P e
  unfolding message_to
  each_other m p = each_outgoing P node (sends.Others m) back
      (λ to l m'. by_cond (λ o. o ≡ Some m' → P (envelope_to node to m')) (eqb to node.number) _ _
      (λ e h. clash (cc))
      (λ e h. let same : m ≡ m' = cc in
      subst (λ (b : Message). P (envelope_to node to b)) same (p to l (eqb-false to node.number e))))

  pub each_back : (m : Message) → (back < node.n → P (envelope_to node back m))
      → (e : Envelope) → Memᴰ (Some e) (outgoing node (sends.Back m) back) → P e
  unfolding message_to
  each_back m p = each_outgoing P node (sends.Back m) back
      (λ to l m'. by_cond (λ o. o ≡ Some m' → P (envelope_to node to m')) (eqb to back) _ _
      (λ e h. let same : m ≡ m' = cc in
      let to_back : to ≡ back = eqb-true to back e in
      rw to_back (subst (λ (b : Message). P (envelope_to node back b)) same (p (omega arith))))
      (λ e h. clash (cc)))

  pub each_asked : (a : Attempt) (i : Item)
      → ((to : ℕ) → to < node.n → (o : Incarnation) → peer_of node.asked to ≡ Some o → P (envelope_to node to (message.Confirm o a i)))
      → (e : Envelope) → Memᴰ (Some e) (outgoing node (sends.Asked a i) back) → P e
  unfolding message_to
  each_asked a i p = each_outgoing P node (sends.Asked a i) back (λ to l m. go to l m (peer_of node.asked to) refl)
    where
      go : (to : ℕ) → to < node.n → (m : Message) (q : Option Incarnation) → peer_of node.asked to ≡ q
          → option_map (λ other. message.Confirm other a i) q ≡ Some m → P (envelope_to node to m)
      go to l m None e h = clash (cc)
      go to l m (Some o) e h =
          let same : message.Confirm o a i ≡ m = cc in subst (λ (b : Message). P (envelope_to node to b)) same (p to l o e)

-- a message that concerns x only if p is x
pub each_if_at : (P : ViewMessage → Type 0) (x p : ℕ) (m : ViewMessage) → (p ≡ x → P m) → Each P (if_at x p m)
each_if_at P x p m h = by_cond (Each P) (eqb p x) _ _ (λ e. each_cons P m [] (h (eqb-true p x e)) (each_nil P)) (λ e. each_nil P)

-- Each way to send, for a node that the relation allows
module _ (f x : ℕ) (g : View) (k back : ℕ) (node : Node) (numbered : node.number ≡ k) where
  abbrev may_send : Envelope → Type 0
  may_send e = Each (MaySend x g k (seen x node)) (seen_message x e (row_items node))

  pub sends_nothing : (e : Envelope) → Memᴰ (Some e) (outgoing node sends.Nothing back) → may_send e
  sends_nothing = each_nothing may_send node back

  pub tied_nothing : (note : Note) → Change f x g note k (seen x node) → Tied f x g note k back (ok node sends.Nothing)
  unfolding ok
  tied_nothing note c = record { changes = c; sending = sends_nothing }

  -- Store to all others, with the own item
  pub tied_store : (note : Note) → Change f x g note k (seen x node) → Tied f x g note k back (send_store node)
  unfolding send_store ok own_item
  tied_store note c = record {
    changes = c;
    sending = each_other may_send node back _
        (λ to l d. each_if_at _ x node.number _ (λ (own : node.number ≡ x). ap (λ (i : ℕ). (row_of node i).item) own));
  }

  -- Fetch to all others
  pub tied_fetch : (note : Note) → Change f x g note k (seen x node) → Tied f x g note k back (send_fetch node)
  unfolding send_fetch ok
  tied_fetch note c = record {
    changes = c;
    sending = each_other may_send node back _ (λ to l d. each_cons _ _ [] (numbered, refl) (each_nil _));
  }

  -- Confirm to the peers asked
  pub tied_confirm : (note : Note) → Change f x g note k (seen x node) → stage_in node.phase ≡ confirming
      → Tied f x g note k back (send_confirm node)
  unfolding send_confirm ok
  tied_confirm note c stage = record {
    changes = c;
    sending = each_asked may_send node back _ _
        (λ to l o e. each_if_at _ x node.number _ (λ (own : node.number ≡ x). (sym numbered ∙ own, stage, refl, refl)));
  }

  -- a message back to the sender of the one delivered
  pub tied_back : (note : Note) (m : Message) → Change f x g note k (seen x node)
      → Each (MaySend x g k (seen x node)) (seen_as x m k back node.incarnation (row_items node))
      → Tied f x g note k back (ok node (sends.Back m))
  unfolding ok
  tied_back note m c h = record {
    changes = c;
    sending = each_back may_send node back m (λ l.
        subst (λ (s : ℕ). Each (MaySend x g k (seen x node)) (seen_as x m s back node.incarnation (row_items node))) (sym numbered) h);
  }

-- a decision on a message from node `back`, with the note of its answer
abbrev pub Delivered : (f x : ℕ) → View → (k back : ℕ) → Step → Type 0
Delivered f x g k back step = Tied f x g (note_of x k step.answer) k back step

-- what only concerns x if node p is x
pub sent_at : (P : ViewMessage → Type 0) (x p : ℕ) (m : ViewMessage) → p ≡ x → Each P (if_at x p m) → P m
sent_at P x p m e h =
    subst (λ (t : Bool). Each P (cond t (m ∷ []) []) → P m) (sym (eq-eqb p x e)) (λ k. k m (Memᴰ.head refl)) h
