-- Demand 3 of the nodes of a network: where a call of a run returns, the invariant at that point allows the item, and the
-- history says what the calls before tell.
use Prim.Native.Nat.{ℕ, suc, ◌<◌}
use mathlib.Core.Path.{ap, subst, ◌∙◌}
use mathlib.Core.Logic.{inl, inr}
use mathlib.Core.Bool.{false≢true}
use mathlib.Core.List.{List}
use borrow.Author.Tests.{eqb-true}
use Rattle.item.specs.declared.Item.{Item}
use Rattle.returns.specs.History.{returns, May}
use Rattle.returns.proofs.ViewLaws.{clash}
use Rattle.protocol.specs.Call.{Call, is_to}
use Rattle.protocol.specs.Claim.{ReturnsWith, AsItLastStood, ReturnsAsItStood, OfNetworkRuns, EveryNetworkReturn}
use Rattle.protocol.specs.Network.{Network, Decides, writes, retries, crashes, starts, delivers, Next, host_refuses, node_refuses, drops, acts}
use Rattle.protocol.specs.Node.{half}
use Rattle.protocol.specs.declared.Event.{Event}
use Rattle.protocol.specs.declared.Step.{Step}
use Rattle.protocol.proofs.Along.{At}
use Rattle.protocol.proofs.Grouped.{Grouped}
use Rattle.protocol.proofs.InView.{odd_size, size_fits}
use Rattle.protocol.proofs.Reached.{Known, Reached, call_allowed, reached_call}
use Rattle.protocol.proofs.Told.{told_by, refused_not_accepted, told_returns}
use Rattle.std.specs.Prelude.{Option}
use Rattle.message.specs.declared.Envelope.{Envelope}

-- the node that returns is one of the group
returned_below : (n x : ℕ) (item : Item) {net net' : Network} {call : Call} → Grouped n net → Next net call net' → ReturnsWith x item call → x < n
unfolding is_to
returned_below n x item G (host_refuses e m why z) R = let a = R.accepted in clash (cc)
returned_below n x item G (node_refuses {step = step} d a) R = refused_not_accepted step.answer item a R.accepted
returned_below n x item G (drops r) R = let a = R.accepted in clash (cc)
returned_below n x item {net = net} G (acts d z) R = go d R
  where
    go : {e : Event} {m : Option Envelope} {k back : ℕ} {step : Step} → Decides net e m k back step
        → ReturnsWith x item (record { event = e; answer = step.answer; message = m }) → x < n
    go (writes k tag b) R = absurd (false≢true R.at_x)
    go (retries k b) R = absurd (false≢true R.at_x)
    go (crashes k b) R = absurd (false≢true R.at_x)
    go (starts k b) R = absurd (false≢true R.at_x)
    go (delivers r p m) R =
        subst (λ (i : ℕ). i < n) (eqb-true p.envelope.addressee x R.at_x) (G.addressed p m).addressee_below

-- what the invariant allows, in the words of the claim
as_it_stood : (f x : ℕ) (before : List Call) (net : Network) (item : Item) → (K : Known f x before net)
    → May K.history (returns item) → AsItLastStood x item before
unfolding AsItLastStood
as_it_stood f x before net item K (inl e) = inl (e ∙ K.last_is)
as_it_stood f x before net item K (inr m) =
    inr (m.0 ∙ ap (λ (i : Item). suc i.index.0) K.last_is, K.begun_in item m.1)

pub every_network_return : EveryNetworkReturn
unfolding EveryNetworkReturn OfNetworkRuns ReturnsAsItStood
every_network_return n valid calls left run before call after eq x item R =
    let Z : At (Reached n) before call = reached_call n valid run before call after eq in
    let G : Grouped n Z.net = Z.holds.grouped in
    let below : x < n = returned_below n x item G Z.next R in
    let K : Known (half n) x before Z.net = Z.holds.known x below in
    let allowed : May K.history (told_by x call) =
    (call_allowed (half n) n x (odd_size n valid) (size_fits n valid) below before G Z.next K).0 in
    as_it_stood (half n) x before Z.net item K (subst (May K.history) (told_returns x Z.next item R) allowed)
