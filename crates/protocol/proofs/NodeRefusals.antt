-- A node's decision refuses only with the refusals that `by_decision` names: each decision's list of numbers is within theirs.
use Prim.Native.Nat.{ℕ}
use mathlib.Core.Path.{◌≡◌, refl}
use mathlib.Core.Bool.{Bool, true, false≢true}
use mathlib.Core.List.Memᴰ
use mathlib.Core.List.{List, [], ◌∷◌, Memᴰ}
use lib.Dec.{eqb}
use borrow.Author.Tests.{eq-eqb}
use Rattle.item.proofs.Tests.{by_cond}
use Rattle.message.specs.declared.Envelope.{Envelope}
use Rattle.protocol.specs.Answer.{refusal_number, by_decision}
use Rattle.protocol.specs.Deliver.{deliver_step}
use Rattle.protocol.specs.Network.{Network, Decides, writes, retries, crashes, starts, delivers, NodeRefusals}
use Rattle.protocol.specs.Table.{node_at}
use Rattle.protocol.specs.declared.Event.{Event}
use Rattle.protocol.specs.declared.Refusal.{Refusal}
use Rattle.protocol.specs.declared.Refusal.TheVariants.{GroupSize, StoreLength, Unsound, NoNode, WrongStage, AtLargest, NoRoom, NoMessage, NotTaken, Stale, Counted, LowerRank, OtherTag}
use Rattle.protocol.specs.declared.Step.{Step}
use Rattle.protocol.proofs.Deciding.{holds, RefusesBy, of_node, of_message, wider, write_refuses, retry_refuses, crash_refuses, start_refuses, on_message_refuses}
use Rattle.std.specs.Prelude.{Option}

-- a number that is in a list is found there
listed : (numbers : List ℕ) (k : ℕ) → Memᴰ k numbers → holds k numbers ≡ true
listed [] k m = absurd (Memᴰ.not-nil m)
listed (i ∷ l) k (Memᴰ.head p) = rw (eq-eqb k i p) refl
listed (i ∷ l) k (Memᴰ.tail m) = by_cond (λ (t : Bool). t ≡ true) (eqb k i) _ _ (λ _. refl) (λ _. listed l k m)

abbrev of_decision : List ℕ
of_decision = 5 ∷ 6 ∷ 9 ∷ 10 ∷ 11 ∷ 12 ∷ 13 ∷ []

number_of_decision : (why : Refusal) → Memᴰ (refusal_number why) of_decision → by_decision why ≡ true
unfolding refusal_number by_decision
number_of_decision GroupSize m = absurd (false≢true (listed of_decision 1 m))
number_of_decision StoreLength m = absurd (false≢true (listed of_decision 2 m))
number_of_decision Unsound m = absurd (false≢true (listed of_decision 3 m))
number_of_decision NoNode m = absurd (false≢true (listed of_decision 4 m))
number_of_decision WrongStage m = refl
number_of_decision AtLargest m = refl
number_of_decision NoRoom m = absurd (false≢true (listed of_decision 7 m))
number_of_decision NoMessage m = absurd (false≢true (listed of_decision 8 m))
number_of_decision NotTaken m = refl
number_of_decision Stale m = refl
number_of_decision Counted m = refl
number_of_decision LowerRank m = refl
number_of_decision OtherTag m = refl

decision_refuses : {net : Network} {e : Event} {m : Option Envelope} {k back : ℕ} (step : Step) → Decides net e m k back step → RefusesBy of_decision step
unfolding deliver_step
decision_refuses {net} step (writes k tag b) = wider of_node of_decision refl step (write_refuses (node_at net.nodes k) tag)
decision_refuses {net} step (retries k b) = wider of_node of_decision refl step (retry_refuses (node_at net.nodes k))
decision_refuses {net} step (crashes k b) = wider (5 ∷ []) of_decision refl step (crash_refuses (node_at net.nodes k))
decision_refuses {net} step (starts k b) = wider of_node of_decision refl step (start_refuses (node_at net.nodes k))
decision_refuses {net} step (delivers r p s) =
    let e : Envelope = p.envelope in
    wider of_message of_decision refl step
    (on_message_refuses e.message (node_at net.nodes e.addressee) e.sender e.incarnation p.rows)

pub node_refusals : NodeRefusals
unfolding NodeRefusals
node_refusals net e m k back step d why z = number_of_decision why (decision_refuses step d why z)
