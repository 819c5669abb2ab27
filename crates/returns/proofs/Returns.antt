-- The theorem: from set-up on, whatever calls are made, every note of x is one that "Runs and returns" allows. The invariant
-- holds of the group as set up and is kept by every call, and where it holds the next note is allowed.
use Prim.Native.Nat.{ℕ, ◌<◌}
use native.Mathlib.Omega.{arith}
use mathlib.Core.Path.{◌≡◌, refl}
use mathlib.Core.Bool.{true}
use mathlib.Core.List.{List, [], ◌∷◌}
use Rattle.item.specs.declared.Item.{Item}
use Rattle.item.specs.Item.{zero_item}
use Rattle.returns.specs.Replace.{replaced}
use Rattle.returns.specs.Majority.{group_size}
use Rattle.returns.specs.History.{Note, History, at_set_up, after_note, May, Kept}
use Rattle.returns.specs.View.{fetching, idle, ViewNode, ViewMessage, View, put, Each}
use Rattle.returns.specs.Change.{MaySend, Change, Next, same, did}
use Rattle.returns.specs.Quorum.{KeepsHeld}
use Rattle.returns.specs.Invariant.{Quorum, Invariant}
use Rattle.returns.proofs.MajorityLaws.{count_all}
use Rattle.returns.proofs.RankLaws.{above_refl}
use Rattle.returns.proofs.ViewLaws.{each_nil, clash}
use Rattle.returns.proofs.QuorumLaws.{held_next, holds_live}
use Rattle.returns.proofs.NodeSteps.{Forward, node_step, forward_next, past_next}
use Rattle.returns.proofs.Items.{tells, known_zero, known_next, may_tell, item_change, items_next}
use Rattle.returns.proofs.Own.{own_change, own_next, answered_next}
use Rattle.returns.proofs.Confirming.{asked_next, quorum_next}
use Rattle.returns.proofs.Messages.{messages_next}

-- a node as it is set up, or one that is Down in an unused place: Idle, with the zero item
pub record SetUp (v : ViewNode) : Type 0 where
  pub is_idle : v.stage ≡ idle
  pub not_fetching : v.phase ≡ fetching → ⊥
  pub zero_item : v.item ≡ zero_item

module _ (f x : ℕ) where
  -- the calls of a run after set-up, from the view g on, with the note that each tells
  pub data Run : View → List Note → Type 0 where
    end : {g : View} → Run g []
    then : {g g' : View} {n : Note} {l : List Note} → Next f x g n g' → Run g' l → Run g (n ∷ l)

module _ (f x : ℕ) (below : x < group_size f) where
  module _ (h : History) (g : View) (I : Invariant f x h g) (n : Note) (p : ℕ) (v : ViewNode) (ms : List ViewMessage)
      (c : Change f x g n p v) (send : Each (MaySend x g p v) ms) where
    -- no change undoes what f + 1 nodes hold
    held_change : KeepsHeld f g (put g p v ms)
    held_change A s many = held_next A s g p f many x v ms (λ q o r m. (I.messages _ m).0) (node_step f x h g I n p v c) send

    quorum_kept : (s : Item) → Quorum f x s g → Quorum f x s (put g p v ms)
    quorum_kept s Q = record { members = Q.members; with_x = Q.with_x; many = Q.many; held = held_change Q.members s Q.many Q.held }

    forward : (q : ℕ) → Forward (g.node q) (replaced g.node p v q)
    forward = forward_next f g p v (node_step f x h g I n p v c)

    pub invariant_change : Invariant f x (after_note h n) (put g p v ms)
    invariant_change = record {
      items = items_next f x h g I n p v c;
      messages = messages_next f x h g I (after_note h n) p v ms
          (known_next f x h g I n p (tells f x g n p v c)) forward (past_next f x h g I n p v c)
          (item_change f x h g I n p v c) (own_change f x h g I n p v c) send;
      own = own_next f x h g I n p v c;
      answered = answered_next f x h g I (put g p v ms) n p v c forward;
      asked = asked_next f x h g I n p v ms c send forward held_change;
      quorum = quorum_kept (after_note h n).last (quorum_next f x h g I below n p (tells f x g n p v c));
    }

  -- one call: its note is allowed, and the invariant holds again
  pub call_kept : (h : History) (g g' : View) (n : Note) → Invariant f x h g → Next f x g n g' → May h n × Invariant f x (after_note h n) g'
  call_kept h g g' n I same = (tt, I)
  call_kept h g g' n I (did {p} {v} {ms} c send) = (may_tell f x h g I n p (tells f x g n p v c), invariant_change h g I n p v ms c send)

  pub run_kept : (h : History) (g : View) (l : List Note) → Invariant f x h g → Run f x g l → Kept h l
  run_kept h g l I end = tt
  run_kept h g l I (then {g' = g'} {n = n} {l = l'} c r) =
      ((call_kept h g g' n I c).0, run_kept (after_note h n) g' l' (call_kept h g g' n I c).1 r)

  -- the group as set up
  pub invariant_set_up : (node : ℕ → ViewNode) → ((p : ℕ) → SetUp (node p)) → Invariant f x at_set_up (record { node = node; sent = [] })
  invariant_set_up node s = record {
    items = λ p. rw (s p).zero_item (known_zero at_set_up);
    messages = each_nil _;
    own = record {
      when_idle = λ u e. (s x).zero_item;
      when_writing = λ u e. absurd (e (s x).is_idle);
      when_returning = λ u. rw (s x).zero_item (above_refl zero_item);
      when_off = λ u. (s x).is_idle;
    };
    answered = λ e. let i = (s x).is_idle in clash (cc);
    asked = λ e. let i = (s x).is_idle in clash (cc);
    quorum = record {
      members = λ q. true;
      with_x = refl;
      many = omega (arith, count_all (group_size f));
      held = λ p e. holds_live (λ q. true) zero_item [] p (node p) (s p).not_fetching (rw (s p).zero_item (above_refl zero_item));
    };
  }

  -- "Runs and returns", in x's view: for every run from set-up
  pub returns_kept : (node : ℕ → ViewNode) → ((p : ℕ) → SetUp (node p)) → (l : List Note)
      → Run f x (record { node = node; sent = [] }) l → Kept at_set_up l
  returns_kept node s l r = run_kept at_set_up (record { node = node; sent = [] }) l (invariant_set_up node s) r
