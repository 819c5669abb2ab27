-- What holds of every view that a run reaches, given the history of x up to there. Two parts carry the claim: some quorum
-- holds x's last item, and every item of x in a row or a message is at most one index above it, and then was begun.
use Rattle.std.specs.Prelude.{ℕ, suc, ◌≤◌, ◌<◌, ◌≡◌, ◌≢◌, ◌⊎◌, Bool, true, false}
use mathlib.Core.List.{Memᴰ}
use Rattle.item.specs.declared.Item.{Item}
use Rattle.returns.specs.Replace.{replaced}
use Rattle.returns.specs.Majority.{count, group_size}
use Rattle.returns.specs.Rank.{Above}
use Rattle.returns.specs.History.{History}
use Rattle.returns.specs.View.{down, fetching, returning, up, idle, storing, confirming, ViewNode, ViewMessage, store_to, stored_by, confirm_to, confirmed_by, fetch_from, table_from, View, live, Sent, Each}
use Rattle.returns.specs.Quorum.{Held}

-- an item of x that may stand in a row or a message
pub record Known (h : History) (i : Item) : Type 0 where
  pub not_far : i.index.0 ≤ suc h.last.index.0
  pub was_begun : i.index.0 ≡ suc h.last.index.0 → Memᴰ i h.begun

abbrev pub DownOrHas : Item → ViewNode → Type 0
DownOrHas k v = (v.phase ≡ down) ⊎ ((v.phase ≡ up) × Above k v.item)

-- v has answered under incarnation i that it stored the item k: unless it has restarted since, it is Down, or Up with k or
-- an item above k
pub record Answered (i : ℕ) (k : Item) (v : ViewNode) : Type 0 where
  pub not_later : i ≤ v.incarnation
  pub unless_restarted : i ≡ v.incarnation → DownOrHas k v

-- under incarnation i and attempt a, v has left the Storing stage
pub record Past (i a : ℕ) (v : ViewNode) : Type 0 where
  pub not_later : i ≤ v.incarnation
  pub before_fetching : v.phase ≡ fetching → i < v.incarnation
  pub not_later_attempt : live v.phase ≡ true → i ≡ v.incarnation → a ≤ v.attempt
  pub before_storing : v.stage ≡ storing → i ≡ v.incarnation → a < v.attempt

-- x's own node: Up and Idle it has its last item, Up and writing an item of the next index, Returning an item above the last;
-- Down or Fetching it is Idle
pub record Own (h : History) (v : ViewNode) : Type 0 where
  pub when_idle : v.phase ≡ up → v.stage ≡ idle → v.item ≡ h.last
  pub when_writing : v.phase ≡ up → (v.stage ≡ idle → ⊥) → v.item.index.0 ≡ suc h.last.index.0
  pub when_returning : v.phase ≡ returning → Above h.last v.item
  pub when_off : live v.phase ≡ false → v.stage ≡ idle

-- what a message tells for certain, by its kind
abbrev pub MessageHolds : ℕ → History → View → ViewMessage → Type 0
MessageHolds x h g (store_to q i a k) = Known h k
MessageHolds x h g (stored_by q i o a k) = Answered i k (g.node q)
MessageHolds x h g (confirm_to q i o a k) = Past i a (g.node x)
MessageHolds x h g (confirmed_by q i o a k) = Past o a (g.node x)
MessageHolds x h g (fetch_from q to i) = i ≤ (g.node q).incarnation
MessageHolds x h g (table_from q to o r) = (o ≤ (g.node to).incarnation) × Known h r

-- while x is Storing, each peer that it has counted answered for x's item
abbrev pub CountedAnswered : ℕ → View → ViewNode → Type 0
CountedAnswered x g v = (q : ℕ) → v.counted q ≡ true → (q ≢ x) × Answered (v.counted_under q) v.item (g.node q)

-- q has confirmed the present attempt of v, under the incarnation in which it stored
abbrev pub HasConfirmed : View → ViewNode → ℕ → Type 0
HasConfirmed g v q = Sent (confirmed_by q (v.asked_under q) v.incarnation v.attempt v.item) g

-- q has confirmed, or is still under the incarnation in which it stored and so may yet confirm
abbrev pub MayConfirm : View → ViewNode → ℕ → Type 0
MayConfirm g v q = ((g.node q).incarnation ≡ v.asked_under q) ⊎ HasConfirmed g v q

-- While x is Confirming: any of those asked who may all confirm hold x's item, together with x, if they are f + 1. Fewer and
-- fewer may confirm as nodes restart, so this stays true; and those who have confirmed are such a set.
pub record Asked (f x : ℕ) (g : View) (v : ViewNode) : Type 0 where
  pub others : (q : ℕ) → v.asked q ≡ true → (q ≢ x) × (v.asked_under q ≤ (g.node q).incarnation)
  pub have_confirmed : (q : ℕ) → v.counted q ≡ true → (v.asked q ≡ true) × HasConfirmed g v q
  pub would_hold : (B : ℕ → Bool) → ((q : ℕ) → B q ≡ true → v.asked q ≡ true) → suc f ≤ count (replaced B x true) (group_size f)
      → ((q : ℕ) → B q ≡ true → MayConfirm g v q) → Held (replaced B x true) v.item g

-- f + 1 nodes, x among them, that hold s
pub record Quorum (f x : ℕ) (s : Item) (g : View) : Type 0 where
  pub members : ℕ → Bool
  pub with_x : members x ≡ true
  pub many : suc f ≤ count members (group_size f)
  pub held : Held members s g

pub record Invariant (f x : ℕ) (h : History) (g : View) : Type 0 where
  pub items : (p : ℕ) → Known h (g.node p).item
  pub messages : Each (MessageHolds x h g) g.sent
  pub own : Own h (g.node x)
  pub answered : (g.node x).stage ≡ storing → CountedAnswered x g (g.node x)
  pub asked : (g.node x).stage ≡ confirming → Asked f x g (g.node x)
  pub quorum : Quorum f x h.last g
