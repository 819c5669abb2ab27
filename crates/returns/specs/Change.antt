-- What one accepted call can do in x's view: one node changes, and messages are sent. `Change` has a case for each kind of
-- event, `MaySend` one for each kind of message. Each asks only the facts that the proof needs, about the fields that it
-- needs: the node after a change is any node of which the facts hold, so that what a definition gives need not be matched
-- field by field. Document 01 asks more than the proof needs: that a node starts from Down only, that no answer is counted
-- twice, that exactly f are asked, that a Confirm fits the addressee's row and incarnation (x compares the incarnation in
-- the Confirmed with the recorded one), and that a node which answers Fetch is Up (Returning would do).
use Rattle.std.specs.Prelude.{ℕ, suc, ◌≤◌, ◌<◌, ◌≡◌, ◌≢◌, true, false, List}
use Rattle.item.specs.declared.Item.{Item}
use Rattle.item.specs.declared.Tag.{Tag}
use Rattle.item.specs.Item.{zero_item, item_above}
use Rattle.returns.specs.Replace.{replaced}
use Rattle.returns.specs.Majority.{count, group_size}
use Rattle.returns.specs.Rank.{Above}
use Rattle.returns.specs.History.{Note, quiet, begins, settles, returns}
use Rattle.returns.specs.View.{down, fetching, returning, up, idle, storing, confirming, ViewNode, ViewMessage, store_to, stored_by, confirm_to, confirmed_by, fetch_from, table_from, View, live, put, Sent, Each}
use Rattle.returns.specs.Merge.{Merged}

-- w begins to store: nothing is counted yet
pub record BeginsStoring (v w : ViewNode) : Type 0 where
  pub same_incarnation : w.incarnation ≡ v.incarnation
  pub now_storing : w.stage ≡ storing
  pub none_counted : (q : ℕ) → w.counted q ≡ false

-- the write of w is that of v, in the same stage or the next
pub record SameWrite (v w : ViewNode) : Type 0 where
  pub same_incarnation : w.incarnation ≡ v.incarnation
  pub same_attempt : w.attempt ≡ v.attempt
  pub same_item : w.item ≡ v.item

-- v was live and so is w, under the same incarnation; an Up node stays Up
pub record StaysLive (v w : ViewNode) : Type 0 where
  pub same_incarnation : w.incarnation ≡ v.incarnation
  pub was_live : live v.phase ≡ true
  pub is_live : live w.phase ≡ true
  pub stays_up : v.phase ≡ up → w.phase ≡ up

-- an answer bears v's present incarnation, attempt and item
pub record Present (v : ViewNode) (other attempt : ℕ) (item : Item) : Type 0 where
  pub present_incarnation : other ≡ v.incarnation
  pub present_attempt : attempt ≡ v.attempt
  pub present_item : item ≡ v.item

-- x counts a Stored of q, given under incarnation i
pub record CountsStored (x : ℕ) (g : View) (q i : ℕ) : Type 0 where
  pub other : ℕ
  pub attempt : ℕ
  pub item : Item
  pub was_sent : Sent (stored_by q i other attempt item) g
  pub not_own : q ≢ x
  pub in_storing : (g.node x).stage ≡ storing
  pub present : Present (g.node x) other attempt item

-- x counts a Confirmed of q, which it had asked under the incarnation in which q now answers
pub record CountsConfirmed (x : ℕ) (g : View) (q : ℕ) : Type 0 where
  pub incarnation : ℕ
  pub other : ℕ
  pub attempt : ℕ
  pub item : Item
  pub was_sent : Sent (confirmed_by q incarnation other attempt item) g
  pub in_confirming : (g.node x).stage ≡ confirming
  pub present : Present (g.node x) other attempt item
  pub was_asked : (g.node x).asked q ≡ true
  pub asked_under : incarnation ≡ (g.node x).asked_under q

-- p counts a Table of q whose row x is r, and becomes v
pub record CountsTable (g : View) (p q : ℕ) (r : Item) (v : ViewNode) : Type 0 where
  pub other : ℕ
  pub was_sent : Sent (table_from q p other r) g
  pub present_incarnation : other ≡ (g.node p).incarnation
  pub was_fetching : (g.node p).phase ≡ fetching
  pub same_incarnation : v.incarnation ≡ (g.node p).incarnation

-- x's answer when its write is finished: "settled", or "accepted" if it was Returning
pub record Finishes (v : ViewNode) (n : Note) : Type 0 where
  pub when_up : v.phase ≡ up → n ≡ settles v.item
  pub when_returning : v.phase ≡ returning → n ≡ returns v.item

-- The messages in the view of x that node p may send when it becomes v: what they say is true of v, or of p before, and
-- Confirmed and Table answer a request that was sent.
abbrev pub MaySend : ℕ → View → ℕ → ViewNode → ViewMessage → Type 0
MaySend x g p v (store_to q i a k) = k ≡ v.item
MaySend x g p v (stored_by q i o a k) = (q ≡ p) × (v.phase ≡ up) × (i ≡ v.incarnation) × (k ≡ v.item)
MaySend x g p v (confirm_to q i o a k) = (p ≡ x) × (v.stage ≡ confirming) × (i ≡ v.incarnation) × (a ≡ v.attempt)
MaySend x g p v (confirmed_by q i o a k) = (q ≡ p) × (i ≡ (g.node p).incarnation) × (under : ℕ) × Sent (confirm_to q o under a k) g
MaySend x g p v (fetch_from q to i) = (q ≡ p) × (i ≡ v.incarnation)
MaySend x g p v (table_from q to o r) = (q ≡ p) × (live (g.node p).phase ≡ true) × (r ≡ (g.node p).item) × Sent (fetch_from to q o) g

module _ (f x : ℕ) where
  -- node p becomes v, and the call tells the note
  pub data Change (g : View) : Note → ℕ → ViewNode → Type 0 where
    -- Write at x
    at_write : (t : Tag) (v : ViewNode) → (g.node x).phase ≡ up → (g.node x).stage ≡ idle → BeginsStoring (g.node x) v
        → v.phase ≡ up → (g.node x).attempt < v.attempt → v.item ≡ item_above (g.node x).item t → Change g (begins t) x v
    -- Retry at x, Returning or Up
    at_retry : (v : ViewNode) → ((g.node x).stage ≡ idle → ⊥) → BeginsStoring (g.node x) v
        → v.phase ≡ (g.node x).phase → (g.node x).attempt < v.attempt → v.item ≡ (g.node x).item → Change g quiet x v
    -- Crash at any node, or "stopped"
    at_crash : (p : ℕ) (v : ViewNode) → v.incarnation ≡ (g.node p).incarnation → v.phase ≡ down → v.stage ≡ idle
        → v.item ≡ zero_item → Change g quiet p v
    -- Start at any node
    at_start : (p : ℕ) (v : ViewNode) → v.incarnation ≡ suc (g.node p).incarnation → v.phase ≡ fetching → v.stage ≡ idle
        → v.item ≡ zero_item → ((q : ℕ) → v.counted q ≡ false) → Change g quiet p v
    -- a Store of x taken by another node
    at_store : (p i a : ℕ) (k : Item) (v : ViewNode) → p ≢ x → Sent (store_to p i a k) g → Above (g.node p).item k
        → StaysLive (g.node p) v → v.item ≡ k → Change g quiet p v
    -- a Stored counted by x, and still fewer than f
    at_stored : (q i : ℕ) (v : ViewNode) → CountsStored x g q i → SameWrite (g.node x) v → v.phase ≡ (g.node x).phase
        → v.stage ≡ storing → v.counted ≡ replaced (g.node x).counted q true
        → v.counted_under ≡ replaced (g.node x).counted_under q i → Change g quiet x v
    -- the f-th Stored: x asks those counted to confirm
    at_last_stored : (q i : ℕ) (v : ViewNode) → CountsStored x g q i → SameWrite (g.node x) v → v.phase ≡ (g.node x).phase
        → v.stage ≡ confirming → v.asked ≡ replaced (g.node x).counted q true
        → v.asked_under ≡ replaced (g.node x).counted_under q i → ((k : ℕ) → v.counted k ≡ false) → Change g quiet x v
    -- a Confirmed counted by x, and still fewer than f
    at_confirmed : (q : ℕ) (v : ViewNode) → CountsConfirmed x g q → SameWrite (g.node x) v → v.phase ≡ (g.node x).phase
        → v.stage ≡ confirming → v.counted ≡ replaced (g.node x).counted q true → v.asked ≡ (g.node x).asked
        → v.asked_under ≡ (g.node x).asked_under → Change g quiet x v
    -- the f-th Confirmed: x is done
    at_last_confirmed : (q : ℕ) (n : Note) (v : ViewNode) → CountsConfirmed x g q
        → f ≤ count (replaced (g.node x).counted q true) (group_size f) → SameWrite (g.node x) v → v.phase ≡ up
        → v.stage ≡ idle → Finishes (g.node x) n → Change g n x v
    -- a Table counted by any node, and still fewer than f + 1
    at_table : (p q : ℕ) (r : Item) (v : ViewNode) → CountsTable g p q r v → v.phase ≡ fetching → v.stage ≡ idle
        → v.counted ≡ replaced (g.node p).counted q true → Merged (g.node p) r v.item v.marked → Change g quiet p v
    -- the (f + 1)-th Table, and row x is not marked: the node is Returning; of x it is used that it begins to store
    at_last_table : (p q : ℕ) (r : Item) (v : ViewNode) → CountsTable g p q r v
        → suc f ≤ count (replaced (g.node p).counted q true) (group_size f) → v.phase ≡ returning → Merged (g.node p) r v.item false
        → (p ≡ x → BeginsStoring (g.node p) v) → Change g quiet p v
    -- Any call at a live node other than x that leaves row x alone: its own write begins, goes on or is finished, or it takes
    -- a Store of a third node. What x's view keeps of its write is not looked at.
    elsewhere : (p : ℕ) (v : ViewNode) → p ≢ x → StaysLive (g.node p) v → v.item ≡ (g.node p).item → Change g quiet p v
    -- Any call that changes nothing of a node that the view shows: Fetch sent again, a Confirm or a Fetch answered, a Store
    -- of another writer taken by x.
    unchanged : (p : ℕ) (v : ViewNode) → v ≡ g.node p → Change g quiet p v

  -- one call: refused (or a Drop), or accepted
  pub data Next (g : View) : Note → View → Type 0 where
    same : Next g quiet g
    did : {n : Note} {p : ℕ} {v : ViewNode} {ms : List ViewMessage} → Change g n p v → Each (MaySend x g p v) ms → Next g n (put g p v ms)
