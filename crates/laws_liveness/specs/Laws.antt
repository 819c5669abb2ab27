-- Progress: a write that has just begun is settled by 4f deliveries, none refused, to and from f peers that are Up.
use Rattle.std.specs.Prelude.{ℕ, ◌+◌, ◌*◌, ◌-◌, ◌≤◌, ◌<◌, ◌^◌, ◌≡◌, ◌≢◌, true, false, List, [], ◌∷◌, ◌++◌, map, length, Some}
use Rattle.item.specs.Counter.{attempt_at_largest, next_attempt}
use Rattle.item.specs.Maxima.{tag_size}
use Rattle.item.specs.declared.counters.Incarnation.{Incarnation}
use Rattle.item.specs.declared.Item.{Item}
use Rattle.item.specs.declared.Tag.{Tag}
use Rattle.store.specs.Records.{records_of}
use Rattle.store.specs.Sound.{free_count, message_in}
use Rattle.protocol.specs.Node.{half, no_peers, row_of, own_item}
use Rattle.operations.specs.Operation.{Result, set_up, perform}
use Rattle.protocol.specs.Phase.{is_up, is_idle}
use Rattle.protocol.specs.Table.{node_at}
use Rattle.protocol.specs.declared.Answer.TheVariants as answer
use Rattle.protocol.specs.declared.Event.TheVariants as event
use Rattle.protocol.specs.declared.Node.{Node}
use Rattle.protocol.specs.declared.Phase.TheVariants.{Up}
use Rattle.protocol.specs.declared.Stage.TheVariants.{Storing}
use Rattle.laws_runs.specs.Laws.{LeavesSound}
use Rattle.laws_enabled.specs.Acting.{row_takes}
use Rattle.laws_liveness.specs.Delivery.{Delivery, Deliver, oks, store_to, stored_from, confirm_to, confirmed_from}
use Rattle.laws_liveness.specs.Each.{Each, Both, Distinct}

-- f other nodes of the group
pub record Peers (n x : ℕ) (peers : List ℕ) : Type 0 where
  pub count : length peers ≡ half n
  pub others : Each (λ q. (q < n) × (q ≢ x)) peers
  pub distinct : Distinct peers

-- deliveries "to and from these f peers, each once in order, the Stores, the Stored, the Confirms and the Confirmed": none is
-- refused, and the last is answered settled with the item
pub record GetsThrough (writer : Node) (peers : List ℕ) (under : ℕ → Incarnation) (before : Result) : Type 0 where
  pub deliveries : List Delivery
  pub after : Result
  pub goes : Deliver before deliveries after
  pub messages : map (λ d. d.message) deliveries
      ≡ map (λ q. store_to writer q (under q)) peers ++ (map (λ q. stored_from writer q (under q)) peers ++
      (map (λ q. confirm_to writer q (under q)) peers ++ map (λ q. confirmed_from writer q (under q)) peers))
  pub answers : map (λ d. d.answer) deliveries
      ≡ oks (length peers) ++ (oks (length peers) ++ (oks (length peers) ++ (oks (length peers - 1) ++ (answer.Settled (own_item writer) ∷ []))))

-- the write of node x has just begun: it is Up and Storing, nothing is counted, and f peers that are Up have its Store in
-- their inboxes, which their rows take
pub record HasBegun (n x : ℕ) (peers records : List ℕ) (result : Result) : Type 0 where
  pub sound : LeavesSound n result
  pub below : x < n
  pub storing : (node_at result.table x).phase ≡ Up Storing
  pub none_counted : (node_at result.table x).counted ≡ no_peers
  pub stores : Both
      (λ q r. message_in (records_of result.store) r ≡ Some (store_to (node_at result.table x) q (node_at result.table q).incarnation))
      peers records
  pub up : Each (λ q. is_up (node_at result.table q).phase ≡ true) peers
  pub taken : Each
      (λ q. row_takes (row_of (node_at result.table q) x) (node_at result.table x).incarnation (node_at result.table x).attempt
      (own_item (node_at result.table x)) ≡ true)
      peers
  -- for f Stored, f Confirms and f Confirmed
  pub room : half n + half n + half n ≤ free_count (records_of result.store)

unfoldable pub WriteGetsThrough : Type 0
WriteGetsThrough =
    (n x : ℕ) (peers records : List ℕ) (result : Result) → Peers n x peers → HasBegun n x peers records result →
    GetsThrough (node_at result.table x) peers (λ q. (node_at result.table q).incarnation) result

-- a call that begins a write of node x, or begins it again: it is answered ok, this item is written, and it gets through
pub record BeginsAndGetsThrough (x : ℕ) (peers : List ℕ) (item : Item) (begun : Result) : Type 0 where
  pub is_ok : begun.answer ≡ answer.Ok
  pub item_is : own_item (node_at begun.table x) ≡ item
  pub through : GetsThrough (node_at begun.table x) peers (λ q. (node_at begun.table q).incarnation) begun

-- the first write after set-up: index 1 and the tag given
unfoldable pub FirstWriteGetsThrough : Type 0
FirstWriteGetsThrough =
    (n x : ℕ) (table : List Node) (store : List ℕ) → (set_up n table store).answer ≡ answer.Ok → x < n →
    (tag : Tag) → tag.0 < 256 ^ tag_size → (peers : List ℕ) → Peers n x peers →
    BeginsAndGetsThrough x peers (record { index = record { 0 = 1 }; tag = tag })
    (perform (event.Write x tag) (set_up n table store).table (set_up n table store).store)

-- a Retry of an Up node whose write is under way, with 5f free records, where f peers are Up and their rows take its item
-- under the next attempt
pub record MayRetry (n x : ℕ) (peers : List ℕ) (before : Result) : Type 0 where
  pub sound : LeavesSound n before
  pub below : x < n
  pub node_up : is_up (node_at before.table x).phase ≡ true
  pub under_way : is_idle (node_at before.table x).phase ≡ false
  pub may_rise : attempt_at_largest (node_at before.table x).attempt ≡ false
  pub up : Each (λ q. is_up (node_at before.table q).phase ≡ true) peers
  pub taken : Each
      (λ q. row_takes (row_of (node_at before.table q) x) (node_at before.table x).incarnation
      (next_attempt (node_at before.table x).attempt) (own_item (node_at before.table x)) ≡ true)
      peers
  pub room : 5 * half n ≤ free_count (records_of before.store)

unfoldable pub RetryGetsThrough : Type 0
RetryGetsThrough =
    (n x : ℕ) (peers : List ℕ) (before : Result) → Peers n x peers → MayRetry n x peers before →
    BeginsAndGetsThrough x peers (own_item (node_at before.table x)) (perform (event.Retry x) before.table before.store)
