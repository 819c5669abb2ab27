-- The first write after set-up gets through: every node is Up with zero rows, and the Stores are in the inboxes of all others.
use Prim.Native.Nat.{ℕ, zero, suc, ◌+◌, ◌-◌, ◌≤◌, ◌<◌, ◌^◌}
use native.Mathlib.Omega.{arith}
use native.Mathlib.Nat.{zero-add}
use mathlib.Core.Path.{◌≡◌, refl, ap, subst, ◌∙◌}
use mathlib.Core.Logic.{◌≢◌}
use mathlib.Core.Bool.{true, false}
use mathlib.Core.List.{List}
use lib.ListN.{get_or}
use lib.Seq.{get_or-set_same}
use borrow.Author.Tests.{lt-ltb}
use Rattle.store_laws.proofs.Empty.{set_up_done}
use Rattle.item.specs.Counter.{index_below, index_at_largest, attempt_at_largest, next_index}
use Rattle.item.specs.Item.{ranks_below, zero_item}
use Rattle.item.specs.Maxima.{max_nodes, tag_size}
use Rattle.item.specs.Row.{zero_row}
use Rattle.item.specs.declared.Item.{Item}
use Rattle.item.specs.declared.Row.{Row}
use Rattle.item.specs.declared.Tag.{Tag}
use Rattle.store.specs.Change.{empty_records}
use Rattle.store.specs.Head.{group_size}
use Rattle.store.proofs.Joined.{records_joined}
use Rattle.store.proofs.Locality.{length_empty, empty_sized}
use Rattle.store.specs.Records.{record_count, records_of, joined}
use Rattle.store.specs.Sound.{free_count}
use Rattle.operations.specs.Claim.{TagFits}
use Rattle.protocol.specs.Node.{half, zero_rows, blank_node, fresh_node, row_of, own_item, storing_begun, write_ended}
use Rattle.operations.specs.Operation.{Result, carried_out, at_node, on_sound, set_up, perform}
use Rattle.protocol.specs.Phase.{is_up}
use Rattle.protocol.specs.Table.{no_node, node_at, fresh_nodes, fresh_table}
use Rattle.protocol.specs.Write.{send_store, next_item, write_at_largest, written, write_step}
use Rattle.protocol.specs.declared.Event.TheVariants as event
use Rattle.protocol.specs.declared.Node.{Node}
use Rattle.operations.proofs.Fitting.{get_or_same}
use Rattle.protocol.proofs.InView.{size_fits}
use Rattle.operations.proofs.Start.{SetUpTo, set_up_is}
use Rattle.laws_enabled.specs.Acting.{row_takes}
use Rattle.laws_runs.specs.Laws.{LeavesSound, SetUpIsSound}
use Rattle.laws_runs.proofs.Keeps.{Decided, write_decided, performed_is, performs}
use Rattle.laws_runs.proofs.Runs.{set_up_is_sound}
use Rattle.laws_liveness.specs.Laws.{Peers, BeginsAndGetsThrough, FirstWriteGetsThrough}
use Rattle.laws_liveness.proofs.Lists.{each_map}
use Rattle.laws_liveness.proofs.Begins.{begins}

-- ---- the nodes after set-up

fresh_from : (n k count j : ℕ) → j < count → get_or (fresh_nodes n k count) j no_node ≡ fresh_node (k + j) n
unfolding fresh_nodes
fresh_from n k zero j h = absurd (omega arith)
fresh_from n k (suc count) zero h = let z : k ≡ k + 0 = omega arith in ap (λ (i : ℕ). fresh_node i n) z
fresh_from n k (suc count) (suc j) h =
    let z : suc k + j ≡ k + suc j = omega arith in
    fresh_from n (suc k) count j (omega arith) ∙ ap (λ (i : ℕ). fresh_node i n) z

fresh_at : (n j : ℕ) → j < n → node_at (fresh_table n) j ≡ fresh_node j n
unfolding node_at fresh_table
fresh_at n j h = fresh_from n 0 n j h ∙ ap (λ (i : ℕ). fresh_node i n) (zero-add j)

fresh_row : (k n x : ℕ) → row_of (fresh_node k n) x ≡ zero_row
unfolding row_of fresh_node write_ended blank_node
fresh_row k n x = get_or_same max_nodes x zero_row

abbrev first_item : Tag → Item
first_item tag = record { index = record { 0 = 1 }; tag = tag }

-- the node that writes
abbrev writer : ℕ → ℕ → Tag → Node
writer n x tag = written (fresh_node x n) tag

fresh_own : (n x : ℕ) → own_item (fresh_node x n) ≡ zero_item
unfolding own_item
fresh_own n x = ap (λ (r : Row). r.item) (fresh_row x n (fresh_node x n).number)

writes : (n x : ℕ) (tag : Tag) → write_step (fresh_node x n) tag ≡ send_store (writer n x tag)
unfolding write_step write_at_largest fresh_node write_ended blank_node attempt_at_largest index_at_largest
writes n x tag = rw (large)
  where
    large : write_at_largest (fresh_node x n) ≡ false
    large = rw (fresh_own n x)

written_item : (n x : ℕ) (tag : Tag) → x < max_nodes → own_item (writer n x tag) ≡ first_item tag
unfolding own_item row_of written storing_begun next_item next_index index_at_largest fresh_node write_ended blank_node
written_item n x tag h =
    ap (λ (r : Row). r.item) (get_or-set_same zero_rows x _ zero_row (omega arith)) ∙ next
  where
    next : next_item (own_item (fresh_node x n)) tag ≡ first_item tag
    next = rw (fresh_own n x)

-- ---- the write

module _ (n x : ℕ) (low : x < n) (most : n ≤ max_nodes) (tag : Tag) (t : tag.0 < 256 ^ tag_size) (before : Result) (G : LeavesSound n before)
    (fresh : before.table ≡ fresh_table n) (free : free_count (records_of before.store) ≡ record_count - 1) where
  abbrev begun : Result
  begun = perform (event.Write x tag) before.table before.store

  node_fresh : (k : ℕ) → k < n → node_at before.table k ≡ fresh_node k n
  node_fresh k h = ap (λ (l : List Node). node_at l k) fresh ∙ fresh_at n k h

  step_is : write_step (node_at before.table x) tag ≡ send_store (writer n x tag)
  step_is = ap (λ (v : Node). write_step v tag) (node_fresh x low) ∙ writes n x tag

  decided : Decided n before.table x x (send_store (writer n x tag))
  decided = subst (Decided n before.table x x) step_is (write_decided n before.table before.store G x low tag t)

  begun_is : perform (event.Write x tag) before.table before.store ≡ carried_out before.table before.store (records_of before.store) x x (send_store (writer n x tag))
  unfolding on_sound at_node
  begun_is =
      performed_is n before.table before.store G (event.Write x tag)
      ∙ rw (lt-ltb x (group_size (records_of before.store)) (omega (arith, G.size)))
      (ap (carried_out before.table before.store (records_of before.store) x x) step_is)

  fresh_up : (q : ℕ) → q < n → is_up (node_at before.table q).phase ≡ true
  unfolding fresh_node write_ended blank_node
  fresh_up q h = ap (λ (v : Node). is_up v.phase) (node_fresh q h)

  -- a zero row takes an item of index 1
  row_takes_lem : (q : ℕ) → q < n
      → row_takes (row_of (node_at before.table q) x) (writer n x tag).incarnation (writer n x tag).attempt (own_item (writer n x tag)) ≡ true
  unfolding row_takes ranks_below index_below
  row_takes_lem q h =
      let row : row_of (node_at before.table q) x ≡ zero_row = ap (λ (v : Node). row_of v x) (node_fresh q h) ∙ fresh_row q n x in
      rw (written_item n x tag (omega arith), row)

  first_through : (peers : List ℕ) → Peers n x peers → BeginsAndGetsThrough x peers (first_item tag) begun
  unfolding written storing_begun half TagFits
  first_through peers P =
      subst (λ (k : Item). BeginsAndGetsThrough x peers k begun) (written_item n x tag (omega arith))
      (begins n x low before G (writer n x tag) decided refl refl (omega arith) begun begun_is
      (performs n before.table before.store G (event.Write x tag) t) peers P
      (each_map (λ q. (q < n) × (q ≢ x)) (λ q. is_up (node_at before.table q).phase ≡ true) (λ q z. fresh_up q z.0) peers P.others)
      (each_map (λ q. (q < n) × (q ≢ x))
      (λ q. row_takes (row_of (node_at before.table q) x) (writer n x tag).incarnation (writer n x tag).attempt (own_item (writer n x tag)) ≡ true)
      (λ q z. row_takes_lem q z.0) peers P.others))

pub first_write_gets_through : FirstWriteGetsThrough
unfolding FirstWriteGetsThrough SetUpIsSound
first_write_gets_through n x table store accepted low tag t peers P =
    let U : SetUpTo n (set_up n table store) = set_up_is n table store accepted in
    let e : records_of (joined (empty_records record_count n)) ≡ empty_records record_count n
    = records_joined (empty_records record_count n) (length_empty record_count n) (empty_sized record_count n) in
    first_through n x low (size_fits n U.valid) tag t (set_up n table store) (set_up_is_sound n table store accepted) U.table_is
    (ap (λ (s : List ℕ). free_count (records_of s)) U.store_is ∙ ap free_count e ∙ (set_up_done n U.valid).counted) peers P
