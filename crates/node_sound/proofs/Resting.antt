-- A node that is Up, Idle and at rest is sound exactly if its rows are (`rest_sound`), and these are exactly if the numbers in
-- the rows from n on are zero (`rest_unused`).
use Prim.Native.Nat.{ℕ, suc, ◌-◌, ◌<◌, ◌≤◌}
use mathlib.Core.Path.{◌≡◌, refl, ap}
use mathlib.Core.Bool.{Bool, true, false, cond, not, ◌&&◌, and-true}
use mathlib.Core.List.{List, [], ◌∷◌}
use native.Mathlib.Decide.{dec_lt}
use native.Mathlib.Omega.{arith}
use borrow.Author.Tests.{eq-eqb, lt-ltb, le-ltb, not-true}
use lib.ListN.{drop, drop_of_length-le}
use Rattle.std.specs.List.{list_all}
use Rattle.item.proofs.Tests.{and_left, and_right}
use Rattle.item.specs.declared.counters.Attempt.{Attempt}
use Rattle.item.specs.declared.Row.{Row}
use Rattle.item.specs.Counter.{same_incarnation, same_attempt}
use Rattle.item.specs.Row.{same_row}
use Rattle.protocol.specs.declared.Node.{Node}
use Rattle.protocol.specs.declared.Peer.{Peer}
use Rattle.protocol.specs.declared.Phase.{Phase}
use Rattle.protocol.specs.declared.RowUse.TheVariants.{Stored}
use Rattle.protocol.specs.Node.{half, count_peers}
use Rattle.protocol.specs.Phase.{is_up_idle}
use Rattle.protocol.proofs.Counts.{count_more}
use Rattle.protocol.proofs.Phases.{up_idle_is}
use Rattle.protocol.specs.Sound.{every_from, row_use, row_fits, row_sound, rows_sound, peer_sound, peers_sound, stage_counts, phase_counts, attempt_fits, counted_asked, sound_node}
use Rattle.node_sound.specs.Rest.{unmarked, absent, at_rest, numbers_zero, unused_zero}

-- ---- peers of whom nobody is counted or asked

absent_not : (peer : Peer) → absent peer ≡ true → peer.present ≡ false
absent_not peer e = not-true peer.present (and_left (not peer.present) (same_incarnation peer.incarnation (record { 0 = 0 })) e)

absent_zero : (peer : Peer) → absent peer ≡ true → same_incarnation peer.incarnation (record { 0 = 0 }) ≡ true
absent_zero peer e = and_right (not peer.present) (same_incarnation peer.incarnation (record { 0 = 0 })) e

absent_sound : (number n k : ℕ) (peers : List Peer) → list_all absent peers ≡ true → every_from (peer_sound number n) k peers ≡ true
unfolding every_from peer_sound
absent_sound number n k [] e = refl
absent_sound number n k (peer ∷ peers) e =
    let one = and_left (absent peer) (list_all absent peers) e in
    rw (absent_not peer one, absent_zero peer one) (absent_sound number n (suc k) peers (and_right (absent peer) (list_all absent peers) e))

absent_count : (peers : List Peer) → list_all absent peers ≡ true → count_peers peers ≡ 0
unfolding count_peers
absent_count [] e = refl
absent_count (peer ∷ peers) e =
    omega (
      arith,
      count_more peer peers,
      ap (λ (t : Bool). cond {A = ℕ} t 1 0) (absent_not peer (and_left (absent peer) (list_all absent peers) e)),
      absent_count peers (and_right (absent peer) (list_all absent peers) e),
    )

-- ---- rows: of a row that is not marked nothing is left to look at but the numbers, and these from n on

unmarked_below : (n k : ℕ) (row : Row) → k < n → row.marked ≡ false → row_sound Stored n k row ≡ true
unfolding row_sound row_fits
unmarked_below n k row h e = rw (lt-ltb k n h, e)

unmarked_from : (n k : ℕ) (row : Row) → n ≤ k → row.marked ≡ false → row_sound Stored n k row ≡ numbers_zero row
unfolding row_sound row_fits same_row numbers_zero
unmarked_from n k row h e = rw (le-ltb k n h, e, and-true (same_attempt row.attempt (record { 0 = 0 })))

unmarked_step : (n k : ℕ) (row : Row) (rows : List Row) → row.marked ≡ false
    → every_from (row_sound Stored n) (suc k) rows ≡ list_all numbers_zero (drop (n - suc k) rows) → Dec (k < n)
    → every_from (row_sound Stored n) k (row ∷ rows) ≡ list_all numbers_zero (drop (n - k) (row ∷ rows))
unfolding every_from
unmarked_step n k row rows m rest (yes h) =
    let more : n - k ≡ suc (n - suc k) = omega arith in
    rw (more, unmarked_below n k row h m) rest
unmarked_step n k row rows m rest (no h) =
    let none : n - k ≡ 0 = omega arith in
    let none' : n - suc k ≡ 0 = omega arith in
    rw (none, unmarked_from n k row (omega arith) m) (ap (λ (t : Bool). numbers_zero row && t) (rw none' at rest))

unmarked_unused : (n k : ℕ) (rows : List Row) → list_all unmarked rows ≡ true
    → every_from (row_sound Stored n) k rows ≡ list_all numbers_zero (drop (n - k) rows)
unfolding every_from
unmarked_unused n k [] e = rw (drop_of_length-le {A = Row} [] {i = n - k} (omega arith))
unmarked_unused n k (row ∷ rows) e =
    unmarked_step n k row rows
    (not-true row.marked (and_left (not row.marked) (list_all unmarked rows) e))
    (unmarked_unused n (suc k) rows (and_right (not row.marked) (list_all unmarked rows) e))
    (dec_lt k n)

-- ---- what the phase asks

module _ (phase : Phase) (idle : is_up_idle phase ≡ true) where
  any_attempt : (attempt : Attempt) → attempt_fits phase attempt ≡ true
  unfolding attempt_fits
  any_attempt attempt = rw (up_idle_is phase idle)

  rows_stored : (counted : ℕ) → row_use phase counted ≡ Stored
  unfolding row_use
  rows_stored counted = rw (up_idle_is phase idle)

  counts_nobody : (f : ℕ) → phase_counts phase f 0 0 ≡ true
  unfolding phase_counts stage_counts
  counts_nobody f = rw (up_idle_is phase idle, eq-eqb 0 0 refl)

  asks_nobody : (counted asked : List Peer) → counted_asked phase counted asked ≡ true
  unfolding counted_asked
  asks_nobody counted asked = rw (up_idle_is phase idle)

-- ---- the node

module _ (node : Node) (rest : at_rest node ≡ true) where
  rows_unmarked : list_all unmarked node.rows ≡ true
  unfolding at_rest
  rows_unmarked =
      and_left (list_all unmarked node.rows) (list_all absent node.counted)
      (and_left (list_all unmarked node.rows && list_all absent node.counted) (list_all absent node.asked) rest)

  nobody_counted : list_all absent node.counted ≡ true
  unfolding at_rest
  nobody_counted =
      and_right (list_all unmarked node.rows) (list_all absent node.counted)
      (and_left (list_all unmarked node.rows && list_all absent node.counted) (list_all absent node.asked) rest)

  nobody_asked : list_all absent node.asked ≡ true
  unfolding at_rest
  nobody_asked =
      and_right (list_all unmarked node.rows && list_all absent node.counted) (list_all absent node.asked) rest

  module _ (n : ℕ) (idle : is_up_idle node.phase ≡ true) where
    -- such a node at its place is sound exactly if its rows are
    pub rest_sound : (place : ℕ) → node.number ≡ place → node.n ≡ n → sound_node n place node ≡ rows_sound n node
    unfolding sound_node peers_sound
    rest_sound place at of =
        rw (
          eq-eqb node.number place at,
          eq-eqb node.n n of,
          any_attempt node.phase idle node.attempt,
          absent_sound place n 0 node.counted nobody_counted,
          absent_sound place n 0 node.asked nobody_asked,
          absent_count node.counted nobody_counted,
          absent_count node.asked nobody_asked,
          counts_nobody node.phase idle (half n),
          asks_nobody node.phase idle node.counted node.asked,
        )
        (and-true (rows_sound n node))

    -- and in any group exactly if the numbers in the rows from n on are zero
    pub rest_unused : rows_sound n node ≡ unused_zero n node.rows
    unfolding rows_sound unused_zero
    rest_unused =
        let all : n - 0 ≡ n = omega arith in
        rw (rows_stored node.phase idle (count_peers node.counted))
        (rw all at (unmarked_unused n 0 node.rows rows_unmarked))
