-- A message that is taken keeps a node sound: a row is stored, a peer is counted or all counted are asked, a write ends, a table
-- is counted, the own item is written back.
use Prim.Native.Nat.{ℕ, suc, ◌≤◌, ◌<◌}
use native.Mathlib.Omega.{arith}
use mathlib.Core.Path.{◌≡◌, refl, ap, subst}
use mathlib.Core.Logic.{◌≢◌}
use mathlib.Core.Bool.{Bool, true, false, cond}
use mathlib.Core.List.{List}
use lib.Dec.{ltb, eqb}
use lib.ListN.{length, get_or, set}
use borrow.Author.Tests.{ltb-true, ltb-false, eq-eqb, ne_eqb}
use Rattle.item.specs.Item.{zero_item}
use Rattle.item.specs.Maxima.{max_nodes}
use Rattle.item.proofs.Tests.{by_cond, and_left, and_right, and_both}
use Rattle.item.specs.declared.counters.Attempt.{Attempt}
use Rattle.item.specs.declared.counters.Incarnation.{Incarnation}
use Rattle.item.specs.declared.Item.{Item}
use Rattle.protocol.specs.Fetching.{with_table, none_counted, has_conflict, written_back}
use Rattle.protocol.specs.Merge.{merge_rows}
use Rattle.protocol.specs.Node.{no_peers, peer_under, half, own_item, stored_row, peer_of, count_peers, with_row, with_rows, with_counted, confirming_begun, write_ended}
use Rattle.protocol.specs.Phase.{is_fetching, is_up, is_storing, is_confirming, at_stage}
use Rattle.protocol.specs.Sound.{every_from, row_use, row_sound, stage_counts, phase_counts, attempt_fits, counted_asked}
use Rattle.protocol.specs.Storing.{asked_under}
use Rattle.protocol.specs.declared.Node.{Node}
use Rattle.protocol.specs.declared.Peer.{Peer}
use Rattle.std.specs.Prelude.{Option, is_some}
use Rattle.protocol.specs.declared.Phase.TheVariants.{Returning}
use Rattle.protocol.specs.declared.RowUse.{RowUse}
use Rattle.protocol.specs.declared.RowUse.TheVariants as row_uses
use Rattle.protocol.specs.declared.Stage.TheVariants.{Storing, Confirming}
use Rattle.protocol.proofs.Confirming.{asked_peer}
use Rattle.protocol.proofs.Rows.{none_marked}
use Rattle.laws_node.proofs.Every.{every_weaker, one_more, not_none}
use Rattle.laws_node.proofs.Outcome.{asking}
use Rattle.laws_node.proofs.PhaseCases.{fetching_cases, up_cases, storing_cases, confirming_cases}
use Rattle.laws_node.proofs.SoundRows.{unused_fetched, merged_sound, rebuilt_sound}
use Rattle.laws_node.proofs.Soundly.{Soundly, rows_in, rows_of, row_set, none_sound, peer_set, none_fewer, none_among, among_set, begun_sound}

module _ (n k : ℕ) (node : Node) (S : Soundly n k node) (s : ℕ) (l : s < n) where
  pub row_sound_lem : (item : Item) (i : Incarnation) (a : Attempt) → is_up node.phase ≡ true
      → Soundly n k (with_row node s (stored_row item i a))
  unfolding with_row row_use
  row_sound_lem item i a e =
      let stored : row_use node.phase (count_peers node.counted) ≡ row_uses.Stored
      = up_cases (λ p. row_use p (count_peers node.counted) ≡ row_uses.Stored) (λ _. refl) node.phase e in
      record {
        number_is = S.number_is;
        size_is = S.size_is;
        attempt_fits = S.attempt_fits;
        rows_sound = rows_in row_uses.Stored n node.phase (count_peers node.counted) (set node.rows s (stored_row item i a)) stored
            (row_set n node.rows s item i a l (rows_of row_uses.Stored n node.phase (count_peers node.counted) node.rows stored S.rows_sound));
        counted_sound = S.counted_sound;
        asked_sound = S.asked_sound;
        counts_fit = S.counts_fit;
        among = S.among;
      }

  module _ (i : Incarnation) (d : s ≢ k) where
    -- Stored, before the f-th
    pub stored_counted_lem : is_storing node.phase ≡ true → ltb (count_peers (with_counted node s i).counted) (half node.n) ≡ true
        → Soundly n k (with_counted node s i)
    unfolding with_counted row_use phase_counts stage_counts counted_asked
    stored_counted_lem e few =
        let c : ℕ = count_peers (set node.counted s (peer_under i)) in
        let less : ltb c (half n) ≡ true = subst (λ (m : ℕ). ltb c (half m) ≡ true) S.size_is few in
        record {
          number_is = S.number_is;
          size_is = S.size_is;
          attempt_fits = S.attempt_fits;
          rows_sound = storing_cases
              (λ p. every_from (row_sound (row_use p (count_peers node.counted)) n) 0 node.rows ≡ true → every_from (row_sound (row_use p c) n) 0 node.rows ≡ true)
              (λ h. h) (λ h. h) node.phase e S.rows_sound;
          counted_sound = peer_set k n node.counted s i l d S.counted_sound;
          asked_sound = S.asked_sound;
          counts_fit = storing_cases
              (λ p. phase_counts p (half n) (count_peers node.counted) (count_peers node.asked) ≡ true → phase_counts p (half n) c (count_peers node.asked) ≡ true)
              (λ h. and_both less (and_right (ltb (count_peers node.counted) (half n)) (eqb (count_peers node.asked) 0) h))
              (λ h. and_both less (and_right (ltb (count_peers node.counted) (half n)) (eqb (count_peers node.asked) 0) h))
              node.phase e S.counts_fit;
          among = storing_cases (λ p. counted_asked p (set node.counted s (peer_under i)) node.asked ≡ true) refl refl node.phase e;
        }

    -- the f-th Stored: the f counted are asked
    pub asking_sound : is_storing node.phase ≡ true → ltb (count_peers (with_counted node s i).counted) (half node.n) ≡ false → 0 < half n
        → Soundly n k (asking node s i)
    unfolding with_counted confirming_begun attempt_fits row_use phase_counts stage_counts counted_asked at_stage
    asking_sound e full f =
        let peers : List Peer = set node.counted s (peer_under i) in
        let many : ltb (count_peers peers) (half n) ≡ false = subst (λ (m : ℕ). ltb (count_peers peers) (half m) ≡ false) S.size_is full in
        let less : ltb (count_peers node.counted) (half n) ≡ true = storing_cases
        (λ p. phase_counts p (half n) (count_peers node.counted) (count_peers node.asked) ≡ true → ltb (count_peers node.counted) (half n) ≡ true)
        (and_left (ltb (count_peers node.counted) (half n)) (eqb (count_peers node.asked) 0))
        (and_left (ltb (count_peers node.counted) (half n)) (eqb (count_peers node.asked) 0)) node.phase e S.counts_fit in
        let exactly : count_peers peers ≡ half n = omega (
          arith,
          one_more node.counted s i,
          ltb-true (count_peers node.counted) (half n) less,
          ltb-false (count_peers peers) (half n) many,
        ) in
        record {
          number_is = S.number_is;
          size_is = S.size_is;
          attempt_fits = storing_cases (λ p. attempt_fits (at_stage p Confirming) node.attempt ≡ true) refl refl node.phase e;
          rows_sound = storing_cases
              (λ p. every_from (row_sound (row_use p (count_peers node.counted)) n) 0 node.rows ≡ true → every_from (row_sound (row_use (at_stage p Confirming) (count_peers no_peers)) n) 0 node.rows ≡ true)
              (λ h. h) (λ h. h) node.phase e S.rows_sound;
          counted_sound = none_sound k n;
          asked_sound = peer_set k n node.counted s i l d S.counted_sound;
          counts_fit = storing_cases (λ p. phase_counts (at_stage p Confirming) (half n) (count_peers no_peers) (count_peers peers) ≡ true)
              (and_both (none_fewer n f) (eq-eqb (count_peers peers) (half n) exactly))
              (and_both (none_fewer n f) (eq-eqb (count_peers peers) (half n) exactly)) node.phase e;
          among = storing_cases (λ p. counted_asked (at_stage p Confirming) no_peers peers ≡ true) (none_among peers) (none_among peers) node.phase e;
        }

    -- Confirmed, before the f-th
    pub confirmed_counted_lem : is_confirming node.phase ≡ true → asked_under node s i ≡ true
        → ltb (count_peers (with_counted node s i).counted) (half node.n) ≡ true → Soundly n k (with_counted node s i)
    unfolding with_counted row_use phase_counts stage_counts counted_asked asked_under
    confirmed_counted_lem e under few =
        let peers : List Peer = set node.counted s (peer_under i) in
        let less : ltb (count_peers peers) (half n) ≡ true = subst (λ (m : ℕ). ltb (count_peers peers) (half m) ≡ true) S.size_is few in
        let in_asked : is_some (peer_of node.asked s) ≡ true
        = ap (λ (p : Option Incarnation). is_some p) (asked_peer (peer_of node.asked s) i under) in
        record {
          number_is = S.number_is;
          size_is = S.size_is;
          attempt_fits = S.attempt_fits;
          rows_sound = confirming_cases
              (λ p. every_from (row_sound (row_use p (count_peers node.counted)) n) 0 node.rows ≡ true → every_from (row_sound (row_use p (count_peers peers)) n) 0 node.rows ≡ true)
              (λ h. h) (λ h. h) node.phase e S.rows_sound;
          counted_sound = peer_set k n node.counted s i l d S.counted_sound;
          asked_sound = S.asked_sound;
          counts_fit = confirming_cases
              (λ p. phase_counts p (half n) (count_peers node.counted) (count_peers node.asked) ≡ true → phase_counts p (half n) (count_peers peers) (count_peers node.asked) ≡ true)
              (λ h. and_both less (and_right (ltb (count_peers node.counted) (half n)) (eqb (count_peers node.asked) (half n)) h))
              (λ h. and_both less (and_right (ltb (count_peers node.counted) (half n)) (eqb (count_peers node.asked) (half n)) h))
              node.phase e S.counts_fit;
          among = confirming_cases
              (λ p. counted_asked p node.counted node.asked ≡ true → counted_asked p peers node.asked ≡ true)
              (among_set node.asked node.counted s i in_asked) (among_set node.asked node.counted s i in_asked)
              node.phase e S.among;
        }

    -- the f-th Confirmed: the write has ended
    pub ended_sound : is_confirming node.phase ≡ true → Soundly n k (write_ended (with_counted node s i))
    unfolding write_ended with_counted attempt_fits row_use phase_counts stage_counts count_peers counted_asked
    ended_sound e = record {
      number_is = S.number_is;
      size_is = S.size_is;
      attempt_fits = refl;
      rows_sound = confirming_cases
          (λ p. every_from (row_sound (row_use p (count_peers node.counted)) n) 0 node.rows ≡ true → every_from (row_sound row_uses.Stored n) 0 node.rows ≡ true)
          (λ h. h) (λ h. h) node.phase e S.rows_sound;
      counted_sound = none_sound k n;
      asked_sound = none_sound k n;
      counts_fit = refl;
      among = refl;
    }

    -- Table, before the (f + 1)-th
    module _ (items : List Item) (zeros : (j : ℕ) → n ≤ j → get_or items j zero_item ≡ zero_item) (e : is_fetching node.phase ≡ true) where
      fetched_rows : every_from (row_sound row_uses.Fetched n) 0 (merge_rows (none_counted node) node.rows items) ≡ true
      unfolding row_use
      fetched_rows = merged_sound (none_counted node) n 0 node.rows items
          (fetching_cases
          (λ p. every_from (row_sound (row_use p (count_peers node.counted)) n) 0 node.rows ≡ true → every_from (row_sound row_uses.Fetched n) 0 node.rows ≡ true)
          (by_cond (λ (u : RowUse). every_from (row_sound u n) 0 node.rows ≡ true → every_from (row_sound row_uses.Fetched n) 0 node.rows ≡ true)
          (eqb (count_peers node.counted) 0) _ _
          (λ _. every_weaker (row_sound row_uses.Zero n) (row_sound row_uses.Fetched n) (unused_fetched n) 0 node.rows) (λ _ h. h))
          node.phase e S.rows_sound)
          (λ j m. zeros j (omega arith))

      pub table_counted : s < length node.counted → ltb (count_peers (with_table node s i items).counted) (suc (half node.n)) ≡ true
          → Soundly n k (with_table node s i items)
      unfolding with_table with_rows with_counted row_use phase_counts counted_asked
      table_counted there few =
          let peers : List Peer = set node.counted s (peer_under i) in
          let less : ltb (count_peers peers) (suc (half n)) ≡ true = subst (λ (m : ℕ). ltb (count_peers peers) (suc (half m)) ≡ true) S.size_is few in
          let used : eqb (count_peers peers) 0 ≡ false = ne_eqb (count_peers peers) 0 (not_none node.counted s i there) in
          record {
            number_is = S.number_is;
            size_is = S.size_is;
            attempt_fits = S.attempt_fits;
            rows_sound = rows_in row_uses.Fetched n node.phase (count_peers peers) (merge_rows (none_counted node) node.rows items)
                (fetching_cases (λ p. row_use p (count_peers peers) ≡ row_uses.Fetched) (ap (λ (b : Bool). cond b row_uses.Zero row_uses.Fetched) used) node.phase e)
                fetched_rows;
            counted_sound = peer_set k n node.counted s i l d S.counted_sound;
            asked_sound = S.asked_sound;
            counts_fit = fetching_cases
                (λ p. phase_counts p (half n) (count_peers node.counted) (count_peers node.asked) ≡ true → phase_counts p (half n) (count_peers peers) (count_peers node.asked) ≡ true)
                (λ h. and_both less (and_right (ltb (count_peers node.counted) (suc (half n))) (eqb (count_peers node.asked) 0) h))
                node.phase e S.counts_fit;
            among = fetching_cases (λ p. counted_asked p peers node.asked ≡ true) refl node.phase e;
          }

      -- the (f + 1)-th, without a mark: the own item is written back
      pub back_sound : length node.rows ≡ max_nodes → k < n → 0 < half n → has_conflict (with_table node s i items) ≡ false
          → Soundly n k (written_back (with_table node s i items))
      unfolding written_back with_table with_rows with_counted has_conflict
      back_sound size below f none =
          begun_sound n k (with_table node s i items) S.number_is S.size_is (Returning Storing) (record { 0 = 1 }) (own_item (with_table node s i items))
          refl below f
          (rebuilt_sound n 0 (merge_rows (none_counted node) node.rows items) fetched_rows
          (none_marked (merge_rows (none_counted node) node.rows items) none))
