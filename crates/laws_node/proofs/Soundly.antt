-- What soundness says, field by field; how it holds of lists of rows and peers; and the changes that make a node anew: Down,
-- Fetching, and the beginning of a write.
use Prim.Native.Nat.{ℕ, suc, ◌+◌, ◌<◌}
use native.Mathlib.Omega.{arith}
use mathlib.Core.Path.{◌≡◌, refl, sym, ap, subst}
use mathlib.Core.Logic.{◌≢◌}
use mathlib.Core.Bool.{true, not, ◌&&◌}
use mathlib.Core.List.{List}
use lib.Dec.{ltb}
use lib.ListN.{set}
use borrow.Author.Tests.{lt-ltb, eqb-true, eq-eqb, ne_eqb}
use Rattle.item.specs.Counter.{same_incarnation, same_attempt}
use Rattle.item.specs.Maxima.{max_nodes}
use Rattle.item.specs.Row.{zero_row}
use Rattle.item.proofs.Tests.{and_left, and_right, and_both}
use Rattle.item.specs.declared.counters.Attempt.{Attempt}
use Rattle.item.specs.declared.counters.Incarnation.{Incarnation}
use Rattle.item.specs.declared.Item.{Item}
use Rattle.item.specs.declared.Row.{Row}
use Rattle.protocol.specs.Node.{no_peer, no_peers, peer_under, half, stored_row, peer_of, count_peers, blank_node, crashed, started, storing_begun}
use Rattle.protocol.specs.Phase.{is_storing}
use Rattle.protocol.specs.Sound.{every_from, row_use, row_sound, peer_sound, stage_counts, phase_counts, attempt_fits, among_asked, counted_asked, rows_sound, peers_sound, sound_node}
use Rattle.protocol.specs.declared.Node.{Node}
use Rattle.protocol.specs.declared.Peer.{Peer}
use Rattle.std.specs.Prelude.{is_some}
use Rattle.protocol.specs.declared.Phase.{Phase}
use Rattle.protocol.specs.declared.RowUse.{RowUse}
use Rattle.protocol.specs.declared.RowUse.TheVariants as row_uses
use Rattle.laws_node.proofs.Every.{every_set, every_same}
use Rattle.laws_node.proofs.PhaseCases.{storing_cases}
use Rattle.laws_node.proofs.SoundRows.{zero_sound, stored_sound}

-- what soundness says, field by field
pub record Soundly (n k : ℕ) (node : Node) : Type 0 where
  pub number_is : node.number ≡ k
  pub size_is : node.n ≡ n
  pub attempt_fits : attempt_fits node.phase node.attempt ≡ true
  pub rows_sound : every_from (row_sound (row_use node.phase (count_peers node.counted)) n) 0 node.rows ≡ true
  pub counted_sound : peers_sound k n node.counted ≡ true
  pub asked_sound : peers_sound k n node.asked ≡ true
  pub counts_fit : phase_counts node.phase (half n) (count_peers node.counted) (count_peers node.asked) ≡ true
  pub among : counted_asked node.phase node.counted node.asked ≡ true

pub read_sound : (n k : ℕ) (node : Node) → sound_node n k node ≡ true → Soundly n k node
unfolding sound_node rows_sound
read_sound n k node e =
    let last : (peers_sound k n node.asked &&
    (phase_counts node.phase (half n) (count_peers node.counted) (count_peers node.asked) &&
    counted_asked node.phase node.counted node.asked)) ≡ true = search and_right in
    record {
      number_is = search (and_left, eqb-true);
      size_is = search (and_left, and_right, eqb-true);
      attempt_fits = search (and_left, and_right);
      rows_sound = search (and_left, and_right);
      counted_sound = search (and_left, and_right);
      asked_sound = search (and_left, and_right);
      counts_fit = search (and_left, and_right);
      among = search (and_left, and_right);
    }

pub is_sound : (n k : ℕ) (node : Node) → Soundly n k node → sound_node n k node ≡ true
unfolding sound_node rows_sound
is_sound n k node s =
    and_both (eq-eqb node.number k s.number_is) (and_both (eq-eqb node.n n s.size_is)
    (and_both s.attempt_fits (and_both s.rows_sound (and_both s.counted_sound (and_both s.asked_sound
    (and_both s.counts_fit s.among))))))

-- ---- lists of rows and peers

pub rows_in : (u : RowUse) (n : ℕ) (p : Phase) (c : ℕ) (rows : List Row) → row_use p c ≡ u → every_from (row_sound u n) 0 rows ≡ true
    → every_from (row_sound (row_use p c) n) 0 rows ≡ true
rows_in u n p c rows e h = subst (λ (v : RowUse). every_from (row_sound v n) 0 rows ≡ true) (sym e) h

pub rows_of : (u : RowUse) (n : ℕ) (p : Phase) (c : ℕ) (rows : List Row) → row_use p c ≡ u → every_from (row_sound (row_use p c) n) 0 rows ≡ true
    → every_from (row_sound u n) 0 rows ≡ true
rows_of u n p c rows e h = subst (λ (v : RowUse). every_from (row_sound v n) 0 rows ≡ true) e h

pub row_set : (n : ℕ) (rows : List Row) (q : ℕ) (item : Item) (i : Incarnation) (a : Attempt) → q < n
    → every_from (row_sound row_uses.Stored n) 0 rows ≡ true → every_from (row_sound row_uses.Stored n) 0 (set rows q (stored_row item i a)) ≡ true
row_set n rows q item i a l h =
    every_set (row_sound row_uses.Stored n) 0 rows q (stored_row item i a) h (λ j d. stored_sound n j item i a (omega arith))

pub none_sound : (k n : ℕ) → peers_sound k n no_peers ≡ true
unfolding peers_sound peer_sound same_incarnation
none_sound k n = every_same (peer_sound k n) no_peer (λ j. refl) max_nodes 0

pub peer_set : (k n : ℕ) (peers : List Peer) (q : ℕ) (i : Incarnation) → q < n → q ≢ k → peers_sound k n peers ≡ true
    → peers_sound k n (set peers q (peer_under i)) ≡ true
unfolding peers_sound peer_sound
peer_set k n peers q i l d h =
    every_set (peer_sound k n) 0 peers q (peer_under i) h
    (λ j e. and_both (lt-ltb j n (omega arith)) (ap not (ne_eqb j k (λ (z : j ≡ k). d (same q j k e z)))))
  where
    same : (q j k : ℕ) → j ≡ 0 + q → j ≡ k → q ≡ k
    same q j k e z = omega arith

pub none_fewer : (n : ℕ) → 0 < half n → ltb (count_peers no_peers) (half n) ≡ true
unfolding count_peers
none_fewer n f = lt-ltb 0 (half n) f

-- nobody counted is among any
pub none_among : (asked : List Peer) → every_from (among_asked asked) 0 no_peers ≡ true
unfolding among_asked
none_among asked = every_same (among_asked asked) no_peer (λ j. refl) max_nodes 0

-- one more is counted, who was asked
pub among_set : (asked counted : List Peer) (s : ℕ) (i : Incarnation) → is_some (peer_of asked s) ≡ true
    → every_from (among_asked asked) 0 counted ≡ true → every_from (among_asked asked) 0 (set counted s (peer_under i)) ≡ true
unfolding among_asked
among_set asked counted s i h e =
    every_set (among_asked asked) 0 counted s (peer_under i) e
    (λ j z. let same : s ≡ j = omega arith in subst (λ (q : ℕ). is_some (peer_of asked q) ≡ true) same h)

-- ---- Down, and Fetching before the first table

module _ (n k : ℕ) (node : Node) (number : node.number ≡ k) (size : node.n ≡ n) where
  pub crashed_sound : Soundly n k (crashed node)
  unfolding crashed blank_node attempt_fits same_attempt row_use phase_counts count_peers counted_asked
  crashed_sound = record {
    number_is = number;
    size_is = size;
    attempt_fits = refl;
    rows_sound = every_same (row_sound row_uses.Zero n) zero_row (zero_sound row_uses.Zero n) max_nodes 0;
    counted_sound = none_sound k n;
    asked_sound = none_sound k n;
    counts_fit = refl;
    among = refl;
  }

  pub started_sound : Soundly n k (started node)
  unfolding started attempt_fits same_attempt row_use phase_counts count_peers counted_asked
  started_sound = record {
    number_is = number;
    size_is = size;
    attempt_fits = refl;
    rows_sound = every_same (row_sound row_uses.Zero n) zero_row (zero_sound row_uses.Zero n) max_nodes 0;
    counted_sound = none_sound k n;
    asked_sound = none_sound k n;
    counts_fit = and_both (lt-ltb 0 (suc (half n)) (omega arith)) refl;
    among = refl;
  }

  -- ---- a write begins

  pub begun_sound : (phase : Phase) (a : Attempt) (item : Item) → is_storing phase ≡ true → k < n → 0 < half n
      → every_from (row_sound row_uses.Stored n) 0 node.rows ≡ true → Soundly n k (storing_begun node phase a item)
  unfolding storing_begun attempt_fits row_use phase_counts stage_counts count_peers counted_asked
  begun_sound phase a item e l f h = record {
    number_is = number;
    size_is = size;
    attempt_fits = storing_cases (λ p. attempt_fits p a ≡ true) refl refl phase e;
    rows_sound = rows_in row_uses.Stored n phase 0 (set node.rows node.number (stored_row item node.incarnation a))
        (storing_cases (λ p. row_use p 0 ≡ row_uses.Stored) refl refl phase e)
        (row_set n node.rows node.number item node.incarnation a (omega arith) h);
    counted_sound = none_sound k n;
    asked_sound = none_sound k n;
    counts_fit = storing_cases (λ p. phase_counts p (half n) 0 0 ≡ true) (and_both (lt-ltb 0 (half n) f) refl) (and_both (lt-ltb 0 (half n) f) refl) phase e;
    among = storing_cases (λ p. counted_asked p no_peers no_peers ≡ true) refl refl phase e;
  }
