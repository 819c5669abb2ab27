-- When a node is sound at its place (document 01, Message store): "each with its place as number, this n, and unused
-- fields zero; those it counted are below n, not itself, and fewer than f (Storing, Confirming) or f+1 (Fetching); those
-- asked to confirm are exactly f others below n, and the counted are among them."
use Rattle.std.specs.Prelude.{ℕ, suc, Bool, true, cond, not, ◌&&◌, List, [], ◌∷◌, ltb, eqb, is_some}
use Rattle.item.specs.Counter.{same_incarnation, same_attempt}
use Rattle.item.specs.Row.{zero_row, same_row}
use Rattle.item.specs.declared.counters.Attempt.{Attempt}
use Rattle.item.specs.declared.Row.{Row}
use Rattle.protocol.specs.Node.{half, count_peers, peer_of}
use Rattle.protocol.specs.Phase.{is_confirming}
use Rattle.protocol.specs.declared.Node.{Node}
use Rattle.protocol.specs.declared.Peer.{Peer}
use Rattle.protocol.specs.declared.Phase.{Phase}
use Rattle.protocol.specs.declared.Phase.TheVariants.{Down, Fetching, Returning, Up}
use Rattle.protocol.specs.declared.RowUse.{RowUse}
use Rattle.protocol.specs.declared.RowUse.TheVariants as row_uses
use Rattle.protocol.specs.declared.Stage.{Stage}
use Rattle.protocol.specs.declared.Stage.TheVariants.{Idle, Storing, Confirming}

-- a test of every element of a list, each with its place, counted from k
unfoldable pub every_from : {A : Type 0} → (ℕ → A → Bool) → ℕ → List A → Bool
every_from test k [] = true
every_from test k (x ∷ xs) = test k x && every_from test (suc k) xs

-- "rows from n on" are zero in every phase; of the rows below n a node Down uses nothing, a node Fetching nothing "until a
-- table is counted" and then no counters, and the others no marks
unfoldable pub row_use : Phase → ℕ → RowUse
row_use Down counted = row_uses.Zero
row_use Fetching counted = cond (eqb counted 0) row_uses.Zero row_uses.Fetched
row_use (Returning stage) counted = row_uses.Stored
row_use (Up stage) counted = row_uses.Stored

unfoldable pub row_fits : RowUse → Row → Bool
row_fits row_uses.Zero row = same_row row zero_row
row_fits row_uses.Fetched row =
    same_incarnation row.incarnation (record { 0 = 0 }) && same_attempt row.attempt (record { 0 = 0 })
row_fits row_uses.Stored row = not row.marked

unfoldable pub row_sound : RowUse → ℕ → ℕ → Row → Bool
row_sound held n k row = cond (ltb k n) (row_fits held row) (row_fits row_uses.Zero row)

-- "below n, not itself"; of one that is absent nothing is kept
unfoldable pub peer_sound : ℕ → ℕ → ℕ → Peer → Bool
peer_sound number n k peer =
    cond peer.present (ltb k n && not (eqb k number)) (same_incarnation peer.incarnation (record { 0 = 0 }))

-- how many are counted and asked in each stage of a write
unfoldable pub stage_counts : Stage → ℕ → ℕ → ℕ → Bool
stage_counts Idle f counted asked = eqb counted 0 && eqb asked 0
stage_counts Storing f counted asked = ltb counted f && eqb asked 0
stage_counts Confirming f counted asked = ltb counted f && eqb asked f

-- and in each phase
unfoldable pub phase_counts : Phase → ℕ → ℕ → ℕ → Bool
phase_counts Down f counted asked = eqb counted 0 && eqb asked 0
phase_counts Fetching f counted asked = ltb counted (suc f) && eqb asked 0
phase_counts (Returning stage) f counted asked = stage_counts stage f counted asked
phase_counts (Up stage) f counted asked = stage_counts stage f counted asked

-- "when Down also attempt .. when Fetching also attempt"
unfoldable pub attempt_fits : Phase → Attempt → Bool
attempt_fits Down attempt = same_attempt attempt (record { 0 = 0 })
attempt_fits Fetching attempt = same_attempt attempt (record { 0 = 0 })
attempt_fits (Returning stage) attempt = true
attempt_fits (Up stage) attempt = true

-- "the counted are among them", where some are asked
unfoldable pub among_asked : List Peer → ℕ → Peer → Bool
among_asked asked k peer = cond peer.present (is_some (peer_of asked k)) true

unfoldable pub counted_asked : Phase → List Peer → List Peer → Bool
counted_asked phase counted asked = cond (is_confirming phase) (every_from (among_asked asked) 0 counted) true

unfoldable pub rows_sound : ℕ → Node → Bool
rows_sound n node = every_from (row_sound (row_use node.phase (count_peers node.counted)) n) 0 node.rows

unfoldable pub peers_sound : ℕ → ℕ → List Peer → Bool
peers_sound number n peers = every_from (peer_sound number n) 0 peers

unfoldable pub sound_node : ℕ → ℕ → Node → Bool
sound_node n place node =
    eqb node.number place && (eqb node.n n && (attempt_fits node.phase node.attempt && (rows_sound n node &&
    (peers_sound place n node.counted && (peers_sound place n node.asked &&
    (phase_counts node.phase (half n) (count_peers node.counted) (count_peers node.asked) &&
    counted_asked node.phase node.counted node.asked))))))
