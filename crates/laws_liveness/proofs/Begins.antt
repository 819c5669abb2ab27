-- A decision that begins a write, carried out: afterwards the write has just begun, and so it gets through.
use Prim.Native.Nat.{ℕ, ◌+◌, ◌-◌, ◌≤◌, ◌<◌}
use native.Mathlib.Omega.{arith}
use mathlib.Core.Path.{◌≡◌, refl, sym, ap, ◌∙◌}
use mathlib.Core.Logic.{◌≢◌}
use mathlib.Core.Bool.{Bool, true, cond}
use mathlib.Core.List.{List}
use borrow.Author.Tests.{ne_eqb}
use Rattle.store.specs.Change.{count_outgoing}
use Rattle.store.specs.Records.{records_of}
use Rattle.store.specs.Sound.{free_count, message_in}
use Rattle.protocol.specs.Answer.{ok}
use Rattle.protocol.specs.Node.{half, no_peers, row_of, own_item}
use Rattle.operations.specs.Operation.{Result, carried_out}
use Rattle.protocol.specs.Outgoing.{outgoing, message_to, envelope_to}
use Rattle.message.specs.declared.Message.{Message}
use Rattle.message.specs.declared.Message.TheVariants as message
use Rattle.protocol.specs.Phase.{is_up}
use Rattle.protocol.specs.Table.{node_at}
use Rattle.protocol.specs.Write.{send_store}
use Rattle.protocol.specs.declared.Node.{Node}
use Rattle.protocol.specs.declared.Phase.TheVariants.{Up}
use Rattle.protocol.specs.declared.Stage.TheVariants.{Storing}
use Rattle.protocol.proofs.InView.{number_is, size_is, size_fits}
use Rattle.laws_enabled.specs.Acting.{row_takes}
use Rattle.laws_enabled.proofs.Sent.{others_sent}
use Rattle.laws_runs.specs.Laws.{LeavesSound}
use Rattle.laws_runs.proofs.Keeps.{Decided, group_valid}
use Rattle.laws_liveness.specs.Delivery.{store_to}
use Rattle.laws_liveness.specs.Each.{Each, Both}
use Rattle.laws_liveness.specs.Laws.{Peers, HasBegun, WriteGetsThrough, BeginsAndGetsThrough}
use Rattle.laws_liveness.proofs.Delivering.{Acted, out_sent, carried_acted, replaced, left_alone}
use Rattle.laws_liveness.proofs.Lists.{each_map, each_two, both_of}
use Rattle.laws_liveness.proofs.Through.{write_gets_through}
use Rattle.std.specs.Prelude.{Some, None}

module _ (n x : ℕ) (low : x < n) (before : Result) (G : LeavesSound n before) (writer : Node) (D : Decided n before.table x x (send_store writer))
    (storing : writer.phase ≡ Up Storing) (none : writer.counted ≡ no_peers)
    (room : n - 1 + (half n + half n + half n) ≤ free_count (records_of before.store))
    (begun : Result) (begun_is : begun ≡ carried_out before.table before.store (records_of before.store) x x (send_store writer))
    (group : LeavesSound n begun) where
  number : writer.number ≡ x
  unfolding send_store ok
  number = number_is n x writer D.sound

  size : writer.n ≡ n
  unfolding send_store ok
  size = size_is n x writer D.sound

  sent : count_outgoing (outgoing (send_store writer).node (send_store writer).sends x) ≡ n - 1
  unfolding send_store ok
  sent =
      others_sent writer x _ (omega (arith, number, size)) (omega (arith, size, size_fits n (group_valid n before.table before.store G)))
      ∙ ap (λ (i : ℕ). i - 1) size

  acted : Acted n before x x (send_store writer) begun
  unfolding send_store ok
  acted = carried_acted n before G x x (send_store writer) D refl (omega (arith, sent)) begun begun_is group

  x_is : node_at begun.table x ≡ writer
  unfolding send_store ok
  x_is = replaced n before begun G x low writer acted.table_is

  q_is : (q : ℕ) → q ≢ x → node_at begun.table q ≡ node_at before.table q
  unfolding send_store ok
  q_is = left_alone n before begun G x low writer acted.table_is

  store_sent : (q : ℕ) → q < n → q ≢ x
      → (r : ℕ) × (message_in (records_of begun.store) r ≡ Some (store_to (node_at begun.table x) q (node_at begun.table q).incarnation))
  unfolding send_store ok message_to
  store_sent q h d =
      let m : Message = message.Store writer.attempt (own_item writer) in
      let s = acted.mail.new (envelope_to writer q m)
      (out_sent writer (send_store writer).sends x q m (omega (arith, size, size_fits n (group_valid n before.table before.store G))) (omega (arith, size))
      (ap (λ (b : Bool). cond b None (Some m)) (ne_eqb q writer.number (λ z. d (z ∙ number))))) in
      (s.0, s.1 ∙ ap (λ (v : Node). Some (store_to v q (node_at begun.table q).incarnation)) (sym x_is))

  -- f peers that are Up and whose rows take the item
  module _ (peers : List ℕ) (P : Peers n x peers) (up : Each (λ q. is_up (node_at before.table q).phase ≡ true) peers)
      (taken : Each (λ q. row_takes (row_of (node_at before.table q) x) writer.incarnation writer.attempt (own_item writer) ≡ true) peers) where
    not_x : Each (λ q. q ≢ x) peers
    not_x = each_map (λ q. (q < n) × (q ≢ x)) (λ q. q ≢ x) (λ q z. z.1) peers P.others

    has_begun : (records : List ℕ)
        → Both (λ q r. message_in (records_of begun.store) r ≡ Some (store_to (node_at begun.table x) q (node_at begun.table q).incarnation)) peers records
        → HasBegun n x peers records begun
    has_begun records stores =
        record {
          sound = group;
          below = low;
          storing = ap (λ (v : Node). v.phase) x_is ∙ storing;
          none_counted = ap (λ (v : Node). v.counted) x_is ∙ none;
          stores = stores;
          up = each_map (λ q. (q ≢ x) × (is_up (node_at before.table q).phase ≡ true)) (λ q. is_up (node_at begun.table q).phase ≡ true)
              (λ q z. ap (λ (v : Node). is_up v.phase) (q_is q z.0) ∙ z.1) peers
              (each_two (λ q. q ≢ x) (λ q. is_up (node_at before.table q).phase ≡ true) peers not_x up);
          taken = each_map
              (λ q. (q ≢ x) × (row_takes (row_of (node_at before.table q) x) writer.incarnation writer.attempt (own_item writer) ≡ true))
              (λ q. row_takes (row_of (node_at begun.table q) x) (node_at begun.table x).incarnation (node_at begun.table x).attempt
              (own_item (node_at begun.table x)) ≡ true)
              (λ q z. ap (λ (v : Node). row_takes (row_of (node_at begun.table q) x) v.incarnation v.attempt (own_item v)) x_is
              ∙ ap (λ (v : Node). row_takes (row_of v x) writer.incarnation writer.attempt (own_item writer)) (q_is q z.0) ∙ z.1) peers
              (each_two (λ q. q ≢ x) (λ q. row_takes (row_of (node_at before.table q) x) writer.incarnation writer.attempt (own_item writer) ≡ true)
              peers not_x taken);
          room = omega (arith, acted.mail.fewer, sent);
        }

    pub begins : BeginsAndGetsThrough x peers (own_item writer) begun
    unfolding WriteGetsThrough send_store ok
    begins =
        let s = both_of (λ q r. message_in (records_of begun.store) r ≡ Some (store_to (node_at begun.table x) q (node_at begun.table q).incarnation)) peers
        (each_map (λ q. (q < n) × (q ≢ x))
        (λ q. (r : ℕ) × (message_in (records_of begun.store) r ≡ Some (store_to (node_at begun.table x) q (node_at begun.table q).incarnation)))
        (λ q z. store_sent q z.0 z.1) peers P.others) in
        record {
          is_ok = acted.answer_is;
          item_is = ap own_item x_is;
          through = write_gets_through n x peers s.0 begun P (has_begun s.0 s.1);
        }
