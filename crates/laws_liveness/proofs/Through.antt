-- A write that has just begun gets through: the four rounds, one after the other.
use Prim.Native.Nat.{ℕ, zero, suc, ◌+◌, ◌-◌, ◌≤◌, ◌<◌}
use native.Mathlib.Omega.{arith}
use mathlib.Core.Path.{◌≡◌, refl, sym, ap, subst, ◌∙◌}
use mathlib.Core.Logic.{◌≢◌}
use mathlib.Core.Bool.{true, false}
use mathlib.Core.List.{List, [], ◌∷◌, ◌++◌, map}
use lib.ListN.{length}
use Rattle.store_laws.proofs.Sound.{size_least}
use Rattle.item.specs.Maxima.{max_nodes, valid_size}
use Rattle.item.specs.declared.counters.Attempt.{Attempt}
use Rattle.item.specs.declared.counters.Incarnation.{Incarnation}
use Rattle.item.specs.declared.Item.{Item}
use Rattle.message.specs.declared.Message.TheVariants as message
use Rattle.store.specs.Change.{count_outgoing}
use Rattle.store.specs.Records.{records_of}
use Rattle.store.specs.Sound.{free_count, message_in}
use Rattle.protocol.specs.Answer.{ok}
use Rattle.protocol.specs.Node.{half, no_peers, row_of, own_item, peer_of, count_peers, confirming_begun}
use Rattle.operations.specs.Operation.{Result}
use Rattle.protocol.specs.Outgoing.{outgoing, message_to, envelope_to}
use Rattle.protocol.specs.Phase.{is_up, at_stage}
use Rattle.protocol.specs.Sound.{sound_node}
use Rattle.protocol.specs.Storing.{send_confirm, store_success}
use Rattle.protocol.specs.Table.{node_at}
use Rattle.protocol.specs.Shaped.{Shaped}
use Rattle.protocol.proofs.TableLaws.{node_sound}
use Rattle.protocol.specs.declared.Answer.{Answer}
use Rattle.protocol.specs.declared.Answer.TheVariants as answer
use Rattle.protocol.specs.declared.Node.{Node}
use Rattle.protocol.specs.declared.Peer.{Peer}
use Rattle.protocol.specs.declared.Sends.TheVariants as sends
use Rattle.protocol.specs.declared.Stage.TheVariants.{Confirming}
use Rattle.protocol.proofs.Counts.{none_present}
use Rattle.protocol.proofs.InView.{number_is, size_is, size_fits}
use Rattle.laws_runs.specs.Laws.{LeavesSound}
use Rattle.laws_runs.proofs.Keeps.{group_valid, group_table}
use Rattle.laws_enabled.specs.Acting.{row_takes}
use Rattle.laws_liveness.specs.Delivery.{Delivery, Deliver, oks, envelope_of, store_to}
use Rattle.laws_liveness.specs.Each.{Each, Both, Distinct}
use Rattle.laws_liveness.specs.Laws.{WriteGetsThrough}
use Rattle.laws_liveness.proofs.Delivering.{Acted, out_sent, replaced}
use Rattle.laws_liveness.proofs.Lists.{each_map, each_all, each_two, both_map, both_of, deliver_join, each_some, map_four}
use Rattle.laws_liveness.proofs.Peer.{Answered, all_answer}
use Rattle.laws_liveness.proofs.Stages.{MayTake, Holding, store_answer, confirm_answer, AtStoring, to_confirm, stored_taken, storing_kept, confirm_fits, AtConfirming, confirmed_taken, confirming_kept, success_fits, confirming_at, settles}
use Rattle.laws_liveness.proofs.Writer.{Tallied, tally}
use Rattle.std.specs.Prelude.{Some, is_some, option_map}
use Rattle.message.specs.declared.Message.{Message}

some_half : (n : ℕ) → valid_size n ≡ true → 0 < half n
unfolding half
some_half n v = let h : 3 ≤ n = size_least n v in omega arith

oks_end : (k : ℕ) → oks k ++ (answer.Ok ∷ []) ≡ oks (suc k)
unfolding oks
oks_end zero = refl
oks_end (suc k) = ap (λ (l : List Answer). answer.Ok ∷ l) (oks_end k)

none_counted_lem : count_peers no_peers ≡ 0
unfolding count_peers
none_counted_lem = refl

module _ (n x : ℕ) (x_low : x < n) (i : Incarnation) (a : Attempt) (item : Item) (under : ℕ → Incarnation)
    (peers : List ℕ) (others : Each (λ q. (q < n) × (q ≢ x)) peers) (distinct : Distinct peers) (count : length peers ≡ half n) where
  lows : Each (λ q. q < n) peers
  lows = each_map (λ q. (q < n) × (q ≢ x)) (λ q. q < n) (λ q z. z.0) peers others

  not_x : Each (λ q. q ≢ x) peers
  not_x = each_map (λ q. (q < n) × (q ≢ x)) (λ q. q ≢ x) (λ q z. z.1) peers others

  stored_round : (before : Result) → LeavesSound n before → (qs rs : List ℕ) → Distinct qs → Each (λ q. q < n) qs → length qs ≡ half n
      → Both (λ q r. message_in (records_of before.store) r ≡ Some (envelope_of q x (under q) (message.Stored i a item))) qs rs
      → AtStoring n x i a item under 0 (node_at before.table x) → (node_at before.table x).counted ≡ no_peers → half n ≤ free_count (records_of before.store)
      → Tallied n x x_low under (message.Stored i a item) (to_confirm n x i a item under) (AtStoring n x i a item under) (half n)
      (stored_taken n x i a item under) (storing_kept n x i a item under) (confirm_fits n x i a item under) qs before
  unfolding Both Each
  stored_round before G [] rs d l c h w none room = absurd (omega (arith, some_half n (group_valid n before.table before.store G)))
  stored_round before G (q ∷ qs) [] d l c h w none room = absurd h
  stored_round before G (q ∷ qs) (r ∷ rs) d l c h w none room =
      tally n x x_low under (message.Stored i a item) (to_confirm n x i a item under) (AtStoring n x i a item under) (half n)
      (stored_taken n x i a item under) (storing_kept n x i a item under) (confirm_fits n x i a item under) q qs r rs d l before G h
      (each_all (λ p. AtStoring n x i a item under p (node_at before.table x)) (λ p. w) (q ∷ qs))
      (each_all (λ p. is_some (peer_of (node_at before.table x).counted p) ≡ false) (λ p. ap (λ (l : List Peer). is_some (peer_of l p)) none ∙ none_present p) (q ∷ qs))
      (omega (arith, ap count_peers none, none_counted_lem)) room

  confirmed_round : (before : Result) → LeavesSound n before → (qs rs : List ℕ) → Distinct qs → Each (λ q. q < n) qs → length qs ≡ half n
      → Both (λ q r. message_in (records_of before.store) r ≡ Some (envelope_of q x (under q) (message.Confirmed i a item))) qs rs
      → Each (λ p. AtConfirming n x i a item under p (node_at before.table x)) qs → (node_at before.table x).counted ≡ no_peers
      → Tallied n x x_low under (message.Confirmed i a item) store_success (AtConfirming n x i a item under) 0
      (confirmed_taken n x i a item under) (confirming_kept n x i a item under) (success_fits n x i a item under) qs before
  unfolding Both Each
  confirmed_round before G [] rs d l c h w none = absurd (omega (arith, some_half n (group_valid n before.table before.store G)))
  confirmed_round before G (q ∷ qs) [] d l c h w none = absurd h
  confirmed_round before G (q ∷ qs) (r ∷ rs) d l c h w none =
      tally n x x_low under (message.Confirmed i a item) store_success (AtConfirming n x i a item under) 0
      (confirmed_taken n x i a item under) (confirming_kept n x i a item under) (success_fits n x i a item under) q qs r rs d l before G h
      w
      (each_all (λ p. is_some (peer_of (node_at before.table x).counted p) ≡ false) (λ p. ap (λ (l : List Peer). is_some (peer_of l p)) none ∙ none_present p) (q ∷ qs))
      (omega (arith, ap count_peers none, none_counted_lem)) (omega arith)

  pub x_small : (before : Result) → LeavesSound n before → x < max_nodes
  x_small before G = omega (arith, size_fits n (group_valid n before.table before.store G))

  begun_none : (node : Node) → (to_confirm n x i a item under node).node.counted ≡ no_peers
  unfolding send_confirm ok confirming_begun
  begun_none node = refl

  -- the Confirms that the f-th Stored sends
  confirm_sent : (middle after : Result) → LeavesSound n middle → (node : Node) (back : ℕ) → Acted n middle x back (to_confirm n x i a item under node) after
      → AtStoring n x i a item under 0 node → (q : ℕ) → q < n → peer_of node.counted q ≡ Some (under q)
      → (r : ℕ) × (message_in (records_of after.store) r ≡ Some (envelope_of x q i (message.Confirm (under q) a item)))
  unfolding send_confirm ok confirming_begun message_to own_item row_of
  confirm_sent middle after G node back A w q low e =
      (s.0, s.1 ∙ (λ j. Some (envelope_of (number j) q (w.1.0 j) (message.Confirm (under q) (w.1.1 j) (w.1.2 j)))))
    where
      next : Node
      next = confirming_begun node (at_stage node.phase Confirming)

      is_next : node_at after.table x ≡ next
      is_next = replaced n middle after G x x_low next A.table_is

      sound : sound_node n x next ≡ true
      sound = subst (λ (v : Node). sound_node n x v ≡ true) is_next (node_sound n after.table (group_table n after.table after.store A.group) x x_low)

      number : node.number ≡ x
      number = number_is n x next sound

      size : node.n ≡ n
      size = size_is n x next sound

      to_q : Message
      to_q = message.Confirm (under q) next.attempt (own_item next)

      s : (r : ℕ) × (message_in (records_of after.store) r ≡ Some (envelope_to next q to_q))
      s = A.mail.new (envelope_to next q to_q)
          (out_sent next (sends.Asked next.attempt (own_item next)) back q to_q
          (omega (arith, size, size_fits n (group_valid n middle.table middle.store G))) (omega (arith, size))
          (ap (option_map (λ (o : Incarnation). message.Confirm o next.attempt (own_item next))) e))

  -- ---- the four rounds

  pub record Whole (before : Result) : Type 0 where
    pub deliveries : List Delivery
    pub after : Result
    pub goes : Deliver before deliveries after
    pub messages : map (λ d. d.message) deliveries
        ≡ map (λ q. envelope_of x q i (message.Store a item)) peers ++ (map (λ q. envelope_of q x (under q) (message.Stored i a item)) peers ++
        (map (λ q. envelope_of x q i (message.Confirm (under q) a item)) peers ++ map (λ q. envelope_of q x (under q) (message.Confirmed i a item)) peers))
    pub answers : map (λ d. d.answer) deliveries
        ≡ oks (length peers) ++ (oks (length peers) ++ (oks (length peers) ++ (oks (length peers - 1) ++ (answer.Settled item ∷ []))))

  module _ (before : Result) (G : LeavesSound n before) (rs : List ℕ)
      (stores : Both (λ q r. message_in (records_of before.store) r ≡ Some (envelope_of x q i (message.Store a item))) peers rs)
      (ready : Each (λ q. MayTake x (x_small before G) i a item under q (node_at before.table q)) peers)
      (w : AtStoring n x i a item under 0 (node_at before.table x)) (none : (node_at before.table x).counted ≡ no_peers)
      (room : half n + half n + half n ≤ free_count (records_of before.store)) where
    abbrev small : x < max_nodes
    small = x_small before G

    A1 : Answered n x x_low i (λ q. message.Store a item) (λ q. message.Stored i a item) under (MayTake x small i a item under) (Holding x small i a item under)
        (store_answer x small i a item under) peers before
    A1 = all_answer n x x_low i (λ q. message.Store a item) (λ q. message.Stored i a item) under (MayTake x small i a item under) (Holding x small i a item under)
        (store_answer x small i a item under) peers rs distinct lows before G stores ready (omega (arith, count))

    x_same : node_at A1.after.table x ≡ node_at before.table x
    x_same = A1.same x not_x

    T2 : Tallied n x x_low under (message.Stored i a item) (to_confirm n x i a item under) (AtStoring n x i a item under) (half n)
        (stored_taken n x i a item under) (storing_kept n x i a item under) (confirm_fits n x i a item under) peers A1.after
    T2 = stored_round A1.after A1.group peers A1.records distinct lows count A1.replies
        (subst (AtStoring n x i a item under 0) (sym x_same) w) (ap (λ (v : Node). v.counted) x_same ∙ none) (omega (arith, A1.fewer, count))

    w2 : AtStoring n x i a item under 0 T2.node
    w2 = T2.ready 0 (subst (AtStoring n x i a item under 0) (sym x_same) w)

    abbrev next : Node
    next = (to_confirm n x i a item under T2.node).node

    is_next : node_at T2.after.table x ≡ next
    is_next = replaced n T2.middle T2.after T2.middle_group x x_low next T2.acted.table_is

    asked : (rs : List ℕ) × Both (λ q r. message_in (records_of T2.after.store) r ≡ Some (envelope_of x q i (message.Confirm (under q) a item))) peers rs
    asked = both_of (λ q r. message_in (records_of T2.after.store) r ≡ Some (envelope_of x q i (message.Confirm (under q) a item))) peers
        (each_map (λ q. (q < n) × (peer_of T2.node.counted q ≡ Some (under q)))
        (λ q. (r : ℕ) × (message_in (records_of T2.after.store) r ≡ Some (envelope_of x q i (message.Confirm (under q) a item))))
        (λ q z. confirm_sent T2.middle T2.after T2.middle_group T2.node T2.back T2.acted w2 q z.0 z.1) peers
        (each_two (λ q. q < n) (λ q. peer_of T2.node.counted q ≡ Some (under q)) peers lows T2.marks))

    cost : count_outgoing (outgoing next (to_confirm n x i a item under T2.node).sends T2.back) ≤ half n
    cost = (confirm_fits n x i a item under T2.node T2.back
        (subst (λ (v : Node). sound_node n x v ≡ true) is_next (node_sound n T2.after.table (group_table n T2.after.table T2.after.store T2.acted.group) x x_low))
        (subst Shaped is_next (T2.acted.group.within.shaped x)) T2.full).1

    A3 : Answered n x x_low i (λ q. message.Confirm (under q) a item) (λ q. message.Confirmed i a item) under (Holding x small i a item under) (λ _ _. Unit {0})
        (confirm_answer x small i a item under) peers T2.after
    A3 = all_answer n x x_low i (λ q. message.Confirm (under q) a item) (λ q. message.Confirmed i a item) under (Holding x small i a item under) (λ _ _. Unit {0})
        (confirm_answer x small i a item under) peers asked.0 distinct lows T2.after T2.acted.group asked.1
        (each_map (λ q. (q ≢ x) × Holding x small i a item under q (node_at A1.after.table q)) (λ q. Holding x small i a item under q (node_at T2.after.table q))
        (λ q z. subst (Holding x small i a item under q) (sym (T2.same q z.0)) z.1) peers
        (each_two (λ q. q ≢ x) (λ q. Holding x small i a item under q (node_at A1.after.table q)) peers not_x A1.held))
        (omega (arith, A1.fewer, T2.free, T2.acted.mail.fewer, cost, count))

    x_next : node_at A3.after.table x ≡ next
    x_next = A3.same x not_x ∙ is_next

    w4 : Each (λ q. AtConfirming n x i a item under q (node_at A3.after.table x)) peers
    w4 = each_map (λ q. peer_of T2.node.counted q ≡ Some (under q)) (λ q. AtConfirming n x i a item under q (node_at A3.after.table x))
        (λ q z. subst (AtConfirming n x i a item under q) (sym x_next) (confirming_at n x i a item under T2.node w2 q z)) peers T2.marks

    T4 : Tallied n x x_low under (message.Confirmed i a item) store_success (AtConfirming n x i a item under) 0
        (confirmed_taken n x i a item under) (confirming_kept n x i a item under) (success_fits n x i a item under) peers A3.after
    T4 = confirmed_round A3.after A3.group peers A3.records distinct lows count A3.replies w4 (ap (λ (v : Node). v.counted) x_next ∙ begun_none T2.node)

    ends : (store_success T4.node).answer ≡ answer.Settled item
    ends =
        let p = each_some (λ q. AtConfirming n x i a item under q (node_at A3.after.table x)) peers (omega (arith, count, some_half n (group_valid n before.table before.store G))) w4 in
        settles n x i a item under T4.node p.0 (T4.ready p.0 p.1)

    stored_oks : map (λ (d : Delivery). d.answer) T2.deliveries ≡ oks (length peers)
    unfolding send_confirm ok
    stored_oks = T2.answered ∙ oks_end T2.first_oks ∙ ap oks T2.one_less

    last_settles : map (λ (d : Delivery). d.answer) T4.deliveries ≡ oks (length peers - 1) ++ (answer.Settled item ∷ [])
    last_settles =
        let less : T4.first_oks ≡ length peers - 1 = omega (arith, T4.one_less) in
        T4.answered ∙ (λ j. oks (less j) ++ (ends j ∷ []))

    pub through : Whole before
    through =
        record {
          deliveries = A1.deliveries ++ (T2.deliveries ++ (A3.deliveries ++ T4.deliveries));
          after = T4.after;
          goes = deliver_join before A1.deliveries A1.after _ T4.after A1.goes
              (deliver_join A1.after T2.deliveries T2.after _ T4.after T2.goes
              (deliver_join T2.after A3.deliveries A3.after _ T4.after A3.goes T4.goes));
          messages = map_four (λ (d : Delivery). d.message) A1.deliveries T2.deliveries A3.deliveries T4.deliveries _ _ _ _
              A1.messages T2.messages A3.messages T4.messages;
          answers = map_four (λ (d : Delivery). d.answer) A1.deliveries T2.deliveries A3.deliveries T4.deliveries _ _ _ _
              A1.answered stored_oks A3.answered last_settles;
        }

-- ---- the law

pub write_gets_through : WriteGetsThrough
unfolding WriteGetsThrough
write_gets_through n x peers records result P B =
    record {
      deliveries = W.deliveries;
      after = W.after;
      goes = W.goes;
      messages = W.messages ∙ ap (λ (k : ℕ).
          map (λ q. envelope_of k q writer.incarnation (message.Store writer.attempt (own_item writer))) peers ++
          (map (λ q. envelope_of q k (under q) (message.Stored writer.incarnation writer.attempt (own_item writer))) peers ++
          (map (λ q. envelope_of k q writer.incarnation (message.Confirm (under q) writer.attempt (own_item writer))) peers ++
          map (λ q. envelope_of q k (under q) (message.Confirmed writer.incarnation writer.attempt (own_item writer))) peers))) (sym number);
      answers = W.answers;
    }
  where
    writer : Node
    writer = node_at result.table x

    under : ℕ → Incarnation
    under q = (node_at result.table q).incarnation

    number : writer.number ≡ x
    number = number_is n x writer (node_sound n result.table (group_table n result.table result.store B.sound) x B.below)

    stores : Both (λ q r. message_in (records_of result.store) r ≡ Some (envelope_of x q writer.incarnation (message.Store writer.attempt (own_item writer)))) peers records
    stores = both_map (λ q r. message_in (records_of result.store) r ≡ Some (store_to writer q (under q)))
        (λ q r. message_in (records_of result.store) r ≡ Some (envelope_of x q writer.incarnation (message.Store writer.attempt (own_item writer))))
        (λ q r z. z ∙ (λ j. Some (envelope_of (number j) q writer.incarnation (message.Store writer.attempt (own_item writer))))) peers records B.stores

    W : Whole n x B.below writer.incarnation writer.attempt (own_item writer) under peers P.others P.distinct P.count result
    W = through n x B.below writer.incarnation writer.attempt (own_item writer) under peers P.others P.distinct P.count result B.sound records stores
        (each_map (λ q. (is_up (node_at result.table q).phase ≡ true)
        × (row_takes (row_of (node_at result.table q) x) writer.incarnation writer.attempt (own_item writer) ≡ true))
        (λ q. (is_up (node_at result.table q).phase ≡ true) × ((node_at result.table q).incarnation ≡ under q)
        × (row_takes (row_of (node_at result.table q) x) writer.incarnation writer.attempt (own_item writer) ≡ true))
        (λ q z. (z.0, refl, z.1)) peers
        (each_two (λ q. is_up (node_at result.table q).phase ≡ true)
        (λ q. row_takes (row_of (node_at result.table q) x) writer.incarnation writer.attempt (own_item writer) ≡ true) peers B.up B.taken))
        (B.storing, (refl, refl, refl)) B.none_counted B.room
