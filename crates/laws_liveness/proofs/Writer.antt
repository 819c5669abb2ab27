-- The writer counts its peers, one after the other: every message but the f-th is answered ok and sends nothing, and with the
-- f-th the stage ends. Said once for Stored and Confirmed.
use Prim.Native.Nat.{ℕ, zero, suc, ◌+◌, ◌≤◌, ◌<◌}
use native.Mathlib.Omega.{arith}
use mathlib.Core.Path.{◌≡◌, refl, sym, ap, subst, ◌∙◌}
use mathlib.Core.Logic.{◌≢◌}
use mathlib.Core.Bool.{Bool, true, false, cond}
use mathlib.Core.List.{List, [], ◌∷◌, ◌++◌, map}
use lib.Dec.{ltb}
use lib.ListN.{length, set}
use borrow.Author.Tests.{lt-ltb, le-ltb}
use Rattle.item.specs.declared.counters.Incarnation.{Incarnation}
use Rattle.item.specs.declared.Item.{Item}
use Rattle.record.specs.Layout.{rows_of}
use Rattle.message.specs.declared.Envelope.{Envelope}
use Rattle.message.specs.declared.Message.{Message}
use Rattle.store.specs.Change.{count_outgoing}
use Rattle.store.specs.Records.{records_of, record_in}
use Rattle.store.specs.Sound.{free_count, message_in}
use Rattle.protocol.specs.Answer.{ok, is_refused}
use Rattle.protocol.specs.Deliver.{deliver_step}
use Rattle.protocol.specs.Node.{half, peer_under, peer_of, count_peers, with_counted, below_half}
use Rattle.operations.specs.Operation.{Result}
use Rattle.protocol.specs.Outgoing.{outgoing}
use Rattle.protocol.specs.Sound.{sound_node}
use Rattle.protocol.specs.Storing.{is_counted}
use Rattle.protocol.specs.Table.{node_at}
use Rattle.protocol.specs.Shaped.{Shaped}
use Rattle.protocol.proofs.TableLaws.{node_sound}
use Rattle.protocol.specs.declared.Answer.{Answer}
use Rattle.protocol.specs.declared.Answer.TheVariants as answer
use Rattle.protocol.specs.declared.Node.{Node}
use Rattle.protocol.specs.declared.Peer.{Peer}
use Rattle.protocol.specs.declared.Sends.TheVariants as sends
use Rattle.protocol.specs.declared.Step.{Step}
use Rattle.protocol.proofs.Counts.{some_present, count_more, peer_set_same, peer_set_other}
use Rattle.protocol.proofs.InView.{size_is, size_fits}
use Rattle.laws_enabled.proofs.Sent.{nothing_sent_lem}
use Rattle.laws_runs.specs.Laws.{LeavesSound}
use Rattle.laws_runs.proofs.Keeps.{group_valid, group_table, deliver_decided}
use Rattle.laws_liveness.specs.Delivery.{Delivery, deliver, Deliver, oks, envelope_of}
use Rattle.laws_liveness.specs.Each.{Each, Both, Distinct}
use Rattle.laws_liveness.proofs.Delivering.{Acted, delivery_as, sound_as, replaced, left_alone}
use Rattle.laws_liveness.proofs.Lists.{each_map, each_two, both_map}
use Rattle.std.specs.Prelude.{Option, Some, is_some}

-- one more is counted
pub count_set : (peers : List Peer) (q : ℕ) (i : Incarnation) → is_some (peer_of peers q) ≡ false → q < length peers
    → count_peers (set peers q (peer_under i)) ≡ suc (count_peers peers)
unfolding peer_of
count_set [] q i a l = absurd (omega arith)
count_set (p ∷ peers) zero i a l =
    omega (arith, count_more p peers, count_more (peer_under i) peers, ap (λ (t : Bool). cond {A = ℕ} t 1 0) (sym (some_present p) ∙ a))
count_set (p ∷ peers) (suc q) i a l =
    omega (arith, count_more p peers, count_more p (set peers q (peer_under i)), count_set peers q i a (omega arith))

module _ (n x : ℕ) (x_low : x < n) (under : ℕ → Incarnation) (m : Message) (final : Node → Step) (Ready : ℕ → Node → Type 0) (need : ℕ)
    (takes : (q : ℕ) (node : Node) (items : List Item) → Ready q node → is_counted node q ≡ false
    → deliver_step node (envelope_of q x (under q) m) items
    ≡ cond (below_half (with_counted node q (under q))) (ok (with_counted node q (under q)) sends.Nothing) (final (with_counted node q (under q))))
    (kept : (p q : ℕ) (node : Node) → Ready p node → Ready p (with_counted node q (under q)))
    (fits : (node : Node) (q : ℕ) → sound_node n x (final node).node ≡ true → Shaped (final node).node → count_peers node.counted ≡ half n
    → (is_refused (final node).answer ≡ false) × (count_outgoing (outgoing (final node).node (final node).sends q) ≤ need)) where
  -- the writer's node with q counted
  abbrev with_q : Result → ℕ → Node
  with_q before q = with_counted (node_at before.table x) q (under q)

  -- a message in record r, where q is not counted yet
  module _ (q r : ℕ) (before : Result) (G : LeavesSound n before) (h : message_in (records_of before.store) r ≡ Some (envelope_of q x (under q) m))
      (low : q < n) (ready : Ready q (node_at before.table x)) (absent : is_some (peer_of (node_at before.table x).counted q) ≡ false) where
    long : q < length (node_at before.table x).counted
    long = omega (arith, (G.within.shaped x).counted_length, size_fits n (group_valid n before.table before.store G))

    counted_now : count_peers (with_counted (node_at before.table x) q (under q)).counted ≡ suc (count_peers (node_at before.table x).counted)
    unfolding with_counted
    counted_now = count_set (node_at before.table x).counted q (under q) absent long

    mark : peer_of (with_counted (node_at before.table x) q (under q)).counted q ≡ Some (under q)
    unfolding with_counted
    mark = peer_set_same (node_at before.table x).counted q (under q) long

    unmarked : (k : ℕ) → k ≢ q → peer_of (with_counted (node_at before.table x) q (under q)).counted k ≡ peer_of (node_at before.table x).counted k
    unfolding with_counted
    unmarked k d = peer_set_other (node_at before.table x).counted q k (under q) d

    size : (node_at before.table x).n ≡ n
    size = size_is n x (node_at before.table x) (node_sound n before.table (group_table n before.table before.store G) x x_low)

    taken : deliver_step (node_at before.table x) (envelope_of q x (under q) m) (rows_of (record_in (records_of before.store) r))
        ≡ cond (below_half (with_q before q)) (ok (with_q before q) sends.Nothing) (final (with_q before q))
    unfolding is_counted
    taken = takes q (node_at before.table x) (rows_of (record_in (records_of before.store) r)) ready absent

    -- not the f-th
    counts : suc (count_peers (node_at before.table x).counted) < half n → Acted n before x q (ok (with_q before q) sends.Nothing) (deliver before r)
    unfolding with_counted ok
    counts few =
        let t : ltb (count_peers (with_counted (node_at before.table x) q (under q)).counted) (half (node_at before.table x).n) ≡ true =
        lt-ltb (count_peers (with_counted (node_at before.table x) q (under q)).counted) (half (node_at before.table x).n) (omega (arith, counted_now, ap half size)) in
        delivery_as n before G r (envelope_of q x (under q) m) h (ok (with_q before q) sends.Nothing)
        (taken ∙ ap (λ (b : Bool). cond b (ok (with_q before q) sends.Nothing) (final (with_q before q))) t) refl
        (omega (arith, nothing_sent_lem (with_q before q) q))

    -- the f-th
    ends : suc (count_peers (node_at before.table x).counted) ≡ half n → need ≤ free_count (records_of before.store)
        → Acted n before x q (final (with_q before q)) (deliver before r)
    unfolding with_counted
    ends full room =
        let t : ltb (count_peers (with_counted (node_at before.table x) q (under q)).counted) (half (node_at before.table x).n) ≡ false =
        le-ltb (count_peers (with_counted (node_at before.table x) q (under q)).counted) (half (node_at before.table x).n) (omega (arith, counted_now, ap half size)) in
        let z : deliver_step (node_at before.table x) (envelope_of q x (under q) m) (rows_of (record_in (records_of before.store) r)) ≡ final (with_q before q)
        = taken ∙ ap (λ (b : Bool). cond b (ok (with_q before q) sends.Nothing) (final (with_q before q))) t in
        let shaped : Shaped (final (with_q before q)).node = subst (λ (s : Step). Shaped s.node) z
        (deliver_decided n before.table before.store G r (envelope_of q x (under q) m) h).shaped in
        let f = fits (with_q before q) q (sound_as n before G r (envelope_of q x (under q) m) h (final (with_q before q)) z) shaped (counted_now ∙ full) in
        delivery_as n before G r (envelope_of q x (under q) m) h (final (with_q before q)) z f.0 (omega (arith, f.1))

  -- all of them
  pub record Tallied (qs : List ℕ) (before : Result) : Type 0 where
    pub deliveries : List Delivery
    pub middle : Result
    pub after : Result
    pub node : Node
    pub back : ℕ
    pub goes : Deliver before deliveries after
    pub messages : map (λ d. d.message) deliveries ≡ map (λ q. envelope_of q x (under q) m) qs
    pub first_oks : ℕ
    pub one_less : suc first_oks ≡ length qs
    pub answered : map (λ d. d.answer) deliveries ≡ oks first_oks ++ ((final node).answer ∷ [])
    pub middle_group : LeavesSound n middle
    pub acted : Acted n middle x back (final node) after
    pub full : count_peers node.counted ≡ half n
    pub marks : Each (λ q. peer_of node.counted q ≡ Some (under q)) qs
    pub unmarked : (k : ℕ) → Each (λ q. q ≢ k) qs → peer_of node.counted k ≡ peer_of (node_at before.table x).counted k
    pub ready : (p : ℕ) → Ready p (node_at before.table x) → Ready p node
    pub same : (k : ℕ) → k ≢ x → node_at after.table k ≡ node_at before.table k
    pub free : free_count (records_of middle.store) ≡ free_count (records_of before.store)

  last_tally : (q r : ℕ) (before : Result) (G : LeavesSound n before) (h : message_in (records_of before.store) r ≡ Some (envelope_of q x (under q) m))
      (low : q < n) (ready : Ready q (node_at before.table x)) (absent : is_some (peer_of (node_at before.table x).counted q) ≡ false)
      → suc (count_peers (node_at before.table x).counted) ≡ half n → need ≤ free_count (records_of before.store) → Tallied (q ∷ []) before
  unfolding Deliver oks Each
  last_tally q r before G h low ready absent full room =
      record {
        deliveries = record { at = r; message = envelope_of q x (under q) m; answer = (final (with_q before q)).answer } ∷ [];
        middle = before;
        after = deliver before r;
        node = with_q before q;
        back = q;
        goes = (h, A.answer_is, refl);
        messages = refl;
        first_oks = 0;
        one_less = refl;
        answered = refl;
        middle_group = G;
        acted = A;
        full = counted_now q r before G h low ready absent ∙ full;
        marks = (mark q r before G h low ready absent, tt);
        unmarked = λ k d. unmarked q r before G h low ready absent k (λ z. d.0 (sym z));
        ready = λ p z. kept p q (node_at before.table x) z;
        same = left_alone n before (deliver before r) G x x_low (final (with_q before q)).node A.table_is;
        free = refl;
      }
    where
      A : Acted n before x q (final (with_q before q)) (deliver before r)
      A = ends q r before G h low ready absent full room

  more_tally : (q r : ℕ) (qs : List ℕ) (before : Result) (G : LeavesSound n before) (h : message_in (records_of before.store) r ≡ Some (envelope_of q x (under q) m))
      (low : q < n) (ready : Ready q (node_at before.table x)) (absent : is_some (peer_of (node_at before.table x).counted q) ≡ false)
      → Each (λ b. b ≢ q) qs → (A : Acted n before x q (ok (with_q before q) sends.Nothing) (deliver before r)) → Tallied qs (deliver before r) → Tallied (q ∷ qs) before
  unfolding Deliver oks Each ok
  more_tally q r qs before G h low ready absent apart A R =
      record {
        deliveries = record { at = r; message = envelope_of q x (under q) m; answer = answer.Ok } ∷ R.deliveries;
        middle = R.middle;
        after = R.after;
        node = R.node;
        back = R.back;
        goes = (h, A.answer_is, R.goes);
        messages = ap (λ (l : List Envelope). envelope_of q x (under q) m ∷ l) R.messages;
        first_oks = suc R.first_oks;
        one_less = ap suc R.one_less;
        answered = ap (λ (l : List Answer). answer.Ok ∷ l) R.answered;
        middle_group = R.middle_group;
        acted = R.acted;
        full = R.full;
        marks = (R.unmarked q apart ∙ ap (λ (v : Node). peer_of v.counted q) is_with ∙ mark q r before G h low ready absent, R.marks);
        unmarked = λ k d. R.unmarked k d.1 ∙ ap (λ (v : Node). peer_of v.counted k) is_with ∙ unmarked q r before G h low ready absent k (λ z. d.0 (sym z));
        ready = λ p z. R.ready p (subst (Ready p) (sym is_with) (kept p q (node_at before.table x) z));
        same = λ k d. R.same k d ∙ left_alone n before (deliver before r) G x x_low (with_q before q) A.table_is k d;
        free = R.free ∙ none_taken;
      }
    where
      is_with : node_at (deliver before r).table x ≡ with_q before q
      is_with = replaced n before (deliver before r) G x x_low (with_q before q) A.table_is

      none_taken : free_count (records_of (deliver before r).store) ≡ free_count (records_of before.store)
      none_taken = omega (arith, A.mail.fewer, nothing_sent_lem (with_q before q) q)

  pub tally : (q : ℕ) (qs : List ℕ) (r : ℕ) (rs : List ℕ) → Distinct (q ∷ qs) → Each (λ a. a < n) (q ∷ qs) → (before : Result) → LeavesSound n before
      → Both (λ a s. message_in (records_of before.store) s ≡ Some (envelope_of a x (under a) m)) (q ∷ qs) (r ∷ rs)
      → Each (λ a. Ready a (node_at before.table x)) (q ∷ qs) → Each (λ a. is_some (peer_of (node_at before.table x).counted a) ≡ false) (q ∷ qs)
      → count_peers (node_at before.table x).counted + suc (length qs) ≡ half n → need ≤ free_count (records_of before.store) → Tallied (q ∷ qs) before
  unfolding Distinct Each Both ok
  tally q [] r [] d l before G h ready absent count room =
      last_tally q r before G h.0 l.0 ready.0 absent.0 (omega arith) room
  tally q [] r (s ∷ rs) d l before G h ready absent count room = absurd h.1
  tally q (p ∷ qs) r [] d l before G h ready absent count room = absurd h.1
  tally q (p ∷ qs) r (s ∷ rs) d l before G h ready absent count room =
      more_tally q r (p ∷ qs) before G h.0 l.0 ready.0 absent.0 d.0 A
      (tally p qs s rs d.1 l.1 (deliver before r) A.group
      (both_map (λ a t. message_in (records_of before.store) t ≡ Some (envelope_of a x (under a) m)) (λ a t. message_in (records_of (deliver before r).store) t ≡ Some (envelope_of a x (under a) m))
      (λ a t z. A.mail.old t (envelope_of a x (under a) m) z) (p ∷ qs) (s ∷ rs) h.1)
      (each_map (λ a. Ready a (node_at before.table x)) (λ a. Ready a (node_at (deliver before r).table x))
      (λ a z. subst (Ready a) (sym is_with) (kept a q (node_at before.table x) z)) (p ∷ qs) ready.1)
      (each_map (λ a. (a ≢ q) × (is_some (peer_of (node_at before.table x).counted a) ≡ false)) (λ a. is_some (peer_of (node_at (deliver before r).table x).counted a) ≡ false)
      (λ a z. ap (λ (v : Node). is_some (peer_of v.counted a)) is_with
      ∙ ap (λ (v : Option Incarnation). is_some v) (unmarked q r before G h.0 l.0 ready.0 absent.0 a z.0) ∙ z.1) (p ∷ qs)
      (each_two (λ a. a ≢ q) (λ a. is_some (peer_of (node_at before.table x).counted a) ≡ false) (p ∷ qs) d.0 absent.1))
      (omega (arith, ap (λ (v : Node). count_peers v.counted) is_with, counted_now q r before G h.0 l.0 ready.0 absent.0))
      (omega (arith, A.mail.fewer, nothing_sent_lem (with_q before q) q)))
    where
      A : Acted n before x q (ok (with_q before q) sends.Nothing) (deliver before r)
      A = counts q r before G h.0 l.0 ready.0 absent.0 (omega arith)

      is_with : node_at (deliver before r).table x ≡ with_q before q
      is_with = replaced n before (deliver before r) G x x_low (with_q before q) A.table_is
