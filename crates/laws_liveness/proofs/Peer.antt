-- The peers answer, one after the other: each has a message of the writer in its inbox, takes it, and its answer is then in the
-- writer's. Said once for Store and Confirm.
use Prim.Native.Nat.{ℕ, suc, ◌+◌, ◌≤◌, ◌<◌}
use native.Mathlib.Omega.{arith}
use mathlib.Core.Path.{◌≡◌, refl, sym, ap, subst, ◌∙◌}
use mathlib.Core.Logic.{◌≢◌}
use mathlib.Core.Bool.{Bool, true, cond}
use mathlib.Core.List.{List, [], ◌∷◌, map}
use lib.ListN.{length}
use borrow.Author.Tests.{eq-eqb}
use Rattle.item.specs.Maxima.{max_nodes}
use Rattle.item.specs.declared.counters.Incarnation.{Incarnation}
use Rattle.item.specs.declared.Item.{Item}
use Rattle.record.specs.Layout.{rows_of}
use Rattle.message.specs.declared.Envelope.{Envelope}
use Rattle.message.specs.declared.Message.{Message}
use Rattle.store.specs.Change.{count_outgoing}
use Rattle.store.specs.Records.{records_of, record_in}
use Rattle.store.specs.Sound.{free_count, message_in}
use Rattle.protocol.specs.Answer.{ok}
use Rattle.protocol.specs.Deliver.{deliver_step}
use Rattle.operations.specs.Operation.{Result}
use Rattle.protocol.specs.Outgoing.{outgoing, message_to, envelope_to}
use Rattle.protocol.specs.Sound.{sound_node}
use Rattle.protocol.specs.Table.{node_at}
use Rattle.protocol.specs.declared.Answer.{Answer}
use Rattle.protocol.specs.declared.Answer.TheVariants as answer
use Rattle.protocol.specs.declared.Node.{Node}
use Rattle.protocol.specs.declared.Sends.TheVariants as sends
use Rattle.protocol.specs.Shaped.{Shaped}
use Rattle.protocol.proofs.InView.{number_is, size_is, size_fits}
use Rattle.laws_enabled.proofs.Sent.{one_sent}
use Rattle.laws_runs.specs.Laws.{LeavesSound}
use Rattle.laws_runs.proofs.Keeps.{group_valid}
use Rattle.laws_liveness.specs.Delivery.{Delivery, deliver, Deliver, oks, envelope_of}
use Rattle.laws_liveness.specs.Each.{Each, Both, Distinct}
use Rattle.laws_liveness.proofs.Delivering.{Acted, out_sent, delivery_as, sound_as, replaced, left_alone}
use Rattle.laws_liveness.proofs.Lists.{each_map, each_two, both_map}
use Rattle.std.specs.Prelude.{Some, None}

-- what node q makes of a message m of node x under incarnation i: it answers m' under its own, and is then as Q says
pub record Answering (x q : ℕ) (i : Incarnation) (m m' : Message) (under : Incarnation) (Q : Node → Type 0) (node : Node) (items : List Item) : Type 0 where
  pub after : Node
  pub step_is : deliver_step node (envelope_of x q i m) items ≡ ok after (sends.Back m')
  pub holds : Q after
  pub under_is : after.incarnation ≡ under

module _ (n x : ℕ) (x_low : x < n) (i : Incarnation) (m m' : ℕ → Message) (under : ℕ → Incarnation) (P Q : ℕ → Node → Type 0)
    (answers : (q : ℕ) (node : Node) (items : List Item) → P q node → Shaped node → Answering x q i (m q) (m' q) (under q) (Q q) node items) where
  -- one of them
  record One (q r : ℕ) (before : Result) : Type 0 where
    is_ok : (deliver before r).answer ≡ answer.Ok
    group : LeavesSound n (deliver before r)
    record_of : ℕ
    reply : message_in (records_of (deliver before r).store) record_of ≡ Some (envelope_of q x (under q) (m' q))
    held : Q q (node_at (deliver before r).table q)
    same : (k : ℕ) → k ≢ q → node_at (deliver before r).table k ≡ node_at before.table k
    old : (s : ℕ) (e : Envelope) → message_in (records_of before.store) s ≡ Some e → message_in (records_of (deliver before r).store) s ≡ Some e
    fewer : suc (free_count (records_of (deliver before r).store)) ≡ free_count (records_of before.store)

  one : (q r : ℕ) (before : Result) → LeavesSound n before → message_in (records_of before.store) r ≡ Some (envelope_of x q i (m q)) → q < n
      → P q (node_at before.table q) → 1 ≤ free_count (records_of before.store) → One q r before
  unfolding ok message_to
  one q r before G h low p room =
      record {
        is_ok = A.answer_is;
        group = A.group;
        record_of = w.0;
        reply = w.1 ∙ (λ j. Some (envelope_of (number j) x (B.under_is j) (m' q)));
        held = subst (Q q) (sym (replaced n before (deliver before r) G q low B.after A.table_is)) B.holds;
        same = left_alone n before (deliver before r) G q low B.after A.table_is;
        old = A.mail.old;
        fewer = omega (arith, A.mail.fewer, sent);
      }
    where
      items : List Item
      items = rows_of (record_in (records_of before.store) r)

      B : Answering x q i (m q) (m' q) (under q) (Q q) (node_at before.table q) items
      B = answers q (node_at before.table q) items p (G.within.shaped q)

      sound : sound_node n q B.after ≡ true
      sound = sound_as n before G r (envelope_of x q i (m q)) h (ok B.after (sends.Back (m' q))) B.step_is

      number : B.after.number ≡ q
      number = number_is n q B.after sound

      size : B.after.n ≡ n
      size = size_is n q B.after sound

      most : n ≤ max_nodes
      most = size_fits n (group_valid n before.table before.store G)

      sent : count_outgoing (outgoing B.after (sends.Back (m' q)) x) ≡ 1
      sent = one_sent B.after x (m' q) (omega (arith, size)) (omega (arith, size, most))

      A : Acted n before q x (ok B.after (sends.Back (m' q))) (deliver before r)
      A = delivery_as n before G r (envelope_of x q i (m q)) h (ok B.after (sends.Back (m' q))) B.step_is refl (omega (arith, sent))

      w : (s : ℕ) × (message_in (records_of (deliver before r).store) s ≡ Some (envelope_to B.after x (m' q)))
      w = A.mail.new (envelope_to B.after x (m' q))
          (out_sent B.after (sends.Back (m' q)) x x (m' q) (omega (arith, size, most)) (omega (arith, size))
          (ap (λ (b : Bool). cond b (Some (m' q)) None) (eq-eqb x x refl)))

  -- all of them
  pub record Answered (qs : List ℕ) (before : Result) : Type 0 where
    pub deliveries : List Delivery
    pub after : Result
    pub goes : Deliver before deliveries after
    pub messages : map (λ d. d.message) deliveries ≡ map (λ q. envelope_of x q i (m q)) qs
    pub answered : map (λ d. d.answer) deliveries ≡ oks (length qs)
    pub group : LeavesSound n after
    pub records : List ℕ
    pub replies : Both (λ q r. message_in (records_of after.store) r ≡ Some (envelope_of q x (under q) (m' q))) qs records
    pub held : Each (λ q. Q q (node_at after.table q)) qs
    pub same : (k : ℕ) → Each (λ q. q ≢ k) qs → node_at after.table k ≡ node_at before.table k
    pub old : (s : ℕ) (e : Envelope) → message_in (records_of before.store) s ≡ Some e → message_in (records_of after.store) s ≡ Some e
    pub fewer : length qs + free_count (records_of after.store) ≡ free_count (records_of before.store)

  none_answers : (before : Result) → LeavesSound n before → Answered [] before
  unfolding Deliver oks Both Each
  none_answers before G =
      record {
        deliveries = [];
        after = before;
        goes = refl;
        messages = refl;
        answered = refl;
        group = G;
        records = [];
        replies = tt;
        held = tt;
        same = λ _ _. refl;
        old = λ _ _ h. h;
        fewer = omega arith;
      }

  more_answer : (q r : ℕ) (qs : List ℕ) (before : Result) → message_in (records_of before.store) r ≡ Some (envelope_of x q i (m q))
      → Each (λ b. b ≢ q) qs → One q r before → Answered qs (deliver before r) → Answered (q ∷ qs) before
  unfolding Deliver oks Both Each
  more_answer q r qs before h apart O R =
      record {
        deliveries = record { at = r; message = envelope_of x q i (m q); answer = answer.Ok } ∷ R.deliveries;
        after = R.after;
        goes = (h, O.is_ok, R.goes);
        messages = ap (λ (l : List Envelope). envelope_of x q i (m q) ∷ l) R.messages;
        answered = ap (λ (l : List Answer). answer.Ok ∷ l) R.answered;
        group = R.group;
        records = O.record_of ∷ R.records;
        replies = (R.old O.record_of _ O.reply, R.replies);
        held = (subst (Q q) (sym (R.same q apart)) O.held, R.held);
        same = λ k d. R.same k d.1 ∙ O.same k (λ z. d.0 (sym z));
        old = λ s e z. R.old s e (O.old s e z);
        fewer = omega (arith, R.fewer, O.fewer);
      }

  pub all_answer : (qs rs : List ℕ) → Distinct qs → Each (λ q. q < n) qs → (before : Result) → LeavesSound n before
      → Both (λ q r. message_in (records_of before.store) r ≡ Some (envelope_of x q i (m q))) qs rs
      → Each (λ q. P q (node_at before.table q)) qs → length qs ≤ free_count (records_of before.store) → Answered qs before
  unfolding Distinct Each Both
  all_answer [] [] d l before G h p room = none_answers before G
  all_answer [] (r ∷ rs) d l before G h p room = absurd h
  all_answer (q ∷ qs) [] d l before G h p room = absurd h
  all_answer (q ∷ qs) (r ∷ rs) d l before G h p room =
      more_answer q r qs before h.0 d.0 O
      (all_answer qs rs d.1 l.1 (deliver before r) O.group
      (both_map (λ a s. message_in (records_of before.store) s ≡ Some (envelope_of x a i (m a))) (λ a s. message_in (records_of (deliver before r).store) s ≡ Some (envelope_of x a i (m a)))
      (λ a s z. O.old s (envelope_of x a i (m a)) z) qs rs h.1)
      (each_map (λ a. (a ≢ q) × P a (node_at before.table a)) (λ a. P a (node_at (deliver before r).table a))
      (λ a z. subst (P a) (sym (O.same a z.0)) z.1) qs (each_two (λ a. a ≢ q) (λ a. P a (node_at before.table a)) qs d.0 p.1))
      (omega (arith, O.fewer)))
    where
      O : One q r before
      O = one q r before G h.0 l.0 p.0 (omega arith)
