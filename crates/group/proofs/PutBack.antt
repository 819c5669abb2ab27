-- An event at one node by value, and the node put back at its place, is what the protocol says of the whole table.
use Prim.Native.Nat.{ℕ, ◌*◌}
use mathlib.Core.Path.{◌≡◌, refl, sym, ap, subst, ◌∙◌}
use mathlib.Core.Bool.{Bool, true, false, cond, ◌&&◌}
use mathlib.Core.List.{List}
use borrow.Author.Tests.{eqb-true}
use lib.Dec.{ltb}
use lib.ListN.{length, get_or, set}
use lib.Seq.{set-get_or}
use Rattle.record.specs.Layout.{record_size, record_of, rows_of}
use Rattle.store.specs.Change.{put_each, count_outgoing, drop_in}
use Rattle.store.specs.Head.{group_size}
use Rattle.store.proofs.Lent.{record_in_lem}
use Rattle.store.specs.Records.{record_count, right_length, records_of, joined, on_records}
use Rattle.store.specs.Sound.{sound_records, free_count, message_in, message_at, survey_of, survey}
use Rattle.operations.specs.Operation as whole
use Rattle.protocol.specs.Answer.{is_refused}
use Rattle.protocol.specs.Node.{row_items}
use Rattle.protocol.specs.Outgoing.{outgoing}
use Rattle.protocol.specs.Table.{node_at, no_node, sound_table}
use Rattle.protocol.specs.Deliver.{deliver_step}
use Rattle.protocol.specs.declared.Answer.{Answer}
use Rattle.protocol.specs.declared.Answer.TheVariants as answer
use Rattle.protocol.specs.Write.{write_step, retry_step, crash_step, start_step}
use Rattle.protocol.specs.declared.Event.{Event}
use Rattle.protocol.specs.declared.Event.TheVariants as event
use Rattle.protocol.specs.declared.Node.{Node}
use Rattle.protocol.specs.declared.Refusal.{Refusal}
use Rattle.protocol.specs.declared.Refusal.TheVariants.{StoreLength, Unsound, NoNode, NoRoom, NoMessage}
use Rattle.protocol.specs.declared.Step.{Step}
use Rattle.event.specs.Act as one
use Rattle.event.specs.Act.{Outcome, Gives, answered, checked, reading_of, addressee_of, place_of, drop_target_of}
use Rattle.event.proofs.Laws.{sound_drop, dropped_node, drop_target_is}
use Rattle.group.specs.Perform.{with_table, admitted, GivesAll}
use Rattle.store.specs.declared.Survey.{Survey}
use Rattle.std.specs.Prelude.{None, Option, Some, Result, Ok, Err}
use Rattle.message.specs.declared.Envelope.{Envelope}

-- the node afterwards stands at its place; where the table has none nothing is put
abbrev put_back : List Node → ℕ → Outcome → whole.Result
put_back table k o = record { answer = o.answer; table = set table k o.node; store = o.store }

-- whose event it is, by what is read of its record
abbrev place_in : Event → List ℕ → ℕ
place_in e store = place_of e (reading_of e store)

-- a node that is put back as it was changes nothing
same_node : (table : List Node) (k : ℕ) → set table k (node_at table k) ≡ table
unfolding node_at
same_node table k = set-get_or table k no_node

back_cond : (table : List Node) (k : ℕ) (c : Bool) (a b : Outcome) → put_back table k (cond c a b) ≡ cond c (put_back table k a) (put_back table k b)
back_cond table k true a b = refl
back_cond table k false a b = refl

module _ (table : List Node) (store : List ℕ) (k : ℕ) where
  refused_at : (why : Refusal) → put_back table k (one.refuse why (node_at table k) store) ≡ whole.refuse why table store
  unfolding whole.refuse
  refused_at why i = record { answer = (one.refuse why (node_at table k) store).answer; table = same_node table k i; store = store }

  module _ (right : right_length store ≡ true) where
    changed : (change : List (List ℕ) → List (List ℕ)) → on_records change store ≡ joined (change (records_of store))
    unfolding on_records
    changed change = rw right

    -- what it sends
    sent_at : (step : Step) (out : List (Option Envelope)) → put_back table k (one.sent_by (node_at table k) store (free_count (records_of store)) step out) ≡ whole.sent_by table store (records_of store) k step out
    unfolding one.sent_by whole.sent_by
    sent_at step out =
        back_cond table k (ltb (free_count (records_of store)) (count_outgoing out)) _ _
        ∙ (λ i. cond (ltb (free_count (records_of store)) (count_outgoing out)) (refused_at NoRoom i)
        (record { answer = step.answer; table = set table k step.node; store = changed (λ rs. put_each rs out (row_items step.node)) i }))

    carried_at : (back : ℕ) (step : Step) → put_back table k (one.carried_out (node_at table k) store (free_count (records_of store)) back step) ≡ whole.carried_out table store (records_of store) k back step
    unfolding one.carried_out whole.carried_out
    carried_at back step =
        back_cond table k (is_refused step.answer) _ _
        ∙ (λ i. cond (is_refused step.answer) (record { answer = step.answer; table = same_node table k i; store = store })
        (sent_at step (outgoing step.node step.sends back) i))

    -- what is seen of a sound store
    abbrev sound_seen : Survey
    sound_seen = record { n = group_size (records_of store); free = free_count (records_of store) }

    step_at : (decide : Node → Step) → put_back table k (one.at_node (node_at table k) store sound_seen k (decide (node_at table k))) ≡ whole.at_node decide k table store (records_of store)
    unfolding one.at_node whole.at_node
    step_at decide =
        back_cond table k (ltb k (group_size (records_of store))) _ _
        ∙ (λ i. cond (ltb k (group_size (records_of store))) (carried_at k (decide (node_at table k)) i) (refused_at NoNode i))

module _ (table : List Node) (store : List ℕ) (right : right_length store ≡ true) where
  dropped_at : (m : Option Envelope) (r : ℕ) → put_back table (addressee_of m) (one.dropped m (node_at table (addressee_of m)) store r) ≡ whole.dropped m r table store (records_of store)
  unfolding one.dropped whole.dropped addressee_of
  dropped_at None r = refused_at table store 0 NoMessage
  dropped_at (Some e) r = λ i. record { answer = answer.Ok; table = same_node table e.addressee i; store = changed table store e.addressee right (λ rs. drop_in rs e.addressee r) i }

  delivered_at : (m : Option Envelope) (r : ℕ) → put_back table (addressee_of m) (one.delivered m (node_at table (addressee_of m)) store (free_count (records_of store)) r) ≡ whole.delivered m r table store (records_of store)
  unfolding one.delivered whole.delivered addressee_of right_length
  delivered_at None r = refused_at table store 0 NoMessage
  delivered_at (Some e) r =
      let node = node_at table e.addressee in
      carried_at table store e.addressee right e.sender (deliver_step node e (rows_of (record_of store r)))
      ∙ ap (λ (l : List ℕ). whole.carried_out table store (records_of store) e.addressee e.sender (deliver_step node e (rows_of l))) (sym (record_in_lem store (eqb-true (length store) (record_count * record_size) right) r))

  found_at : (r : ℕ) → message_at store r ≡ message_in (records_of store) r
  unfolding message_at
  found_at r = rw right

  sound_at : (e : Event) → put_back table (place_in e store) (one.on_sound e (node_at table (place_in e store)) store (sound_seen table store (place_in e store) right) (reading_of e store)) ≡ whole.on_sound e table store (records_of store)
  unfolding one.on_sound whole.on_sound place_of reading_of
  sound_at (event.Write k tag) = step_at table store k right (λ node. write_step node tag)
  sound_at (event.Retry k) = step_at table store k right retry_step
  sound_at (event.Crash k) = step_at table store k right crash_step
  sound_at (event.Start k) = step_at table store k right start_step
  sound_at (event.Drop r) = dropped_at (message_at store r) r ∙ ap (λ (m : Option Envelope). whole.dropped m r table store (records_of store)) (found_at r)
  sound_at (event.Deliver r) = delivered_at (message_at store r) r ∙ ap (λ (m : Option Envelope). whole.delivered m r table store (records_of store)) (found_at r)

-- ---- what refuses an event before its node is read

module _ (table : List Node) (store : List ℕ) where
  abbrev rs : List (List ℕ)
  rs = records_of store

  -- what an event gives that is admitted, and one that is refused
  abbrev Admits : Result Survey Refusal → Type 0
  Admits (Ok seen) =
      (seen ≡ record { n = group_size rs; free = free_count rs }) × (right_length store ≡ true)
      × ((e : Event) → whole.perform e table store ≡ whole.on_sound e table store rs)
  Admits (Err why) = (e : Event) → whole.perform e table store ≡ whole.refuse why table store

  wrong_length : right_length store ≡ false → Admits (Err StoreLength)
  unfolding whole.perform
  wrong_length p e = rw p

  wrong_is : right_length store ≡ false → admitted table store ≡ Err StoreLength
  unfolding admitted with_table checked
  wrong_is p = rw p

  unsound : right_length store ≡ true → (sound_records rs && sound_table (group_size rs) table) ≡ false → Admits (Err Unsound)
  unfolding whole.perform whole.on_records
  unsound p q e = rw (p, q)

  unsound_store : right_length store ≡ true → sound_records rs ≡ false → admitted table store ≡ Err Unsound
  unfolding admitted with_table checked survey survey_of
  unsound_store p q = rw (p, q)

  unsound_table : right_length store ≡ true → sound_records rs ≡ true → sound_table (group_size rs) table ≡ false → admitted table store ≡ Err Unsound
  unfolding admitted with_table checked survey survey_of
  unsound_table p q h = rw (p, q, h)

  all_sound : right_length store ≡ true → sound_records rs ≡ true → sound_table (group_size rs) table ≡ true
      → Admits (Ok (record { n = group_size rs; free = free_count rs }))
  unfolding whole.perform whole.on_records
  all_sound p q h = (refl, p, λ e. rw (p, q, h))

  sound_is : right_length store ≡ true → sound_records rs ≡ true → sound_table (group_size rs) table ≡ true
      → admitted table store ≡ Ok (record { n = group_size rs; free = free_count rs })
  unfolding admitted with_table checked survey survey_of
  sound_is p q h = rw (p, q, h)

  admits_at : (r s t : Bool) → right_length store ≡ r → sound_records rs ≡ s → sound_table (group_size rs) table ≡ t → Admits (admitted table store)
  admits_at false s t p q h = subst Admits (sym (wrong_is p)) (wrong_length p)
  admits_at true false t p q h = subst Admits (sym (unsound_store p q)) (unsound p (rw q))
  admits_at true true false p q h = subst Admits (sym (unsound_table p q h)) (unsound p (rw (q, h)))
  admits_at true true true p q h = subst Admits (sym (sound_is p q h)) (all_sound p q h)

  admits : {r : Result Survey Refusal} → r ≡ admitted table store → Admits r
  admits e = subst Admits (sym e) (admits_at (right_length store) (sound_records rs) (sound_table (group_size rs) table) refl refl refl)

  -- a refused event leaves table and store as they were
  pub refused_gives : (e : Event) {why : Refusal} → Err why ≡ admitted table store → {r : Result Answer Refusal} → r ≡ Err why
      → GivesAll (whole.perform e table store) r table store
  unfolding whole.refuse
  refused_gives e p er =
      let all = admits p e in
      (ap answered er ∙ ap (λ (o : whole.Result). o.answer) (sym all), ap (λ (o : whole.Result). o.table) (sym all), ap (λ (o : whole.Result). o.store) (sym all))

-- ---- the calls of `group::performing::perform` one after the other, each with what it ensures

module _ (e : Event) (table : List Node) (store : List ℕ) (m : Option Envelope) (seen : Survey) (em : m ≡ reading_of e store) (es : Ok seen ≡ admitted table store) where
  abbrev outcome : Outcome
  outcome = one.on_sound e (node_at table (place_of e m)) store seen m

  performed : put_back table (place_of e m) outcome ≡ whole.perform e table store
  performed =
      let all = admits table store es in
      (λ i. put_back table (place_of e (em i)) (one.on_sound e (node_at table (place_of e (em i))) store (all.0 i) (em i)))
      ∙ sound_at table store all.1 e
      ∙ sym (all.2 e)

  -- a Drop, from the store alone: the node that it would put back is the one that stands there
  pub dropped_gives : {r : ℕ} (result : Result Answer Refusal) (after : List ℕ) → drop_target_of e ≡ Some r
      → ((node : Node) → (answered result ≡ (one.dropped m node store r).answer) × (after ≡ (one.dropped m node store r).store))
      → GivesAll (whole.perform e table store) result table after
  dropped_gives {r} result after p d =
      let k = place_of e m in
      let node = node_at table k in
      let is : outcome ≡ one.dropped m node store r = sound_drop node store seen m (drop_target_is e p) in
      let kept : set table k outcome.node ≡ table = ap (λ (o : Outcome). set table k o.node) is ∙ ap (set table k) (dropped_node m node store r) ∙ same_node table k in (
        (d node).0 ∙ ap (λ (o : Outcome). o.answer) (sym is) ∙ ap (λ (o : whole.Result). o.answer) performed,
        sym kept ∙ ap (λ (o : whole.Result). o.table) performed,
        (d node).1 ∙ ap (λ (o : Outcome). o.store) (sym is) ∙ ap (λ (o : whole.Result). o.store) performed,
      )

  -- any other event, at its place
  pub acted_gives : (k : ℕ) (v node : Node) (result : Result Answer Refusal) (l : List Node) (after : List ℕ) → k ≡ place_of e m → v ≡ get_or table k no_node
      → Gives (one.on_sound e v store seen m) result node after → l ≡ set table k node
      → GivesAll (whole.perform e table store) result l after
  unfolding node_at
  acted_gives k v node result l after ek ev g el =
      let is : one.on_sound e v store seen m ≡ outcome = ap (λ (d : Node). one.on_sound e d store seen m) (ev ∙ ap (λ (j : ℕ). get_or table j no_node) ek) in
      let put : node ≡ outcome.node = g.1 ∙ ap (λ (o : Outcome). o.node) is in (
        g.0 ∙ ap (λ (o : Outcome). o.answer) is ∙ ap (λ (o : whole.Result). o.answer) performed,
        el ∙ (λ i. set table (ek i) (put i)) ∙ ap (λ (o : whole.Result). o.table) performed,
        g.2 ∙ ap (λ (o : Outcome). o.store) is ∙ ap (λ (o : whole.Result). o.store) performed,
      )
