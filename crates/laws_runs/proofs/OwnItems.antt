-- The own item along a run: what the invariant says of x's own node at any point, and one law that a call keeps, that a node
-- which is Up and writes writes the item of its last Write.
use Prim.Native.Nat.{ℕ, suc, ◌≤◌, ◌<◌}
use native.Mathlib.Omega.{arith}
use mathlib.Core.Path.{◌≡◌, refl, sym, ap, subst, ◌∙◌}
use mathlib.Core.Logic.{inl, inr}
use mathlib.Core.Bool.{Bool, true, false, cond, false≢true}
use mathlib.Core.List.{List, [], ◌∷◌, ◌++◌, append_assoc, append-nil}
use borrow.Author.Tests.{eqb-true}
use lib.Dec.{eqb}
use lib.ListN.{length, set}
use lib.Seq.{get_or-set_same}
use Rattle.item.specs.Item.{zero_item, item_above}
use Rattle.item.specs.Maxima.{valid_size}
use Rattle.item.specs.declared.Item.{Item}
use Rattle.item.specs.declared.Tag.{Tag}
use Rattle.returns.specs.History.{Note, quiet, begins, settles, returns, History, after_note, May}
use Rattle.returns.specs.Invariant.{Own}
use Rattle.returns.specs.View.{up, idle, ViewNode}
use Rattle.returns.proofs.ViewLaws.{clash}
use Rattle.protocol.specs.Answer.{is_refused, ok}
use Rattle.protocol.specs.Call.{Call, is_to, is_ok, last_after, last_from, last_item}
use Rattle.protocol.specs.Claim.{OfNetworkRuns}
use Rattle.protocol.specs.Network.{Network, Decides, network_after, writes, retries, crashes, starts, delivers, Next, host_refuses, node_refuses, drops, acts, Run, fresh_network}
use Rattle.protocol.specs.Node.{half, row_of, own_item, crashed, blank_node, fresh_node, write_ended}
use Rattle.protocol.specs.Phase.{is_up, is_up_idle}
use Rattle.protocol.specs.Table.{no_node, node_at}
use Rattle.protocol.specs.Write.{crash_step}
use Rattle.protocol.specs.declared.Answer.{Answer}
use Rattle.protocol.specs.declared.Answer.TheVariants as answer
use Rattle.protocol.specs.declared.Event.{Event}
use Rattle.protocol.specs.declared.Event.TheVariants as event
use Rattle.protocol.specs.declared.Node.{Node}
use Rattle.protocol.specs.declared.Phase.{Phase}
use Rattle.protocol.specs.declared.Phase.TheVariants.{Down, Fetching, Returning, Up}
use Rattle.protocol.specs.declared.Refusal.{Refusal}
use Rattle.protocol.specs.declared.Stage.TheVariants.{Idle, Storing, Confirming}
use Rattle.protocol.specs.declared.Step.{Step}
use Rattle.protocol.proofs.Along.{At, last_later}
use Rattle.protocol.proofs.Cases.{IfTaken, refusal_not_taken, crash_cases}
use Rattle.protocol.proofs.Grouped.{Grouped, each_fresh}
use Rattle.protocol.proofs.InView.{odd_size, size_fits}
use Rattle.protocol.proofs.Phases.{up_seen, up_idle_is}
use Rattle.protocol.proofs.Place.{own_row}
use Rattle.protocol.proofs.Reached.{Known, Reached, call_allowed, reached, reached_call, at_reached}
use Rattle.protocol.proofs.Seen.{seen_phase, stage_in, seen, note_of}
use Rattle.protocol.proofs.Shown.{shown, next_shown}
use Rattle.protocol.proofs.Told.{told, told_by, told_last, refused_why}
use Rattle.operations.proofs.Simulation.{of_every_run}
use Rattle.laws_runs.specs.Along.{OfRuns, OfAllRuns, OwnStands, OwnAlong, LastNeverFalls, written_by, written_from, written, SettledWasWritten}
use Rattle.laws_runs.proofs.Moves.{Writing, Moves, moves}
use Rattle.std.specs.Prelude.{Option}
use Rattle.message.specs.declared.Envelope.{Envelope}

-- what is true of every run of a network is true of both
of_both : (P : ℕ → List Call → List Node → Type 0) → OfNetworkRuns (λ n calls net. P n calls net.nodes) → OfAllRuns P
unfolding OfAllRuns OfRuns
of_both P h = (h, of_every_run P h)

-- ---- the own item

idle_seen : (p : Phase) → is_up_idle p ≡ true → (seen_phase p ≡ up) × (stage_in p ≡ idle)
idle_seen p e = subst (λ (q : Phase). (seen_phase q ≡ up) × (stage_in q ≡ idle)) (sym (up_idle_is p e)) (refl, refl)

writing_seen : (p : Phase) → is_up p ≡ true → is_up_idle p ≡ false → stage_in p ≡ idle → ⊥
writing_seen Down e d z = false≢true e
writing_seen Fetching e d z = false≢true e
writing_seen (Returning s) e d z = false≢true e
writing_seen (Up Idle) e d z = false≢true (sym d)
writing_seen (Up Storing) e d z = clash (cc)
writing_seen (Up Confirming) e d z = clash (cc)

own_stands : (f n x : ℕ) (calls : List Call) (net : Network) → x < n → Grouped n net → Known f x calls net → OwnStands x calls (node_at net.nodes x)
own_stands f n x calls net below G K =
    let node : Node = node_at net.nodes x in
    let own : own_item node ≡ (row_of node x).item = own_row x node (G.placed x below).has_number in
    let O : Own K.history (seen x node) = K.invariant.own in
    record {
      when_idle = λ e. let s = idle_seen node.phase e in own ∙ O.when_idle s.0 s.1 ∙ K.last_is;
      when_writing =
          λ e d.
          ap (λ (i : Item). i.index.0) own ∙ O.when_writing (up_seen node.phase e) (writing_seen node.phase e d)
          ∙ ap (λ (i : Item). suc i.index.0) K.last_is;
    }

pub own_along : OwnAlong
unfolding OwnAlong OfNetworkRuns
own_along = of_both _ (λ n valid calls left run x below.
    let R : Reached n calls left = reached n valid run in
    own_stands (half n) n x calls left below R.grouped (R.known x below))

-- ---- the last item

-- a call moves the last item up, or not at all
note_rises : (h : History) (u v : ViewNode) → Own h u → (n : Note) → Moves n u v → May h n → h.last.index.0 ≤ (after_note h n).last.index.0
note_rises h u v o quiet m a = omega arith
note_rises h u v o (begins t) m a = omega arith
note_rises h u v o (settles i) m a =
    let (still, w, e) = m.when_settles i refl in
    let above : i.index.0 ≡ suc h.last.index.0 = ap (λ (j : Item). j.index.0) e ∙ o.when_writing w.is_up w.not_idle in
    omega (arith, above)
note_rises h u v o (returns i) m (inl e) = omega (arith, ap (λ (j : Item). j.index.0) e)
note_rises h u v o (returns i) m (inr e) = omega (arith, e.0)

module _ (n : ℕ) (valid : valid_size n ≡ true) (x : ℕ) (below : x < n) {net net' : Network} {c : Call} (before : List Call) (G : Grouped n net)
    (K : Known (half n) x before net) (s : Next net c net') where
  -- what x's own node is after the call, by what the call tells of x
  call_moves : Moves (told_by x c) (seen x (node_at net.nodes x)) (seen x (node_at net'.nodes x))
  call_moves =
      moves (half n) x K.history (shown x net) K.invariant.own
      (next_shown (half n) n x (odd_size n valid) (size_fits n valid) below net G s)

  last_rises : (last_item x before).index.0 ≤ (last_item x (before ++ (c ∷ []))).index.0
  unfolding last_item
  last_rises =
      let index : Item → ℕ = λ i. i.index.0 in
      let moved : last_from x zero_item (before ++ (c ∷ [])) ≡ (after_note K.history (told_by x c)).last =
      last_later x zero_item before c ∙ ap (last_after x c) (sym K.last_is) ∙ sym (told_last x s K.history) in
      let allowed : May K.history (told_by x c) =
      (call_allowed (half n) n x (odd_size n valid) (size_fits n valid) below before G s K).0 in
      omega (
        arith,
        ap index K.last_is,
        ap index moved,
        note_rises K.history _ _ K.invariant.own (told_by x c) call_moves allowed,
      )

module _ (n : ℕ) (valid : valid_size n ≡ true) {calls : List Call} {left : Network} (run : Run (fresh_network n) calls left) (x : ℕ) (below : x < n) where
  rises_from : (after before : List Call) → calls ≡ before ++ after → (last_item x before).index.0 ≤ (last_item x calls).index.0
  rises_from [] before e = omega (arith, ap (λ (l : List Call). (last_item x l).index.0) (e ∙ append-nil before))
  rises_from (c ∷ after) before e =
      let Z : At (Reached n) before c = reached_call n valid run before c after e in
      omega (
        arith,
        last_rises n valid x below before Z.holds.grouped (Z.holds.known x below) Z.next,
        rises_from after (before ++ (c ∷ [])) (e ∙ sym (append_assoc before (c ∷ []) after)),
      )

pub last_never_falls : LastNeverFalls
unfolding LastNeverFalls OfNetworkRuns
last_never_falls = of_both _ (λ n valid calls left run before after e x below. rises_from n valid run x below after before e)

-- ---- what is settled

-- one call more
written_later : (x : ℕ) (last : Item) (item : List Item) (before : List Call) (c : Call)
    → written_from x last item (before ++ (c ∷ [])) ≡ written_by x c.event c.answer (last_from x last before) (written_from x last item before)
unfolding written_from last_from
written_later x last item [] c = refl
written_later x last item (d ∷ before) c = written_later x (last_after x d last) (written_by x d.event d.answer last item) before c

-- a refused call begins nothing and loses nothing
refused_writes : (x : ℕ) (e : Event) (a : Answer) (last : Item) (item : List Item) → is_refused a ≡ true → written_by x e a last item ≡ item
unfolding written_by is_ok
refused_writes x e a last item r =
    let w = refused_why a r in
    subst (λ (b : Answer). written_by x e b last item ≡ item) (sym w.1) (go w.0 e)
  where
    go : (why : Refusal) (e : Event) → written_by x e (answer.Refused why) last item ≡ item
    go why (event.Write k tag) = refl
    go why (event.Retry k) = refl
    go why (event.Crash k) = refl
    go why (event.Start k) = refl
    go why (event.Drop r) = refl
    go why (event.Deliver r) = refl

-- a node that is Up and writes writes what its calls tell
abbrev Writes : ℕ → ℕ → List Call → Network → Type 0
Writes n x before net =
    Writing (seen x (node_at net.nodes x)) → written x before ≡ (row_of (node_at net.nodes x) x).item ∷ []

-- a delivery goes on with a write or ends it
delivery_goes_on : (x k : ℕ) (a : Answer) (u v : ViewNode) → Moves (note_of x k a) u v → Writing v → Writing u × (v.item ≡ u.item)
delivery_goes_on x k answer.Ok u v m w = m.when_quiet refl w
delivery_goes_on x k (answer.Settled i) u v m w = go (eqb k x) m
  where
    go : (t : Bool) → Moves (cond t (settles i) quiet) u v → Writing u × (v.item ≡ u.item)
    go true m = absurd (w.not_idle (m.when_settles i refl).0)
    go false m = m.when_quiet refl w
delivery_goes_on x k (answer.Accepted i) u v m w = go (eqb k x) m
  where
    go : (t : Bool) → Moves (cond t (returns i) quiet) u v → Writing u × (v.item ≡ u.item)
    go true m = absurd (w.not_idle (m.when_returns i refl))
    go false m = m.when_quiet refl w
delivery_goes_on x k (answer.Stopped r) u v m w = m.when_quiet refl w
delivery_goes_on x k (answer.Refused why) u v m w = m.when_quiet refl w

-- a crashed node does not write
crash_ends : (node : Node) → IfTaken (λ (step : Step). seen_phase step.node.phase ≡ up → ⊥) (crash_step node)
unfolding ok crashed blank_node
crash_ends node =
    let Ends : Step → Type 0 = λ step. seen_phase step.node.phase ≡ up → ⊥ in
    crash_cases (IfTaken Ends) node (refusal_not_taken Ends node) (λ _ e. clash (cc))

module _ (n : ℕ) (valid : valid_size n ≡ true) (x : ℕ) (below : x < n) where
  writes_kept : (net net' : Network) (c : Call) (before : List Call) → Reached n before net → Writes n x before net → Next net c net'
      → Writes n x (before ++ (c ∷ [])) net'
  unfolding written last_item written_by network_after node_at
  writes_kept net net' c before R W s w =
      written_later x zero_item [] before c ∙ go s (call_moves n valid x below before R.grouped (R.known x below) s) w
    where
      K : Known (half n) x before net
      K = R.known x below

      before_call : ViewNode
      before_call = seen x (node_at net.nodes x)

      -- the write goes on, and the call begins nothing
      goes_on : (v : ViewNode) → Writing before_call × (v.item ≡ before_call.item) → written_from x zero_item [] before ≡ v.item ∷ []
      goes_on v (w, e) = W w ∙ ap (λ (i : Item). i ∷ []) (sym e)

      at_k : (k : ℕ) → k < length net.nodes → eqb k x ≡ true → (node : Node) → node_at (set net.nodes k node) x ≡ node
      at_k k b e node =
          subst (λ (i : ℕ). node_at (set net.nodes k node) i ≡ node) (eqb-true k x e) (get_or-set_same net.nodes k node no_node b)

      -- a Write of node k
      writes_at : (v : ViewNode) (tag : Tag) (t u : Bool) → Moves (cond t (cond u (begins tag) quiet) quiet) before_call v → Writing v
          → cond t (cond u (item_above (last_from x zero_item before) tag ∷ []) (written_from x zero_item [] before)) (written_from x zero_item [] before)
          ≡ v.item ∷ []
      writes_at v tag true true m w =
          let (p, i, e) = m.when_begins tag refl in
          ap (λ (j : Item). j ∷ []) (sym (e ∙ ap (λ (j : Item). item_above j tag) (K.invariant.own.when_idle p i ∙ K.last_is)))
      writes_at v tag true false m w = goes_on v (m.when_quiet refl w)
      writes_at v tag false u m w = goes_on v (m.when_quiet refl w)

      -- a Crash of node k, after which x does not write if it is k
      crashes_at : (v : ViewNode) (t u : Bool) → (u ≡ true → Writing v → ⊥) → Moves quiet before_call v → Writing v
          → cond t (cond u [] (written_from x zero_item [] before)) (written_from x zero_item [] before) ≡ v.item ∷ []
      crashes_at v true true d m w = absurd (d refl w)
      crashes_at v true false d m w = goes_on v (m.when_quiet refl w)
      crashes_at v false u d m w = goes_on v (m.when_quiet refl w)

      go : {c : Call} {net' : Network} → Next net c net' → Moves (told_by x c) before_call (seen x (node_at net'.nodes x))
          → Writing (seen x (node_at net'.nodes x))
          → written_by x c.event c.answer (last_from x zero_item before) (written_from x zero_item [] before)
          ≡ (row_of (node_at net'.nodes x) x).item ∷ []
      go (host_refuses e r why z) m w = refused_writes x e (answer.Refused why) _ _ refl ∙ W w
      go (node_refuses {e = e} {step = step} d a) m w = refused_writes x e step.answer _ _ a ∙ W w
      go (drops r) m w = W w
      go {net' = after} (acts {step = step} (writes k tag b) a) m w =
          writes_at (seen x (node_at after.nodes x)) tag (is_ok step.answer) (eqb k x) m w
      go {net' = after} (acts (retries k b) a) m w = goes_on (seen x (node_at after.nodes x)) (m.when_quiet refl w)
      go {net' = after} (acts {step = step} (crashes k b) a) m w = crashes_at (seen x (node_at after.nodes x)) (is_ok step.answer) (eqb k x)
          (λ e v. crash_ends (node_at net.nodes k) a (subst (λ (node : Node). seen_phase node.phase ≡ up) (at_k k b e step.node) v.is_up)) m w
      go {net' = after} (acts (starts k b) a) m w = goes_on (seen x (node_at after.nodes x)) (m.when_quiet refl w)
      go {net' = after} (acts {step = step} (delivers r p b) a) m w =
          let v : ViewNode = seen x (node_at after.nodes x) in
          goes_on v (delivery_goes_on x p.envelope.addressee step.answer before_call v m w)

-- a call that names an item at x is at a node of the group, and tells just that
named_below : (n x : ℕ) {net net' : Network} {call : Call} → Grouped n net → Next net call net' → (item : Item) → call.answer ≡ answer.Settled item
    → is_to x call.message ≡ true → x < n
unfolding is_to
named_below n x G (host_refuses e m why z) item a t = clash (cc)
named_below n x G (node_refuses {step = step} d r) item a t = absurd (false≢true (sym (ap is_refused a) ∙ r))
named_below n x G (drops r) item a t = clash (cc)
named_below n x {net = net} G (acts d z) item a t = go d t
  where
    go : {e : Event} {m : Option Envelope} {k back : ℕ} {step : Step} → Decides net e m k back step → is_to x m ≡ true → x < n
    go (writes k tag b) t = absurd (false≢true t)
    go (retries k b) t = absurd (false≢true t)
    go (crashes k b) t = absurd (false≢true t)
    go (starts k b) t = absurd (false≢true t)
    go (delivers r p m) t = subst (λ (i : ℕ). i < n) (eqb-true p.envelope.addressee x t) (G.addressed p m).addressee_below

told_settles : (x : ℕ) {net net' : Network} {call : Call} → Next net call net' → (item : Item) → call.answer ≡ answer.Settled item
    → is_to x call.message ≡ true → told_by x call ≡ settles item
unfolding is_to
told_settles x (host_refuses e m why z) item a t = clash (cc)
told_settles x (node_refuses {step = step} d r) item a t = absurd (false≢true (sym (ap is_refused a) ∙ r))
told_settles x (drops r) item a t = clash (cc)
told_settles x {net = net} (acts d z) item a t = go d a t
  where
    go : {e : Event} {m : Option Envelope} {k back : ℕ} {step : Step} → Decides net e m k back step → step.answer ≡ answer.Settled item
        → is_to x m ≡ true → told x e m step.answer ≡ settles item
    go (writes k tag b) a t = absurd (false≢true t)
    go (retries k b) a t = absurd (false≢true t)
    go (crashes k b) a t = absurd (false≢true t)
    go (starts k b) a t = absurd (false≢true t)
    go (delivers r p m) a t = ap (note_of x p.envelope.addressee) a ∙ ap (λ (b : Bool). cond b (settles item) quiet) t

-- nothing is written at set-up
nobody_writes : (n x : ℕ) → Writes n x [] (fresh_network n)
unfolding fresh_network fresh_node write_ended blank_node no_node
nobody_writes n x w = absurd (each_fresh (λ (node : Node). Writing (seen x node) → ⊥) n (λ k v. v.not_idle refl) (λ v. v.not_idle refl) x w)

pub settled_was_written : SettledWasWritten
unfolding SettledWasWritten OfNetworkRuns
settled_was_written = of_both _ (λ n valid calls left run before call after e x item a t.
    let Z : At (Reached n) before call = reached_call n valid run before call after e in
    let below : x < n = named_below n x Z.holds.grouped Z.next item a t in
    let B = at_reached n valid run (Writes n x) (writes_kept n valid x below) (nobody_writes n x) before call after e in
    let R : Reached n before B.net = B.holds.0 in
    let m : Moves (told_by x call) (seen x (node_at B.net.nodes x)) (seen x (node_at B.after.nodes x)) =
    call_moves n valid x below before R.grouped (R.known x below) B.next in
    let (still, w, own) = m.when_settles item (told_settles x B.next item a t) in
    B.holds.1 w ∙ ap (λ (i : Item). i ∷ []) (sym own))
