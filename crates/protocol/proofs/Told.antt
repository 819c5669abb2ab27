-- What a call tells of x, as a note, against the words of the claim: the note moves the history as `last_after` and `begun_at`
-- do, and a return is the note `returns`.
use Prim.Native.Nat.{ℕ}
use mathlib.Core.Path.{◌≡◌, refl, sym, ap, subst, ◌∙◌}
use mathlib.Core.Logic.{◌⊎◌, inl, inr}
use mathlib.Core.Bool.{Bool, true, false, cond, false≢true}
use mathlib.Core.List.Memᴰ
use mathlib.Core.List.{List, [], ◌∷◌, Memᴰ}
use lib.Dec.{eqb}
use Rattle.item.specs.Item.{item_above}
use Rattle.item.specs.declared.Item.{Item}
use Rattle.item.specs.declared.Tag.{Tag}
use Rattle.returns.specs.History.{Note, quiet, begins, settles, returns, History, after_note}
use Rattle.returns.proofs.ViewLaws.{clash}
use Rattle.protocol.specs.Answer.{is_refused}
use Rattle.protocol.specs.Claim.{ReturnsWith}
use Rattle.protocol.specs.Network.{Network, Decides, writes, retries, crashes, starts, delivers, Next, host_refuses, node_refuses, drops, acts}
use Rattle.protocol.specs.Call.{Call, is_to, item_after, last_after, is_ok, begun_at}
use Rattle.protocol.specs.declared.Answer.{Answer}
use Rattle.protocol.specs.declared.Answer.TheVariants as answer
use Rattle.protocol.specs.declared.Event.{Event}
use Rattle.protocol.specs.declared.Event.TheVariants as event
use Rattle.protocol.specs.declared.Refusal.{Refusal}
use Rattle.protocol.specs.declared.Step.{Step}
use Rattle.protocol.proofs.Seen.{note_of}
use Rattle.std.specs.Prelude.{None, Option, Some}
use Rattle.message.specs.declared.Envelope.{Envelope}

-- what an event, the message that it delivers and its answer tell of x
abbrev pub told : ℕ → Event → Option Envelope → Answer → Note
told x (event.Write k tag) m a = cond (is_ok a) (cond (eqb k x) (begins tag) quiet) quiet
told x (event.Retry k) m a = quiet
told x (event.Crash k) m a = quiet
told x (event.Start k) m a = quiet
told x (event.Drop r) m a = quiet
told x (event.Deliver r) None a = quiet
told x (event.Deliver r) (Some e) a = note_of x e.addressee a

-- what a call tells of x
abbrev pub told_by : ℕ → Call → Note
told_by x call = told x call.event call.message call.answer

-- a refusal tells nothing
pub refused_why : (a : Answer) → is_refused a ≡ true → (why : Refusal) × (a ≡ answer.Refused why)
unfolding is_refused
refused_why answer.Ok e = absurd (false≢true e)
refused_why (answer.Settled i) e = absurd (false≢true e)
refused_why (answer.Accepted i) e = absurd (false≢true e)
refused_why (answer.Stopped r) e = absurd (false≢true e)
refused_why (answer.Refused why) e = (why, refl)

quiet_refusal : (x : ℕ) (e : Event) (m : Option Envelope) (why : Refusal) → told x e m (answer.Refused why) ≡ quiet
unfolding is_ok
quiet_refusal x (event.Write k tag) m why = refl
quiet_refusal x (event.Retry k) m why = refl
quiet_refusal x (event.Crash k) m why = refl
quiet_refusal x (event.Start k) m why = refl
quiet_refusal x (event.Drop r) m why = refl
quiet_refusal x (event.Deliver r) None why = refl
quiet_refusal x (event.Deliver r) (Some e) why = refl

pub told_refused : (x : ℕ) (e : Event) (m : Option Envelope) (a : Answer) → is_refused a ≡ true → told x e m a ≡ quiet
told_refused x e m a r =
    let w = refused_why a r in
    subst (λ (b : Answer). told x e m b ≡ quiet) (sym w.1) (quiet_refusal x e m w.0)

-- and accepts nothing
pub refused_not_accepted : (a : Answer) (item : Item) {B : Type 0} → is_refused a ≡ true → a ≡ answer.Accepted item → B
unfolding is_refused
refused_not_accepted a item r e = absurd (false≢true (sym (ap is_refused e) ∙ r))

-- ---- the last item

-- an item named at node k, if k is x
settled_last : (h : History) (i : Item) (t : Bool) → (after_note h (cond t (settles i) quiet)).last ≡ cond t i h.last
settled_last h i true = refl
settled_last h i false = refl

returned_last : (h : History) (i : Item) (t : Bool) → (after_note h (cond t (returns i) quiet)).last ≡ cond t i h.last
returned_last h i true = refl
returned_last h i false = refl

either : (i : Item) (t : Bool) → i ≡ cond t i i
either i true = refl
either i false = refl

deliver_last : (x k : ℕ) (a : Answer) (h : History) → (after_note h (note_of x k a)).last ≡ cond (eqb k x) (item_after a h.last) h.last
unfolding item_after
deliver_last x k answer.Ok h = either h.last (eqb k x)
deliver_last x k (answer.Settled i) h = settled_last h i (eqb k x)
deliver_last x k (answer.Accepted i) h = returned_last h i (eqb k x)
deliver_last x k (answer.Stopped r) h = either h.last (eqb k x)
deliver_last x k (answer.Refused why) h = either h.last (eqb k x)

-- a Write names no item
begun_last : (h : History) (tag : Tag) (t u : Bool) → (after_note h (cond t (cond u (begins tag) quiet) quiet)).last ≡ h.last
begun_last h tag true true = refl
begun_last h tag true false = refl
begun_last h tag false u = refl

refused_last : (x : ℕ) (e : Event) (m : Option Envelope) (a : Answer) → is_refused a ≡ true → (h : History)
    → (after_note h (told x e m a)).last ≡ cond (is_to x m) (item_after a h.last) h.last
unfolding item_after
refused_last x e m a r h =
    let w = refused_why a r in
    ap (λ (t : Note). (after_note h t).last) (told_refused x e m a r) ∙ either h.last (is_to x m)
    ∙ ap (λ (b : Answer). cond (is_to x m) (item_after b h.last) h.last) (sym w.1)

pub told_last : (x : ℕ) {net net' : Network} {call : Call} → Next net call net' → (h : History)
    → (after_note h (told_by x call)).last ≡ last_after x call h.last
unfolding last_after is_to item_after is_refused
told_last x (host_refuses e m why z) h = refused_last x e m (answer.Refused why) refl h
told_last x (node_refuses {e = e} {m = m} {step = step} d a) h = refused_last x e m step.answer a h
told_last x (drops r) h = refl
told_last x {net = net} (acts d z) h = go d
  where
    go : {e : Event} {m : Option Envelope} {k back : ℕ} {step : Step} → Decides net e m k back step
        → (after_note h (told x e m step.answer)).last ≡ last_after x (record { event = e; answer = step.answer; message = m }) h.last
    go {step = step} (writes k tag b) = begun_last h tag (is_ok step.answer) (eqb k x)
    go (retries k b) = refl
    go (crashes k b) = refl
    go (starts k b) = refl
    go {step = step} (delivers r p m) = deliver_last x p.envelope.addressee step.answer h

-- ---- the items begun

settled_begun : (h : History) (i : Item) (t : Bool) → (after_note h (cond t (settles i) quiet)).begun ≡ h.begun
settled_begun h i true = refl
settled_begun h i false = refl

returned_begun : (h : History) (i : Item) (t : Bool) → (after_note h (cond t (returns i) quiet)).begun ≡ h.begun
returned_begun h i true = refl
returned_begun h i false = refl

-- a delivery begins nothing
deliver_begun : (x k : ℕ) (a : Answer) (h : History) → (after_note h (note_of x k a)).begun ≡ h.begun
deliver_begun x k answer.Ok h = refl
deliver_begun x k (answer.Settled i) h = settled_begun h i (eqb k x)
deliver_begun x k (answer.Accepted i) h = returned_begun h i (eqb k x)
deliver_begun x k (answer.Stopped row) h = refl
deliver_begun x k (answer.Refused why) h = refl

-- a Write begins the item one above
write_begun : (h : History) (tag : Tag) (item : Item) (t u : Bool) → Memᴰ item (after_note h (cond t (cond u (begins tag) quiet) quiet)).begun
    → Memᴰ item h.begun ⊎ Memᴰ item (cond t (cond u (item_above h.last tag ∷ []) []) [])
write_begun h tag item true true m = go (Memᴰ.cases_cons m)
  where
    go : (item ≡ item_above h.last tag) ⊎ Memᴰ item h.begun → Memᴰ item h.begun ⊎ Memᴰ item (item_above h.last tag ∷ [])
    go (inl e) = inr (Memᴰ.head e)
    go (inr k) = inl k
write_begun h tag item true false m = inl m
write_begun h tag item false u m = inl m

pub told_begun : (x : ℕ) {net net' : Network} {call : Call} → Next net call net' → (h : History) (item : Item)
    → Memᴰ item (after_note h (told_by x call)).begun → Memᴰ item h.begun ⊎ Memᴰ item (begun_at x call.event call.answer h.last)
unfolding begun_at is_refused
told_begun x (host_refuses e m why z) h item j = inl (subst (λ (t : Note). Memᴰ item (after_note h t).begun) (told_refused x e m (answer.Refused why) refl) j)
told_begun x (node_refuses {e = e} {m = m} {step = step} d a) h item j =
    inl (subst (λ (t : Note). Memᴰ item (after_note h t).begun) (told_refused x e m step.answer a) j)
told_begun x (drops r) h item j = inl j
told_begun x {net = net} (acts d z) h item j = go d j
  where
    go : {e : Event} {m : Option Envelope} {k back : ℕ} {step : Step} → Decides net e m k back step
        → Memᴰ item (after_note h (told x e m step.answer)).begun → Memᴰ item h.begun ⊎ Memᴰ item (begun_at x e step.answer h.last)
    go {step = step} (writes k tag b) i = write_begun h tag item (is_ok step.answer) (eqb k x) i
    go (retries k b) i = inl i
    go (crashes k b) i = inl i
    go (starts k b) i = inl i
    go {step = step} (delivers r p m) i =
        inl (subst (λ (l : List Item). Memᴰ item l) (deliver_begun x p.envelope.addressee step.answer h) i)

-- ---- a return

pub told_returns : (x : ℕ) {net net' : Network} {call : Call} → Next net call net' → (item : Item) → ReturnsWith x item call → told_by x call ≡ returns item
unfolding is_to
told_returns x (host_refuses e m why z) item R = let a = R.accepted in clash (cc)
told_returns x (node_refuses {step = step} d a) item R = refused_not_accepted step.answer item a R.accepted
told_returns x (drops r) item R = let a = R.accepted in clash (cc)
told_returns x {net = net} (acts d z) item R = go d R
  where
    go : {e : Event} {m : Option Envelope} {k back : ℕ} {step : Step} → Decides net e m k back step
        → ReturnsWith x item (record { event = e; answer = step.answer; message = m }) → told x e m step.answer ≡ returns item
    go (writes k tag b) R = absurd (false≢true R.at_x)
    go (retries k b) R = absurd (false≢true R.at_x)
    go (crashes k b) R = absurd (false≢true R.at_x)
    go (starts k b) R = absurd (false≢true R.at_x)
    go (delivers r p m) R =
        ap (note_of x p.envelope.addressee) R.accepted ∙ ap (λ (t : Bool). cond t (returns item) quiet) R.at_x
