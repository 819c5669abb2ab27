-- The tests on a node's phase, read in x's view: which phase and stage the view shows, and that it is live. Each by cases.
use mathlib.Core.Path.{◌≡◌, refl, sym}
use mathlib.Core.Bool.{true, false, false≢true}
use Rattle.returns.specs.View.{returning, up, idle, storing, confirming, live}
use Rattle.returns.proofs.ViewLaws.{clash}
use Rattle.protocol.specs.Phase.{is_down, is_fetching, is_up, is_idle_stage, is_storing_stage, is_confirming_stage, is_up_idle, is_idle, is_storing, is_confirming, is_returning, at_stage}
use Rattle.protocol.specs.declared.Phase.{Phase}
use Rattle.protocol.specs.declared.Phase.TheVariants.{Down, Fetching, Returning, Up}
use Rattle.protocol.specs.declared.Stage.{Stage}
use Rattle.protocol.specs.declared.Stage.TheVariants.{Idle, Storing, Confirming}
use Rattle.protocol.proofs.Seen.{seen_phase, seen_stage, stage_in}

pub fetching_is : (p : Phase) → is_fetching p ≡ true → p ≡ Fetching
unfolding is_fetching
fetching_is Down e = absurd (false≢true e)
fetching_is Fetching e = refl
fetching_is (Returning s) e = absurd (false≢true e)
fetching_is (Up s) e = absurd (false≢true e)

pub up_seen : (p : Phase) → is_up p ≡ true → seen_phase p ≡ up
unfolding is_up
up_seen Down e = absurd (false≢true e)
up_seen Fetching e = absurd (false≢true e)
up_seen (Returning s) e = absurd (false≢true e)
up_seen (Up s) e = refl

idle_stage : (s : Stage) → is_idle_stage s ≡ true → s ≡ Idle
unfolding is_idle_stage
idle_stage Idle e = refl
idle_stage Storing e = absurd (false≢true e)
idle_stage Confirming e = absurd (false≢true e)

storing_stage : (s : Stage) → is_storing_stage s ≡ true → seen_stage s ≡ storing
unfolding is_storing_stage
storing_stage Idle e = absurd (false≢true e)
storing_stage Storing e = refl
storing_stage Confirming e = absurd (false≢true e)

confirming_stage : (s : Stage) → is_confirming_stage s ≡ true → seen_stage s ≡ confirming
unfolding is_confirming_stage
confirming_stage Idle e = absurd (false≢true e)
confirming_stage Storing e = absurd (false≢true e)
confirming_stage Confirming e = refl

pub up_idle_is : (p : Phase) → is_up_idle p ≡ true → p ≡ Up Idle
unfolding is_up_idle
up_idle_is Down e = absurd (false≢true e)
up_idle_is Fetching e = absurd (false≢true e)
up_idle_is (Returning s) e = absurd (false≢true e)
up_idle_is (Up s) e = rw (idle_stage s e)

pub storing_seen : (p : Phase) → is_storing p ≡ true → stage_in p ≡ storing
unfolding is_storing
storing_seen Down e = absurd (false≢true e)
storing_seen Fetching e = absurd (false≢true e)
storing_seen (Returning s) e = storing_stage s e
storing_seen (Up s) e = storing_stage s e

pub storing_live : (p : Phase) → is_storing p ≡ true → live (seen_phase p) ≡ true
unfolding is_storing
storing_live Down e = e
storing_live Fetching e = e
storing_live (Returning s) e = refl
storing_live (Up s) e = refl

pub confirming_seen : (p : Phase) → is_confirming p ≡ true → stage_in p ≡ confirming
unfolding is_confirming
confirming_seen Down e = absurd (false≢true e)
confirming_seen Fetching e = absurd (false≢true e)
confirming_seen (Returning s) e = confirming_stage s e
confirming_seen (Up s) e = confirming_stage s e

pub confirming_live : (p : Phase) → is_confirming p ≡ true → live (seen_phase p) ≡ true
unfolding is_confirming
confirming_live Down e = e
confirming_live Fetching e = e
confirming_live (Returning s) e = refl
confirming_live (Up s) e = refl

pub up_live : (p : Phase) → is_up p ≡ true → live (seen_phase p) ≡ true
up_live p e = rw (up_seen p e)

-- neither Down nor Fetching
pub else_live : (p : Phase) → is_down p ≡ false → is_fetching p ≡ false → live (seen_phase p) ≡ true
unfolding is_down is_fetching
else_live Down d e = sym d
else_live Fetching d e = sym e
else_live (Returning s) d e = refl
else_live (Up s) d e = refl

not_idle_stage : (s : Stage) → is_idle_stage s ≡ false → seen_stage s ≡ idle → ⊥
unfolding is_idle_stage
not_idle_stage Idle e h = false≢true (sym e)
not_idle_stage Storing e h = clash (cc)
not_idle_stage Confirming e h = clash (cc)

pub not_idle : (p : Phase) → live (seen_phase p) ≡ true → is_idle p ≡ false → stage_in p ≡ idle → ⊥
unfolding is_idle
not_idle Down l e h = false≢true l
not_idle Fetching l e h = false≢true l
not_idle (Returning s) l e h = not_idle_stage s e h
not_idle (Up s) l e h = not_idle_stage s e h

-- another stage: the phase stays in view, and a live node shows the stage
pub at_stage_phase : (p : Phase) (s : Stage) → seen_phase (at_stage p s) ≡ seen_phase p
unfolding at_stage
at_stage_phase Down s = refl
at_stage_phase Fetching s = refl
at_stage_phase (Returning t) s = refl
at_stage_phase (Up t) s = refl

pub at_stage_seen : (p : Phase) (s : Stage) → live (seen_phase p) ≡ true → stage_in (at_stage p s) ≡ seen_stage s
unfolding at_stage
at_stage_seen Down s e = absurd (false≢true e)
at_stage_seen Fetching s e = absurd (false≢true e)
at_stage_seen (Returning t) s e = refl
at_stage_seen (Up t) s e = refl

-- the two phases of a write that ends
pub returning_is : (p : Phase) → is_returning p ≡ true → seen_phase p ≡ returning
unfolding is_returning
returning_is Down e = absurd (false≢true e)
returning_is Fetching e = absurd (false≢true e)
returning_is (Returning s) e = refl
returning_is (Up s) e = absurd (false≢true e)

pub returning_not : (p : Phase) → is_returning p ≡ false → seen_phase p ≡ returning → ⊥
unfolding is_returning
returning_not Down e h = clash (cc)
returning_not Fetching e h = clash (cc)
returning_not (Returning s) e h = false≢true (sym e)
returning_not (Up s) e h = clash (cc)
