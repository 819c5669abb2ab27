-- What holds of the phases that a test names holds of every phase that passes it.
use mathlib.Core.Path.{◌≡◌, sym}
use mathlib.Core.Bool.{true, false, false≢true}
use Rattle.protocol.specs.Phase.{is_down, is_fetching, is_up, is_storing_stage, is_confirming_stage, is_up_idle, is_storing, is_confirming}
use Rattle.protocol.specs.declared.Phase.{Phase}
use Rattle.protocol.specs.declared.Phase.TheVariants.{Down, Fetching, Returning, Up}
use Rattle.protocol.specs.declared.Stage.{Stage}
use Rattle.protocol.specs.declared.Stage.TheVariants.{Idle, Storing, Confirming}

module _ (P : Phase → Type 0) where
  pub fetching_cases : P Fetching → (p : Phase) → is_fetching p ≡ true → P p
  fetching_cases h Down e = absurd (false≢true e)
  fetching_cases h Fetching e = h
  fetching_cases h (Returning s) e = absurd (false≢true e)
  fetching_cases h (Up s) e = absurd (false≢true e)

  pub up_cases : ((s : Stage) → P (Up s)) → (p : Phase) → is_up p ≡ true → P p
  up_cases h Down e = absurd (false≢true e)
  up_cases h Fetching e = absurd (false≢true e)
  up_cases h (Returning s) e = absurd (false≢true e)
  up_cases h (Up s) e = h s

  pub idle_cases : ((s : Stage) → P (Up s)) → (p : Phase) → is_up_idle p ≡ true → P p
  idle_cases h Down e = absurd (false≢true e)
  idle_cases h Fetching e = absurd (false≢true e)
  idle_cases h (Returning s) e = absurd (false≢true e)
  idle_cases h (Up s) e = h s

  -- neither Down nor Fetching
  pub live_cases : ((s : Stage) → P (Returning s)) → ((s : Stage) → P (Up s)) → (p : Phase) → is_down p ≡ false → is_fetching p ≡ false → P p
  live_cases h h' Down d e = absurd (false≢true (sym d))
  live_cases h h' Fetching d e = absurd (false≢true (sym e))
  live_cases h h' (Returning s) d e = h s
  live_cases h h' (Up s) d e = h' s

storing_stage : (P : Stage → Type 0) → P Storing → (s : Stage) → is_storing_stage s ≡ true → P s
storing_stage P h Idle e = absurd (false≢true e)
storing_stage P h Storing e = h
storing_stage P h Confirming e = absurd (false≢true e)

confirming_stage : (P : Stage → Type 0) → P Confirming → (s : Stage) → is_confirming_stage s ≡ true → P s
confirming_stage P h Idle e = absurd (false≢true e)
confirming_stage P h Storing e = absurd (false≢true e)
confirming_stage P h Confirming e = h

module _ (P : Phase → Type 0) where
  pub storing_cases : P (Returning Storing) → P (Up Storing) → (p : Phase) → is_storing p ≡ true → P p
  storing_cases h h' Down e = absurd (false≢true e)
  storing_cases h h' Fetching e = absurd (false≢true e)
  storing_cases h h' (Returning s) e = storing_stage (λ t. P (Returning t)) h s e
  storing_cases h h' (Up s) e = storing_stage (λ t. P (Up t)) h' s e

  pub confirming_cases : P (Returning Confirming) → P (Up Confirming) → (p : Phase) → is_confirming p ≡ true → P p
  confirming_cases h h' Down e = absurd (false≢true e)
  confirming_cases h h' Fetching e = absurd (false≢true e)
  confirming_cases h h' (Returning s) e = confirming_stage (λ t. P (Returning t)) h s e
  confirming_cases h h' (Up s) e = confirming_stage (λ t. P (Up t)) h' s e
