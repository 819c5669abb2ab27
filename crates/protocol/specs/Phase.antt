-- The named tests on a node's phase, by which every decision branches, and the changes of a phase.
use Rattle.std.specs.Prelude.{Bool, true, false}
use Rattle.protocol.specs.declared.Phase.{Phase}
use Rattle.protocol.specs.declared.Phase.TheVariants.{Down, Fetching, Returning, Up}
use Rattle.protocol.specs.declared.Stage.{Stage}
use Rattle.protocol.specs.declared.Stage.TheVariants.{Idle, Storing, Confirming}

abbrev pub is_down : Phase → Bool
is_down Down = true
is_down Fetching = false
is_down (Returning stage) = false
is_down (Up stage) = false

abbrev pub is_fetching : Phase → Bool
is_fetching Down = false
is_fetching Fetching = true
is_fetching (Returning stage) = false
is_fetching (Up stage) = false

-- "at Up": in any stage of its own write
abbrev pub is_up : Phase → Bool
is_up Down = false
is_up Fetching = false
is_up (Returning stage) = false
is_up (Up stage) = true

abbrev pub is_idle_stage : Stage → Bool
is_idle_stage Idle = true
is_idle_stage Storing = false
is_idle_stage Confirming = false

abbrev pub is_storing_stage : Stage → Bool
is_storing_stage Idle = false
is_storing_stage Storing = true
is_storing_stage Confirming = false

abbrev pub is_confirming_stage : Stage → Bool
is_confirming_stage Idle = false
is_confirming_stage Storing = false
is_confirming_stage Confirming = true

-- "Up and Idle"
abbrev pub is_up_idle : Phase → Bool
is_up_idle Down = false
is_up_idle Fetching = false
is_up_idle (Returning stage) = false
is_up_idle (Up stage) = is_idle_stage stage

-- "Idle", when Returning or Up
abbrev pub is_idle : Phase → Bool
is_idle Down = false
is_idle Fetching = false
is_idle (Returning stage) = is_idle_stage stage
is_idle (Up stage) = is_idle_stage stage

-- "Storing", when Returning or Up
abbrev pub is_storing : Phase → Bool
is_storing Down = false
is_storing Fetching = false
is_storing (Returning stage) = is_storing_stage stage
is_storing (Up stage) = is_storing_stage stage

-- "Confirming", when Returning or Up
abbrev pub is_confirming : Phase → Bool
is_confirming Down = false
is_confirming Fetching = false
is_confirming (Returning stage) = is_confirming_stage stage
is_confirming (Up stage) = is_confirming_stage stage

abbrev pub is_returning : Phase → Bool
is_returning Down = false
is_returning Fetching = false
is_returning (Returning stage) = true
is_returning (Up stage) = false

-- another stage of the write; Down and Fetching have none
unfoldable pub at_stage : Phase → Stage → Phase
at_stage Down stage = Down
at_stage Fetching stage = Fetching
at_stage (Returning old) stage = Returning stage
at_stage (Up old) stage = Up stage
