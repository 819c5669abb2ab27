-- Whether fields say a message.
use Rattle.std.specs.Prelude.{Bool, true, false, None, Option, Some}
use Rattle.message.specs.declared.Message.{Message}

unfoldable pub is_known : Option Message → Bool
is_known None = false
is_known (Some m) = true
