use Rattle.std.proofs.Common.{length, ◌≡◌}
use Rattle.drill.proofs.main.Given as goal

-- room is the store's 65280 bytes and eight more, block and out are large buffers of `io`
abbrev pub invariant-loop : goal.invariant-loop
invariant-loop l = (length l.room ≡ 65288) × (length l.block ≡ 65536) × (length l.out ≡ 65536)
