-- `node_sound::fast::unused_zero` meets its contract: in a group that has a node for each row no row is unused.
use native.Mathlib.Omega.{arith}
use lib.ListN.{drop_of_length-le}
use Rattle.node_sound.specs.Rest.{unused_zero}
use Rattle.node_sound.proofs.fast.unused_zero.Goals as goal

pub returns-then-n-ge-MAX_NODES : goal.returns-then-n-ge-MAX_NODES
unfolding unused_zero
returns-then-n-ge-MAX_NODES c = rw (drop_of_length-le c.args.rows.now {i = c.args.n} (omega arith))
