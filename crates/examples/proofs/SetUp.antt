-- What is said to Set up, and after it: set-up looks at lengths alone, so that what it leaves is the same for all tables and
-- stores.
use Prim.Native.Nat.{ℕ}
use native.Mathlib.Omega.{arith}
use mathlib.Core.Path.{◌≡◌, ap}
use mathlib.Core.Bool.{true, false}
use mathlib.Core.List.{List, [], ◌∷◌}
use lib.ListN.{length, drop, length-drop}
use borrow.Author.Tests.{eqb-true, eq-eqb, ne_eqb}
use Rattle.item.specs.Maxima.{valid_size}
use Rattle.store.specs.Records.{right_length}
use Rattle.operations.specs.Operation.{set_up, refuse}
use Rattle.operations.specs.Run.{calls}
use Rattle.protocol.specs.Table.{fresh_table}
use Rattle.protocol.specs.declared.Event.{Event}
use Rattle.protocol.specs.declared.Node.{Node}
use Rattle.examples.specs.Said as said
use Rattle.examples.specs.Said.{Said, said, drill}
use Rattle.examples.proofs.Followed.{answered}
use Rattle.examples.proofs.Contents.{holds_none}
use Rattle.examples.proofs.Trace.{saying, trace}

module _ (n : ℕ) (table : List Node) (store : List ℕ) (many : length table ≡ n) where
  -- an accepted set-up, and the answers after it
  pub drilled : valid_size n ≡ true → right_length store ≡ true → (events : List Event) {l : List Said}
      → trace n (fresh_table n) [] events ≡ saying l → drill n table store events ≡ said.ok ∷ l
  unfolding drill set_up said
  drilled valid right events e =
      rw (valid, eq-eqb (length table) n many, right)
      (ap (λ (l : List Said). said.ok ∷ l) (answered (holds_none n valid) (fresh_table n) events e))

  pub not_valid : valid_size n ≡ false → drill n table store [] ≡ said.gives 1 ∷ []
  unfolding drill set_up said refuse calls
  not_valid e = rw e

  pub short : valid_size n ≡ true → right_length store ≡ false → drill n table store [] ≡ said.gives 2 ∷ []
  unfolding drill set_up said refuse calls
  short valid e = rw (valid, eq-eqb (length table) n many, e)

-- a store of one byte fewer has not the right length
pub one_short : (store : List ℕ) → right_length store ≡ true → right_length (drop 1 store) ≡ false
unfolding right_length
one_short store right =
    ne_eqb (length (drop 1 store)) _ (λ e. absurd (omega (arith, eqb-true (length store) _ right, length-drop 1 store)))
