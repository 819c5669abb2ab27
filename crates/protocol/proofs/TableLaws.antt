-- Laws of a sound table: it has n nodes, and each is sound at its place.
use Prim.Native.Nat.{ℕ, zero, suc, ◌+◌, ◌<◌}
use native.Mathlib.Omega.{arith}
use native.Mathlib.Nat.{zero-add}
use mathlib.Core.Path.{◌≡◌, subst}
use mathlib.Core.Bool.{Bool, true}
use mathlib.Core.List.{List, [], ◌∷◌}
use lib.Dec.{eqb}
use lib.ListN.{length, get_or}
use borrow.Author.Tests.{eqb-true}
use Rattle.item.proofs.Tests.{and_left, and_right}
use Rattle.protocol.specs.Sound.{every_from, sound_node}
use Rattle.protocol.specs.Table.{no_node, node_at, sound_table}
use Rattle.protocol.specs.declared.Node.{Node}

every_at : {A : Type 0} (test : ℕ → A → Bool) (k : ℕ) (l : List A) (d : A) (j : ℕ) → every_from test k l ≡ true → j < length l
    → test (k + j) (get_or l j d) ≡ true
unfolding every_from
every_at test k [] d j e h = absurd (omega arith)
every_at test k (a ∷ l) d zero e h =
    let z : k + 0 ≡ k = omega arith in
    rw z (and_left (test k a) (every_from test (suc k) l) e)
every_at test k (a ∷ l) d (suc j) e h =
    let z : k + suc j ≡ suc k + j = omega arith in
    rw z (every_at test (suc k) l d j (and_right (test k a) (every_from test (suc k) l) e) (omega arith))

module _ (n : ℕ) (table : List Node) (e : sound_table n table ≡ true) where
  pub table_count : length table ≡ n
  unfolding sound_table
  table_count = eqb-true (length table) n (and_left (eqb (length table) n) (every_from (sound_node n) 0 table) e)

  pub every_sound : every_from (sound_node n) 0 table ≡ true
  unfolding sound_table
  every_sound = and_right (eqb (length table) n) (every_from (sound_node n) 0 table) e

  pub node_sound : (k : ℕ) → k < n → sound_node n k (node_at table k) ≡ true
  unfolding node_at
  node_sound k h =
      let c : length table ≡ n = table_count in
      subst (λ (i : ℕ). sound_node n i (get_or table k no_node) ≡ true) (zero-add k)
      (every_at (sound_node n) 0 table no_node k every_sound (omega arith))
