-- The laws of the comparisons: a test is true exactly if what it names holds. Proofs above cite these and open no definition.
use Prim.Native.Nat.{suc, ◌<◌, ◌≤◌}
use native.Mathlib.Omega.{arith}
use mathlib.Core.Path.{◌≡◌, refl}
use mathlib.Core.Bool.{Bool, true, false, beq, false≢true}
use lib.Dec.{eqb}
use borrow.Author.Tests.{ltb-true, ltb-false, lt-ltb, le-ltb, eqb-true}
use Rattle.item.specs.Counter.{index_below, index_at_largest, next_index, same_incarnation, incarnation_at_largest, next_incarnation, same_attempt, attempt_at_largest, next_attempt}
use Rattle.item.specs.Item.{tags_agree, ranks_below, same_item}
use Rattle.item.specs.Row.{same_row}
use Rattle.item.proofs.Tests.{and_left, and_right}
use Rattle.item.specs.declared.counters.Attempt.{Attempt}
use Rattle.item.specs.declared.counters.Incarnation.{Incarnation}
use Rattle.item.specs.declared.counters.Index.{Index}
use Rattle.item.specs.declared.Item.{Item}
use Rattle.item.specs.declared.Row.{Row}
use Rattle.item.specs.declared.Tag.{Tag}

-- an index is below another exactly if its number is
pub below_less : (i j : Index) → index_below i j ≡ true → i.0 < j.0
unfolding index_below
below_less i j e = ltb-true i.0 j.0 e

pub not_below : (i j : Index) → index_below i j ≡ false → j.0 ≤ i.0
unfolding index_below
not_below i j e = ltb-false i.0 j.0 e

pub less_below : (i j : Index) → i.0 < j.0 → index_below i j ≡ true
unfolding index_below
less_below i j h = lt-ltb i.0 j.0 h

pub below_none : (i j : Index) → j.0 ≤ i.0 → index_below i j ≡ false
unfolding index_below
below_none i j h = le-ltb i.0 j.0 h

-- tags agree exactly if they are equal
pub agree_same : (t u : Tag) → tags_agree t u ≡ true → t ≡ u
unfolding tags_agree
agree_same t u e = let p : t.0 ≡ u.0 = eqb-true t.0 u.0 e in λ k. record { 0 = p k }

-- incarnations and attempts likewise
pub same_incarnation_lem : (i j : Incarnation) → same_incarnation i j ≡ true → i ≡ j
unfolding same_incarnation
same_incarnation_lem i j e = let p : i.0 ≡ j.0 = eqb-true i.0 j.0 e in λ k. record { 0 = p k }

pub same_attempt_lem : (a b : Attempt) → same_attempt a b ≡ true → a ≡ b
unfolding same_attempt
same_attempt_lem a b e = let p : a.0 ≡ b.0 = eqb-true a.0 b.0 e in λ k. record { 0 = p k }

-- two items are the same exactly if they are equal
pub same_item_lem : (i j : Item) → same_item i j ≡ true → i ≡ j
unfolding same_item
same_item_lem i j e =
    let p : i.index.0 ≡ j.index.0 = eqb-true i.index.0 j.index.0 (and_left _ _ e) in
    let q : i.tag ≡ j.tag = agree_same i.tag j.tag (and_right (eqb i.index.0 j.index.0) _ e) in
    λ k. record { index = record { 0 = p k }; tag = q k }

-- and two rows
pub same_row_lem : (r s : Row) → same_row r s ≡ true → r ≡ s
unfolding same_row
same_row_lem r s e =
    let p : r.item ≡ s.item = same_item_lem r.item s.item (and_left _ _ e) in
    let e' = and_right (same_item r.item s.item) _ e in
    let q : r.incarnation ≡ s.incarnation = same_incarnation_lem r.incarnation s.incarnation (and_left _ _ e') in
    let e'' = and_right (same_incarnation r.incarnation s.incarnation) _ e' in
    let t : r.attempt ≡ s.attempt = same_attempt_lem r.attempt s.attempt (and_left _ _ e'') in
    let m : r.marked ≡ s.marked = beq_same r.marked s.marked (and_right (same_attempt r.attempt s.attempt) _ e'') in
    λ k. record { item = p k; incarnation = q k; attempt = t k; marked = m k }
  where
    beq_same : (a b : Bool) → beq a b ≡ true → a ≡ b
    beq_same true true e = refl
    beq_same true false e = absurd (false≢true e)
    beq_same false true e = absurd (false≢true e)
    beq_same false false e = refl

-- ranks: an order in which two items that rank alike have one index
pub rank_self : (i : Item) → ranks_below i i ≡ false
unfolding ranks_below
rank_self i = below_none i.index i.index (omega arith)

-- not below is an order too
pub rank_above_trans : (i j k : Item) → ranks_below j i ≡ false → ranks_below k j ≡ false → ranks_below k i ≡ false
unfolding ranks_below
rank_above_trans i j k p q =
    below_none k.index i.index (omega (arith, not_below j.index i.index p, not_below k.index j.index q))

-- an item ranks below another: then not the other way round
pub rank_one_way : (i j : Item) → ranks_below i j ≡ true → ranks_below j i ≡ false
unfolding ranks_below
rank_one_way i j p = below_none j.index i.index (omega (arith, below_less i.index j.index p))

-- ranks follow the index
pub rank_index : (i j : Item) → ranks_below j i ≡ false → i.index.0 ≤ j.index.0
unfolding ranks_below
rank_index i j p = not_below j.index i.index p

pub index_rank : (i j : Item) → i.index.0 < j.index.0 → ranks_below i j ≡ true
unfolding ranks_below
index_rank i j h = less_below i.index j.index h

-- a counter that is not at its largest rises by one
pub next_index_lem : (i : Index) → index_at_largest i ≡ false → (next_index i).0 ≡ suc i.0
unfolding next_index
next_index_lem i e = rw e

pub next_incarnation_lem : (i : Incarnation) → incarnation_at_largest i ≡ false → (next_incarnation i).0 ≡ suc i.0
unfolding next_incarnation
next_incarnation_lem i e = rw e

pub next_attempt_lem : (a : Attempt) → attempt_at_largest a ≡ false → (next_attempt a).0 ≡ suc a.0
unfolding next_attempt
next_attempt_lem a e = rw e
