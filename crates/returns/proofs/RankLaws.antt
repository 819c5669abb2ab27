-- Laws of items that are above another or cover it. Of how items rank only this module knows more than the laws of crate
-- `item` say: that an item which ranks higher has a higher index (`rank_higher`). All other modules use what is below.
use Prim.Native.Nat.{◌≤◌, ◌<◌}
use mathlib.Core.Path.{◌≡◌, refl, sym, ◌∙◌}
use mathlib.Core.Logic.{◌⊎◌, inl, inr}
use mathlib.Core.Bool.{Bool, true, false, false≢true}
use Rattle.item.specs.declared.Item.{Item}
use Rattle.item.specs.Item.{ranks_below}
use Rattle.item.proofs.Laws.{below_less, rank_self, rank_above_trans, rank_one_way, rank_index, index_rank}
use Rattle.returns.specs.Rank.{Above, Covers}

rank_higher : (i j : Item) → ranks_below i j ≡ true → i.index.0 < j.index.0
unfolding ranks_below
rank_higher i j e = below_less i.index j.index e

pub above_refl : (s : Item) → Above s s
above_refl s = record { level = rank_self s; tie = λ e. refl }

pub above_trans : (s x y : Item) → Above s x → Above x y → Above s y
above_trans s x y h k = record {
  level = rank_above_trans s x y h.level k.level;
  tie = λ e. k.tie (rank_above_trans y s x e h.level) ∙ h.tie (rank_above_trans x y s k.level e);
}

pub above_ranks : (s x : Item) → ranks_below s x ≡ true → Above s x
above_ranks s x h = record { level = rank_one_way s x h; tie = λ e. absurd (false≢true (sym e ∙ h)) }

pub above_higher : (s x : Item) → s.index.0 < x.index.0 → Above s x
above_higher s x l = above_ranks s x (index_rank s x l)

pub above_index : (s x : Item) → Above s x → s.index.0 ≤ x.index.0
above_index s x h = rank_index s x h.level

-- an item above s is s, or has a higher index
pub above_cases : (s x : Item) → Above s x → (x ≡ s) ⊎ (s.index.0 < x.index.0)
above_cases s x h = go (ranks_below s x) refl
  where
    go : (t : Bool) → ranks_below s x ≡ t → (x ≡ s) ⊎ (s.index.0 < x.index.0)
    go true e = inr (rank_higher s x e)
    go false e = inl (h.tie e)

pub covers_above : (s x : Item) (marked : Bool) → Above s x → Covers s x marked
covers_above s x marked h = record { level = h.level; tie = λ m. h.tie }

pub above_covers : (s x : Item) → Covers s x false → Above s x
above_covers s x h = record { level = h.level; tie = h.tie refl }

-- whatever ranks above an item that covers s is above s
pub covers_ranks : (s x y : Item) (marked : Bool) → Covers s x marked → ranks_below x y ≡ true → Above s y
covers_ranks s x y marked h k = record {
  level = rank_above_trans s x y h.level (rank_one_way x y k);
  tie = λ e. absurd (false≢true (sym (rank_above_trans y s x e h.level) ∙ k));
}
