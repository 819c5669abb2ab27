-- Four ways to merge that have the properties of `Merged`; together they are the merge of document 01.
use Prim.Native.Nat.{ℕ}
use mathlib.Core.Path.{◌≡◌, refl, sym, ◌∙◌}
use mathlib.Core.Logic.{inl, inr}
use mathlib.Core.Bool.{Bool, true, false, false≢true}
use Rattle.item.specs.declared.Item.{Item}
use Rattle.item.specs.Item.{ranks_below}
use Rattle.item.proofs.Laws.{rank_above_trans}
use Rattle.returns.specs.View.{ViewNode}
use Rattle.returns.specs.Merge.{Merged}
use Rattle.returns.proofs.RankLaws.{covers_above, covers_ranks}

-- the first table is taken whole
pub merged_first : (v : ViewNode) (r : Item) (marked : Bool) → ((q : ℕ) → v.counted q ≡ false) → Merged v r r marked
merged_first v r marked none = record {
  from = inr refl;
  kept = λ q c. absurd (false≢true (sym (none q) ∙ c));
  taken = λ s h. covers_above s r marked h;
}

-- an item that ranks above the row's replaces it
pub merged_higher : (v : ViewNode) (r : Item) (marked : Bool) → ranks_below v.item r ≡ true → Merged v r r marked
merged_higher v r marked e = record {
  from = inr refl;
  kept = λ q c s h. covers_above s r marked (covers_ranks s v.item r v.marked h e);
  taken = λ s h. covers_above s r marked h;
}

-- an item that ranks below the row's changes nothing
pub merged_lower : (v : ViewNode) (r : Item) → ranks_below r v.item ≡ true → Merged v r v.item v.marked
merged_lower v r e = record {
  from = inl refl;
  kept = λ q c s h. h;
  taken = λ s h. covers_above s v.item v.marked (covers_ranks s r v.item false (covers_above s r false h) e);
}

-- an item that ranks as the row's does leaves the row's; the row stays unmarked only if it was so and the items are the same
pub merged_level : (v : ViewNode) (r : Item) (marked : Bool) → ranks_below v.item r ≡ false → ranks_below r v.item ≡ false
    → (marked ≡ false → v.marked ≡ false) → (marked ≡ false → r ≡ v.item) → Merged v r v.item marked
merged_level v r marked e e' unmarked alike = record {
  from = inl refl;
  kept = λ q c s h. record { level = h.level; tie = λ m. h.tie (unmarked m) };
  taken = λ s h. record {
    level = rank_above_trans s r v.item h.level e;
    tie = λ m d. sym (alike m) ∙ h.tie (rank_above_trans r v.item s e d);
  };
}
