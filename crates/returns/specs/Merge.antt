-- How a Fetching node takes one more table into row x, asked by its properties: the theory never sees the text of the merge.
use Rattle.std.specs.Prelude.{ℕ, ◌≡◌, ◌⊎◌, Bool, true}
use Rattle.item.specs.declared.Item.{Item}
use Rattle.returns.specs.Rank.{Above, Covers}
use Rattle.returns.specs.View.{ViewNode}

-- v counts a table whose row x is r; its own row x becomes `item`, marked or not
pub record Merged (v : ViewNode) (r item : Item) (marked : Bool) : Type 0 where
  pub from : (item ≡ v.item) ⊎ (item ≡ r)
  -- unless this is the first table, what was covered stays covered
  pub kept : (q : ℕ) → v.counted q ≡ true → (s : Item) → Covers s v.item v.marked → Covers s item marked
  pub taken : (s : Item) → Above s r → Covers s item marked
