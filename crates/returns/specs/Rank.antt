-- How items compare: "above" (the same item, or one that ranks higher), and what a row still says of an item when two tags
-- may have come at its index.
use Rattle.std.specs.Prelude.{◌≡◌, Bool, false}
use Rattle.item.specs.declared.Item.{Item}
use Rattle.item.specs.Item.{ranks_below}

-- x is s, or ranks above it
pub record Above (s x : Item) : Type 0 where
  pub level : ranks_below x s ≡ false
  pub tie : ranks_below s x ≡ false → x ≡ s

-- What the greatest item x of the tables counted so far says of s: x ranks no lower, and if it ranks alike, then it is s,
-- unless the row is marked (its greatest index has come with two tags).
pub record Covers (s x : Item) (marked : Bool) : Type 0 where
  pub level : ranks_below x s ≡ false
  pub tie : marked ≡ false → ranks_below s x ≡ false → x ≡ s
