-- "Runs and returns" for one node, as a statement on what the calls of a run tell of it, one note for each call: its last
-- item, the items it has begun, and what it may return with. No group and no message is named here.
use Rattle.std.specs.Prelude.{suc, ◌≡◌, ◌⊎◌}
use mathlib.Core.List.{List, [], ◌∷◌, Memᴰ}
use Rattle.item.specs.declared.Item.{Item}
use Rattle.item.specs.declared.Tag.{Tag}
use Rattle.item.specs.Item.{zero_item, item_above}

-- What a call tells of the node: a Write answered "ok" begins an item with the call's tag, "settled" and "accepted" name an
-- item, and everything else, calls at other nodes and refusals included, is quiet.
pub data Note : Type 0 where
  quiet : Note
  begins : Tag → Note
  settles returns : Item → Note

pub record History : Type 0 where
  -- "a node's last item is the one in its latest such answer before that point"
  pub last : Item
  -- the items that the node has begun; "neither Crash nor Start takes away what was begun"
  pub begun : List Item

-- ".. or index 0, tag 0 if it has had none"
abbrev pub at_set_up : History
at_set_up = record { last = zero_item; begun = [] }

-- "A Write answered "ok" begins the item that has the call's tag and the index one above that of the node's last item"
abbrev pub after_note : History → Note → History
after_note h quiet = h
after_note h (begins t) = record { last = h.last; begun = item_above h.last t ∷ h.begun }
after_note h (settles i) = record { last = i; begun = h.begun }
after_note h (returns i) = record { last = i; begun = h.begun }

-- "the item named is then its last item just before that call, or an item of the index one above, begun by that node
-- earlier in the list"
abbrev pub May : History → Note → Type 0
May h quiet = Unit {0}
May h (begins t) = Unit {0}
May h (settles i) = Unit {0}
May h (returns i) = (i ≡ h.last) ⊎ ((i.index.0 ≡ suc h.last.index.0) × Memᴰ i h.begun)

-- the claim on the notes of a whole list of calls
abbrev pub Kept : History → List Note → Type 0
Kept h [] = Unit {0}
Kept h (n ∷ l) = May h n × Kept (after_note h n) l
