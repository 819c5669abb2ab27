-- An inbox as the list of its messages, in the order of its chain.
use Rattle.std.specs.Prelude.{ℕ, List, map, Option}
use Rattle.store_laws.specs.Lists.{inbox_list}
use Rattle.item.specs.declared.Item.{Item}
use Rattle.record.specs.Layout.{rows_of}
use Rattle.store.specs.Records.{record_in}
use Rattle.store.specs.Sound.{message_in}
use Rattle.message.specs.declared.Envelope.{Envelope}

-- an entry of an inbox: its record, the message in it, and the rows beside that ("Only Table has rows")
pub record Entry : Type 0 where
  pub at : ℕ
  pub message : Option Envelope
  pub rows : List Item

unfoldable pub entry_in : List (List ℕ) → ℕ → Entry
entry_in rs r = record { at = r; message = message_in rs r; rows = rows_of (record_in rs r) }

-- the entries of some records
unfoldable pub entries_in : List (List ℕ) → List ℕ → List Entry
entries_in rs l = map (entry_in rs) l

-- the inbox of node k
unfoldable pub inbox : List (List ℕ) → ℕ → List Entry
inbox rs k = entries_in rs (inbox_list rs k)
