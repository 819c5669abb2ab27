-- The lettered examples of document 01 ("Checked examples"), in one list: what the definitions give and what document 01
-- states. Numbers of nodes, records, tags and refusals are document 01's own.
use Rattle.std.specs.Prelude.{ℕ, ◌≡◌, true, List, [], ◌∷◌, length, drop}
use Rattle.item.specs.declared.Item.{Item}
use Rattle.message.specs.declared.Envelope.{Envelope}
use Rattle.message.specs.declared.Message.{Message}
use Rattle.message.specs.declared.Message.TheVariants.{Store, Table}
use Rattle.store.specs.Records.{record_count, right_length, joined}
use Rattle.store.specs.Change.{put_in, empty_records}
use Rattle.protocol.specs.Table.{fresh_table}
use Rattle.protocol.specs.declared.Event.{Event}
use Rattle.protocol.specs.declared.Node.{Node}
use Rattle.examples.specs.Said.{Said, ok, stops_at, gives, answers, drill, w, c, s, d}

pub data Letter : Type 0 where
  A : Letter
  B : Letter
  C : Letter
  D : Letter
  E : Letter
  F : Letter
  G : Letter
  H : Letter
  I : Letter
  J : Letter

-- an example: its letter, what is said to its calls, and what document 01 states
pub record Example : Type 0 where
  pub letter : Letter
  pub given : List Said
  pub stated : List Said

abbrev example : Letter → List Said → List Said → Example
example letter given stated = record { letter = letter; given = given; stated = stated }

-- ---- messages that no drill of a few lines brings about

abbrev pub item : ℕ → ℕ → Item
item index tag = record { index = record { 0 = index }; tag = record { 0 = tag } }

-- a message to node 0 of the sender's first incarnation, and its rows
pub record Sent : Type 0 where
  pub envelope : Envelope
  pub rows : List Item

abbrev sent : ℕ → Message → List Item → Sent
sent sender message rows =
    record {
      envelope = record { sender = sender; addressee = 0; incarnation = record { 0 = 1 }; message = message };
      rows = rows;
    }

-- a Store under attempt 1
abbrev pub store : ℕ → Item → Sent
store sender stored = sent sender (Store (record { 0 = 1 }) stored) []

-- a Table that has this item for node 0, asked for in node 0's second incarnation
abbrev pub table : ℕ → Item → Sent
table sender top = sent sender (Table (record { 0 = 2 })) (top ∷ [])

-- the records after `n 3` where two messages have been put: they are records 1 and 2
unfoldable pub holding : Sent → Sent → List (List ℕ)
holding first second =
    put_in (put_in (empty_records record_count 3) first.envelope first.rows) second.envelope second.rows

-- what is said to some events in a group of three, Up and Idle, whose store holds two messages
unfoldable pub told : Sent → Sent → List Event → List Said
told first second events = answers (fresh_table 3) (joined (holding first second)) events

-- ---- the list, for tables of n nodes, one for each n, and a store

unfoldable pub lettered : (ℕ → List Node) → List ℕ → List Example
lettered nodes bytes =
    -- "A: n 3 is ok."
    example A (drill 3 (nodes 3) bytes []) (ok ∷ []) ∷
    -- "B: n 4 gives 1."
    example B (drill 4 (nodes 4) bytes []) (gives 1 ∷ []) ∷
    -- "C: n 15 ok; n 17 gives 1."
    example C (drill 15 (nodes 15) bytes []) (ok ∷ []) ∷
    example C (drill 17 (nodes 17) bytes []) (gives 1 ∷ []) ∷
    -- "D: store one byte short gives 2."
    example D (drill 3 (nodes 3) (drop 1 bytes) []) (gives 2 ∷ []) ∷
    -- "E: after n 3, d 1 gives 8."
    example E (drill 3 (nodes 3) bytes (d 1 ∷ [])) (ok ∷ gives 8 ∷ []) ∷
    -- "F: w 0 65 twice: the second gives 5."
    example F (drill 3 (nodes 3) bytes (w 0 65 ∷ w 0 65 ∷ [])) (ok ∷ ok ∷ gives 5 ∷ []) ∷
    -- "G: s 0 while Up gives 5."
    example G (drill 3 (nodes 3) bytes (s 0 ∷ [])) (ok ∷ gives 5 ∷ []) ∷
    -- "H: after the drill's line 4, d 3 gives 9." The lines up to it: n 3 / w 0 65 / d 1 / d 3.
    example H (drill 3 (nodes 3) bytes (w 0 65 ∷ d 1 ∷ d 3 ∷ d 3 ∷ [])) (ok ∷ ok ∷ ok ∷ ok ∷ gives 9 ∷ []) ∷
    -- "I: Store of index 1, tag 65, at a row of index 1, tag 66, gives 13." The first Store fills the row.
    example I (told (store 1 (item 1 66)) (store 1 (item 1 65)) (d 1 ∷ d 2 ∷ [])) (ok ∷ gives 13 ∷ []) ∷
    -- "J: tables with items (7, 1) and (7, 2) at the top stop; (7, 1) and (6, 2) do not." Two tables are f+1 of three nodes.
    example J (told (table 1 (item 7 1)) (table 2 (item 7 2)) (c 0 ∷ s 0 ∷ d 1 ∷ d 2 ∷ []))
    (ok ∷ ok ∷ ok ∷ stops_at 0 ∷ []) ∷
    example J (told (table 1 (item 7 1)) (table 2 (item 6 2)) (c 0 ∷ s 0 ∷ d 1 ∷ d 2 ∷ [])) (ok ∷ ok ∷ ok ∷ ok ∷ []) ∷
    []

-- each of the list
unfoldable pub AllHold : List Example → Type 0
AllHold [] = Unit {0}
AllHold (e ∷ es) = (e.given ≡ e.stated) × AllHold es

-- whatever nodes the tables have and whatever bytes the store: only that they are as many as document 01 says
unfoldable pub LetteredExamples : Type 0
LetteredExamples =
    (nodes : ℕ → List Node) (bytes : List ℕ) → ((n : ℕ) → length (nodes n) ≡ n) → right_length bytes ≡ true →
    AllHold (lettered nodes bytes)
