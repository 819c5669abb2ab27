-- The six kinds of message (document 01: "1 Store, 2 Stored, 3 Confirm, 4 Confirmed, 5 Fetch, 6 Table") and which fields
-- of a record each uses: "'Other' is .. in Store and Fetch 0"; "Fetch and Table have attempt, index and tag 0".
use Rattle.std.specs.Prelude.{ℕ, Bool, ◌&&◌, cond, eqb, None, Option, Some}
use Rattle.item.specs.Counter.{same_incarnation, same_attempt}
use Rattle.item.specs.Item.{zero_item, same_item}
use Rattle.item.specs.declared.counters.Incarnation.{Incarnation}
use Rattle.item.specs.declared.counters.Attempt.{Attempt}
use Rattle.item.specs.declared.Item.{Item}
use Rattle.message.specs.declared.Message.{Message}
use Rattle.message.specs.declared.Message.TheVariants.{Store, Stored, Confirm, Confirmed, Fetch, Table}
use Rattle.message.specs.declared.Envelope.{Envelope}
unfoldable pub use Rattle.message.specs.Rows.{rows_held}
use Rattle.record.specs.declared.kinds.Fields.{Fields}

abbrev pub store_kind : ℕ
store_kind = 1

abbrev pub stored_kind : ℕ
stored_kind = 2

abbrev pub confirm_kind : ℕ
confirm_kind = 3

abbrev pub confirmed_kind : ℕ
confirmed_kind = 4

abbrev pub fetch_kind : ℕ
fetch_kind = 5

abbrev pub table_kind : ℕ
table_kind = 6

unfoldable pub kind_of : Message → ℕ
kind_of (Store attempt item) = store_kind
kind_of (Stored other attempt item) = stored_kind
kind_of (Confirm other attempt item) = confirm_kind
kind_of (Confirmed other attempt item) = confirmed_kind
kind_of Fetch = fetch_kind
kind_of (Table other) = table_kind

abbrev pub no_incarnation : Incarnation
no_incarnation = record { 0 = 0 }

abbrev pub no_attempt : Attempt
no_attempt = record { 0 = 0 }

-- what a message has in the fields that not every kind uses; 0 where its kind does not
unfoldable pub other_of : Message → Incarnation
other_of (Store attempt item) = no_incarnation
other_of (Stored other attempt item) = other
other_of (Confirm other attempt item) = other
other_of (Confirmed other attempt item) = other
other_of Fetch = no_incarnation
other_of (Table other) = other

unfoldable pub attempt_of : Message → Attempt
attempt_of (Store attempt item) = attempt
attempt_of (Stored other attempt item) = attempt
attempt_of (Confirm other attempt item) = attempt
attempt_of (Confirmed other attempt item) = attempt
attempt_of Fetch = no_attempt
attempt_of (Table other) = no_attempt

unfoldable pub item_of : Message → Item
item_of (Store attempt item) = item
item_of (Stored other attempt item) = item
item_of (Confirm other attempt item) = item
item_of (Confirmed other attempt item) = item
item_of Fetch = zero_item
item_of (Table other) = zero_item

-- every number of a record but next and the rows, with these where kinds differ
abbrev pub filled : Envelope → ℕ → Incarnation → Attempt → Item → Fields
filled e kind other attempt item =
    record {
      kind = kind;
      sender = e.sender;
      addressee = e.addressee;
      incarnation = e.incarnation;
      other = other;
      attempt = attempt;
      item = item;
    }

unfoldable pub fields_of : Envelope → Fields
fields_of e = filled e (kind_of e.message) (other_of e.message) (attempt_of e.message) (item_of e.message)

-- neither attempt nor item
unfoldable pub no_write : Attempt → Item → Bool
no_write attempt item = same_attempt attempt no_attempt && same_item item zero_item

abbrev pub known_if : Bool → Message → Option Message
known_if t m = cond t (Some m) None

-- the message that fields say. "Unused bytes are zero, and a read that finds otherwise gives a fault"; kind 0 and a kind
-- above 6 are no message either.
unfoldable pub message_of : Fields → Option Message
message_of f =
    cond (eqb f.kind store_kind) (known_if (same_incarnation f.other no_incarnation) (Store f.attempt f.item))
    (cond (eqb f.kind stored_kind) (Some (Stored f.other f.attempt f.item))
    (cond (eqb f.kind confirm_kind) (Some (Confirm f.other f.attempt f.item))
    (cond (eqb f.kind confirmed_kind) (Some (Confirmed f.other f.attempt f.item))
    (cond (eqb f.kind fetch_kind) (known_if (same_incarnation f.other no_incarnation && no_write f.attempt f.item) Fetch)
    (cond (eqb f.kind table_kind) (known_if (no_write f.attempt f.item) (Table f.other))
    None)))))
