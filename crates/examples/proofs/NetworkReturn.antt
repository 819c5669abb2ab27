-- The drill's calls are a run of the network. The networks after calls 5, 9, 11 and 15 are written out, and what the calls
-- between them do is computed.
use Prim.Native.Nat.{ℕ}
use mathlib.Core.Path.{refl}
use mathlib.Core.List.{List, [], ◌∷◌, Memᴰ}
use lib.Dec.{lit<}
use lib.ListN.{set, replicate, drop}
use Rattle.item.specs.Item.{zero_item}
use Rattle.item.specs.Maxima.{max_nodes}
use Rattle.item.specs.Row.{zero_row}
use Rattle.item.specs.declared.Item.{Item}
use Rattle.item.specs.declared.Row.{Row}
use Rattle.message.specs.declared.Message.{Message}
use Rattle.message.specs.declared.Message.TheVariants.{Store, Stored, Confirm, Confirmed, Fetch, Table}
use Rattle.examples.specs.NetworkReturn.{item, incarnation, attempt, drill_calls, ReturnReached}
use Rattle.protocol.specs.Network.{Packet, Network, writes, crashes, starts, delivers, acts, Run, end, then, fresh_network}
use Rattle.protocol.specs.Node.{no_peers, zero_rows, stored_row}
use Rattle.protocol.specs.declared.Node.{Node}
use Rattle.protocol.specs.declared.Phase.{Phase}
use Rattle.protocol.specs.declared.Phase.TheVariants.{Fetching, Returning, Up}
use Rattle.protocol.specs.declared.Stage.TheVariants.{Idle, Storing}
use Rattle.examples.proofs.Opened.{calling, storing, confirming, fetching, sending}

-- ---- nodes and packets

-- node k in incarnation i and attempt a: all rows but that of node 0 are zero, and no peer is counted or asked
abbrev node : (k i a : ℕ) → Phase → Row → Node
node k i a phase row =
    record {
      number = k;
      n = 3;
      incarnation = incarnation i;
      attempt = attempt a;
      phase = phase;
      rows = set zero_rows 0 row;
      counted = no_peers;
      asked = no_peers;
    }

-- the same, as node 1 and node 2 are at each of these points
abbrev other : ℕ → Row → Node
other k row = node k 1 0 (Up Idle) row

-- the row that node 0 stored in its incarnation i
abbrev stored : ℕ → Row
stored i = stored_row item (incarnation i) (attempt 1)

-- what a packet has as rows: zero items, or the item as node 0's
abbrev zero_items : List Item
zero_items = replicate max_nodes zero_item

abbrev item_row : List Item
item_row = set zero_items 0 item

abbrev packet : (sender addressee i : ℕ) → Message → List Item → Packet
packet sender addressee i m rows =
    record {
      envelope = record { sender = sender; addressee = addressee; incarnation = incarnation i; message = m };
      rows = rows;
    }

-- ---- the networks

-- node 0's item is settled with node 1
unfoldable settled : Network
settled =
    record {
      nodes = node 0 1 1 (Up Idle) (stored 1) ∷ other 1 (stored 1) ∷ other 2 zero_row ∷ [];
      sent =
          packet 1 0 1 (Confirmed (incarnation 1) (attempt 1) item) zero_items ∷
          packet 0 1 1 (Confirm (incarnation 1) (attempt 1) item) zero_items ∷
          packet 1 0 1 (Stored (incarnation 1) (attempt 1) item) zero_items ∷
          packet 0 1 1 (Store (attempt 1) item) zero_items ∷
          packet 0 2 1 (Store (attempt 1) item) zero_items ∷
          [];
    }

-- node 0 has crashed and started, and both peers have sent their tables
unfoldable tables_sent : Network
tables_sent =
    record {
      nodes = node 0 2 0 Fetching zero_row ∷ other 1 (stored 1) ∷ other 2 zero_row ∷ [];
      sent =
          packet 2 0 1 (Table (incarnation 2)) zero_items ∷
          packet 1 0 1 (Table (incarnation 2)) item_row ∷
          packet 0 1 2 Fetch zero_items ∷
          packet 0 2 2 Fetch zero_items ∷
          settled.sent;
    }

-- both tables are counted, and the write-back has begun
unfoldable returning : Network
returning =
    record {
      nodes = node 0 2 1 (Returning Storing) (stored 2) ∷ other 1 (stored 1) ∷ other 2 zero_row ∷ [];
      sent = packet 0 1 2 (Store (attempt 1) item) zero_items ∷ packet 0 2 2 (Store (attempt 1) item) zero_items ∷ tables_sent.sent;
    }

-- node 0 has returned
unfoldable returned : Network
returned =
    record {
      nodes = node 0 2 1 (Up Idle) (stored 2) ∷ other 1 (stored 2) ∷ other 2 zero_row ∷ [];
      sent =
          packet 1 0 1 (Confirmed (incarnation 2) (attempt 1) item) zero_items ∷
          packet 0 1 2 (Confirm (incarnation 1) (attempt 1) item) zero_items ∷
          packet 1 0 1 (Stored (incarnation 2) (attempt 1) item) zero_items ∷
          returning.sent;
    }

-- ---- the calls between them

-- from this network on, the calls after the first k are a run
abbrev After : ℕ → Network → Type 0
After k net = Run net (drop k drill_calls) returned

-- the message sent last
latest : {p : Packet} {sent : List Packet} → Memᴰ p (p ∷ sent)
latest = Memᴰ.head refl

settles : After 5 settled → After 0 (fresh_network 3)
unfolding settled drill_calls calling storing confirming sending
settles rest =
    then (acts (writes 0 item.tag (lit< tt)) refl)
    (then (acts (delivers 1 _ latest) refl)
    (then (acts (delivers 3 _ latest) refl)
    (then (acts (delivers 4 _ latest) refl)
    (then (acts (delivers 5 _ latest) refl) rest))))

fetches : After 9 tables_sent → After 5 settled
unfolding settled tables_sent drill_calls calling fetching sending
fetches rest =
    then (acts (crashes 0 (lit< tt)) refl)
    (then (acts (starts 0 (lit< tt)) refl)
    (then (acts (delivers 6 _ latest) refl)
    (then (acts (delivers 7 _ (Memᴰ.tail (Memᴰ.tail latest))) refl) rest)))

rebuilds : After 11 returning → After 9 tables_sent
unfolding tables_sent returning drill_calls fetching sending
rebuilds rest =
    then (acts (delivers 8 _ (Memᴰ.tail latest)) refl)
    (then (acts (delivers 9 _ latest) refl) rest)

writes_back_lem : After 11 returning
unfolding returning returned drill_calls storing confirming sending
writes_back_lem =
    then (acts (delivers 10 _ latest) refl)
    (then (acts (delivers 12 _ latest) refl)
    (then (acts (delivers 13 _ latest) refl)
    (then (acts (delivers 14 _ latest) refl) (end {net = returned}))))

pub return_reached : ReturnReached
unfolding ReturnReached
return_reached = (returned, settles (fetches (rebuilds writes_back_lem)))
