-- A node's fields, and every kind of change of a node, each by one definition. A change names only the fields that it
-- changes; the others stay.
use Rattle.std.specs.Prelude.{ℕ, suc, ◌/◌, Bool, true, false, List, map, ltb, get_or, set, replicate, count_by, cond, Option, Some, None}
use Rattle.item.specs.Maxima.{max_nodes}
use Rattle.item.specs.Counter.{next_incarnation, same_incarnation}
use Rattle.item.specs.Row.{zero_row}
use Rattle.item.specs.declared.counters.Attempt.{Attempt}
use Rattle.item.specs.declared.counters.Incarnation.{Incarnation}
use Rattle.item.specs.declared.Item.{Item}
use Rattle.item.specs.declared.Row.{Row}
use Rattle.protocol.specs.declared.Node.{Node}
use Rattle.protocol.specs.declared.Peer.{Peer}
use Rattle.protocol.specs.declared.Phase.{Phase}
use Rattle.protocol.specs.declared.Phase.TheVariants.{Down, Fetching, Up}
use Rattle.protocol.specs.declared.Stage.TheVariants.{Idle}

-- a peer that is neither counted nor asked
abbrev pub no_peer : Peer
no_peer = record { present = false; incarnation = record { 0 = 0 } }

-- a peer that is, under this incarnation
abbrev pub peer_under : Incarnation → Peer
peer_under incarnation = record { present = true; incarnation = incarnation }

-- nobody is counted, or asked
abbrev pub no_peers : List Peer
no_peers = replicate max_nodes no_peer

abbrev pub zero_rows : List Row
zero_rows = replicate max_nodes zero_row

-- "n = 2f+1": f
unfoldable pub half : ℕ → ℕ
half n = n / 2

-- the row of node i ("15 rows, one for each node number")
unfoldable pub row_of : Node → ℕ → Row
row_of node i = get_or node.rows i zero_row

-- the item in a node's own row
unfoldable pub own_item : Node → Item
own_item node = (row_of node node.number).item

-- "each with an item and the writer's incarnation and attempt that last stored it"
abbrev pub stored_row : Item → Incarnation → Attempt → Row
stored_row item incarnation attempt =
    record { item = item; incarnation = incarnation; attempt = attempt; marked = false }

-- "(0, 0 if set up or rebuilt)"
abbrev pub rebuilt_row : Item → Row
rebuilt_row item = stored_row item (record { 0 = 0 }) (record { 0 = 0 })

-- the incarnation under which a peer is counted, or asked, if it is
abbrev pub incarnation_if_present : Peer → Option Incarnation
incarnation_if_present peer = cond peer.present (Some peer.incarnation) None

-- and that of peer i
unfoldable pub peer_of : List Peer → ℕ → Option Incarnation
peer_of peers i = incarnation_if_present (get_or peers i no_peer)

-- how many are counted, or asked
unfoldable pub count_peers : List Peer → ℕ
count_peers peers = count_by (λ peer. peer.present) peers

-- fewer than f are counted: not yet "At f counted", "At f"
abbrev pub below_half : Node → Bool
below_half node = ltb (count_peers node.counted) (half node.n)

-- f or fewer are counted: not yet "At f+1"
abbrev pub at_most_half : Node → Bool
at_most_half node = ltb (count_peers node.counted) (suc (half node.n))

-- "other incarnation .. its own"
abbrev pub own_incarnation : Node → Incarnation → Bool
own_incarnation node other = same_incarnation other node.incarnation

-- Crash, and "stopped": "Down; only number, n and incarnation remain"
unfoldable pub blank_node : ℕ → ℕ → Incarnation → Node
blank_node number n incarnation =
    record {
      number = number;
      n = n;
      incarnation = incarnation;
      attempt = record { 0 = 0 };
      phase = Down;
      rows = zero_rows;
      counted = no_peers;
      asked = no_peers;
    }

unfoldable pub crashed : Node → Node
crashed node = blank_node node.number node.n node.incarnation

-- Start: "incarnation rises, Fetching"
unfoldable pub started : Node → Node
started node =
    record node {
      incarnation = next_incarnation node.incarnation;
      attempt = record { 0 = 0 };
      phase = Fetching;
      rows = zero_rows;
      counted = no_peers;
      asked = no_peers;
    }

-- a write begins or begins again: "the own row takes the item with these counters, nothing is counted, Storing begins"
unfoldable pub storing_begun : Node → Phase → Attempt → Item → Node
storing_begun node phase attempt item =
    record node {
      attempt = attempt;
      phase = phase;
      rows = set node.rows node.number (stored_row item node.incarnation attempt);
      counted = no_peers;
      asked = no_peers;
    }

-- "the row takes it": one row is replaced
unfoldable pub with_row : Node → ℕ → Row → Node
with_row node i row = record node { rows = set node.rows i row }

-- peer i is counted, under this incarnation
unfoldable pub with_counted : Node → ℕ → Incarnation → Node
with_counted node i incarnation = record node { counted = set node.counted i (peer_under incarnation) }

-- "At f counted: Confirming": those counted are asked, and none is counted
unfoldable pub confirming_begun : Node → Phase → Node
confirming_begun node phase = record node { phase = phase; counted = no_peers; asked = node.counted }

-- "At f: Idle": the write is settled, and a node that was Returning is Up
unfoldable pub write_ended : Node → Node
write_ended node = record node { phase = Up Idle; counted = no_peers; asked = no_peers }

-- a table is counted: every row is replaced
unfoldable pub with_rows : Node → List Row → Node
with_rows node rows = record node { rows = rows }

-- Set up: "all nodes Up and Idle, incarnation 1, attempt 0, rows zero"
unfoldable pub fresh_node : ℕ → ℕ → Node
fresh_node number n = write_ended (blank_node number n (record { 0 = 1 }))

-- the items of a node's rows: "Table with all rows"
unfoldable pub row_items : Node → List Item
row_items node = map (λ row. row.item) node.rows
