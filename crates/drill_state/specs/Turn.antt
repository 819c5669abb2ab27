-- What a line does (document 01, Drill program). A drill holds fifteen nodes, of which the first n are the table of its
-- group of n, and a store; n is 0 while no group stands.
use Rattle.std.specs.Prelude.{ℕ, cond, List, ◌++◌, eqb, take, drop, replicate, Option, Some, None}
use Rattle.item.specs.Maxima.{max_nodes}
use Rattle.operations.specs.Operation.{Result, set_up, perform}
use Rattle.protocol.specs.Answer.{is_refused}
use Rattle.protocol.specs.Table.{no_node}
use Rattle.protocol.specs.declared.Answer.{Answer}
use Rattle.protocol.specs.declared.Event.{Event}
use Rattle.script.specs.declared.Line.{Line}
use Rattle.script.specs.declared.Line.TheVariants.{SetUp, Call}
use Rattle.drill_state.specs.declared.Drill.{Drill}
use Rattle.drill_state.specs.declared.Turn.{Turn}

-- as the drill begins: no group
unfoldable pub no_group : Drill
no_group = record { n = 0; nodes = replicate max_nodes no_node }

-- what a line prints after its count, the drill afterwards, and the store afterwards
pub record Done : Type 0 where
  pub turn : Turn
  pub store : List ℕ

-- the line prints `unread`, and changes nothing
unfoldable pub unread : Drill → List ℕ → Done
unread drill store = record { turn = record { reply = None; drill = drill }; store = store }

-- the line prints what an operation over the first k nodes answers, and a group of n stands afterwards
unfoldable pub answered : ℕ → ℕ → Drill → Result → Done
answered n k drill result =
    record {
      turn = record {
        reply = Some result.answer;
        drill = record { n = n; nodes = result.table ++ drop k drill.nodes };
      };
      store = result.store;
    }

-- "A later accepted `n` starts afresh"; a refused one changes nothing
abbrev pub size_after : ℕ → ℕ → Answer → ℕ
size_after n before answer = cond (is_refused answer) before n

unfoldable pub begun : ℕ → Drill → Result → Done
begun n drill result = answered (size_after n drill.n result.answer) n drill result

-- an event of the group that stands
unfoldable pub called : Event → Drill → List ℕ → Done
called event drill store = answered drill.n drill.n drill (perform event (take drill.n drill.nodes) store)

-- "any line but `n` before the first accepted `n`" is unread
unfoldable pub line_for : ℕ → Option Line → Option Line
line_for n (Some (SetUp k)) = Some (SetUp k)
line_for n (Some (Call event)) = cond (eqb n 0) None (Some (Call event))
line_for n None = None

-- "Any other line prints `unread` after its count"
unfoldable pub read_done : Option Line → Drill → List ℕ → Done
read_done (Some (SetUp n)) drill store = begun n drill (set_up n (take n drill.nodes) store)
read_done (Some (Call event)) drill store = called event drill store
read_done None drill store = unread drill store

unfoldable pub line_done : Option Line → Drill → List ℕ → Done
line_done line drill store = read_done (line_for drill.n line) drill store
