-- The operation that a line asks for, where nodes are held of which the first ones are the group's table.
use Rattle.std.specs.Prelude.{ℕ, List, ◌++◌, take, drop}
use Rattle.operations.specs.Operation.{Result, set_up, perform}
use Rattle.protocol.specs.declared.Node.{Node}
use Rattle.script.specs.declared.Asked.{Asked}
use Rattle.script.specs.declared.Asked.TheVariants.{SetUp, Call}

-- what is asked, over the group's table
unfoldable pub operated : Asked → List Node → List ℕ → Result
operated (SetUp n) table store = set_up n table store
operated (Call n event) table store = perform event table store

-- how many nodes the group has for which it is asked
unfoldable pub asked_size : Asked → ℕ
asked_size (SetUp n) = n
asked_size (Call n event) = n

-- the nodes with the table afterwards in the place of the first n
unfoldable pub put_first : ℕ → List Node → Result → Result
put_first n nodes result = record { answer = result.answer; table = result.table ++ drop n nodes; store = result.store }

-- what is asked, over the first n of the nodes held
unfoldable pub operated_first : Asked → List Node → List ℕ → Result
operated_first asked nodes store = put_first (asked_size asked) nodes (operated asked (take (asked_size asked) nodes) store)
