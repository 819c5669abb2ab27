-- The own item: the own row is set by Write with the next item, and by Retry and the write-back with the same; another's row
-- is not the own one; a Table is merged row by row; a node that went Down or starts has zero rows.
use Prim.Native.Nat.{ℕ, ◌≤◌, ◌<◌}
use native.Mathlib.Omega.{arith}
use mathlib.Core.Path.{◌≡◌, refl, sym, ap, subst, ◌∙◌}
use mathlib.Core.Logic.{◌≢◌}
use mathlib.Core.Bool.{Bool, false, false≢true}
use mathlib.Core.List.{List}
use lib.ListN.{length, get_or}
use Rattle.item.specs.Item.{zero_item, ranks_below, same_item}
use Rattle.item.specs.Row.{zero_row}
use Rattle.item.proofs.Tests.{by_cond}
use Rattle.item.specs.declared.counters.Attempt.{Attempt}
use Rattle.item.specs.declared.counters.Incarnation.{Incarnation}
use Rattle.item.specs.declared.Item.{Item}
use Rattle.item.specs.declared.Row.{Row}
use Rattle.message.specs.declared.Message.{Message}
use Rattle.protocol.specs.Answer.{ok, refused, is_refused}
use Rattle.protocol.specs.Fetching.{with_table, none_counted, stopped, written_back}
use Rattle.protocol.specs.Merge.{merge_row, merge_rows}
use Rattle.protocol.specs.Node.{row_of, own_item, blank_node, crashed, started, storing_begun, with_row, with_rows, with_counted, confirming_begun, write_ended}
use Rattle.protocol.specs.Storing.{send_confirm, store_success}
use Rattle.protocol.specs.Write.{send_store, send_fetch, written, retried}
use Rattle.protocol.specs.declared.Node.{Node}
use Rattle.protocol.specs.declared.Phase.{Phase}
use Rattle.protocol.specs.declared.Refusal.{Refusal}
use Rattle.protocol.specs.declared.Step.{Step}
use Rattle.protocol.proofs.InView.{number_is, size_fits}
use Rattle.protocol.proofs.Rows.{row_kept, begun_own, merged_row_lem, merged_length, zero_row_lem}
use Rattle.laws_node.specs.Decision.{Decision, MayCome}
use Rattle.laws_node.specs.Laws.{OwnItemOnlyWritten}
use Rattle.laws_node.specs.OwnItem.{ByTable, stays, fetched, lost, ItemBy, ItemAfter, OwnItem}
use Rattle.laws_node.proofs.Outcome.{Received, declines, takes, counts_stored, asks, confirms, counts_confirmed, ends, tells, counts_table, stops, writes_back, Outcome, refuses, writes, fetches_again, retries, crashes, starts, receives, outcome}

-- ---- the changes of a node

begun_item : (node : Node) (phase : Phase) (a : Attempt) (item : Item) → node.number < length node.rows
    → own_item (storing_begun node phase a item) ≡ item
unfolding own_item storing_begun
begun_item node phase a item there = begun_own node phase a item node.number refl there

crashed_item : (node : Node) → own_item (crashed node) ≡ zero_item
unfolding own_item crashed blank_node
crashed_item node = zero_row_lem (crashed node) node.number refl

started_item : (node : Node) → own_item (started node) ≡ zero_item
unfolding own_item started
started_item node = zero_row_lem (started node) node.number refl

taken_item : (node : Node) (s : ℕ) (row : Row) → s ≢ node.number → own_item (with_row node s row) ≡ own_item node
unfolding own_item with_row
taken_item node s row d = ap (λ (r : Row). r.item) (row_kept node s row node.number (λ (e : node.number ≡ s). d (sym e)))

-- a merge keeps the row's item or takes the new one
merge_item : (first : Bool) (row : Row) (item : Item) → ByTable item row.item (merge_row first row item).item
unfolding merge_row
merge_item first row item =
    by_cond P first _ _ (λ _. fetched refl)
    (λ _. by_cond P (ranks_below row.item item) _ _ (λ _. fetched refl)
    (λ _. by_cond P (ranks_below item row.item) _ _ (λ _. stays refl)
    (λ _. by_cond P (same_item item row.item) _ _ (λ _. stays refl) (λ _. stays refl))))
  where
    P : Row → Type 0
    P out = ByTable item row.item out.item

table_item : (node : Node) (s : ℕ) (i : Incarnation) (items : List Item) → node.number < length node.rows
    → node.number < length items → ByTable (get_or items node.number zero_item) (own_item node) (own_item (with_table node s i items))
unfolding own_item with_table with_rows with_counted row_of
table_item node s i items there here =
    let e : get_or (merge_rows (none_counted node) node.rows items) node.number zero_row
    ≡ merge_row (none_counted node) (get_or node.rows node.number zero_row) (get_or items node.number zero_item)
    = merged_row_lem (none_counted node) node.rows items node.number there here in
    subst (λ (r : Row). ByTable (get_or items node.number zero_item) (get_or node.rows node.number zero_row).item r.item) (sym e)
    (merge_item (none_counted node) (get_or node.rows node.number zero_row) (get_or items node.number zero_item))

back_item : (node : Node) (s : ℕ) (i : Incarnation) (items : List Item) → node.number < length node.rows
    → own_item (written_back (with_table node s i items)) ≡ own_item (with_table node s i items)
unfolding written_back with_table with_rows with_counted
back_item node s i items there =
    begun_item (with_table node s i items) _ _ (own_item (with_table node s i items))
    (omega (arith, merged_length (none_counted node) node.rows items))

-- ---- the decisions

-- the own item afterwards, unless refused
abbrev Makes : (Item → Item → Type 0) → Node → Step → Type 0
Makes R node step = is_refused step.answer ≡ false → R (own_item node) (own_item step.node)

no_refusal : (R : Item → Item → Type 0) (node : Node) (why : Refusal) → Makes R node (refused node why)
unfolding refused
no_refusal R node why e = absurd (false≢true (sym e))

received_item : (node : Node) (s : ℕ) (i : Incarnation) (items : List Item) (m : Message) (step : Step)
    → node.number < length node.rows → node.number < length items → s ≢ node.number
    → Received node s i items m step → Makes (ItemBy m (get_or items node.number zero_item)) node step
unfolding ok send_confirm send_store store_success stopped with_counted confirming_begun write_ended row_of own_item ItemBy
received_item node s i items m step there here d (declines m' why) = no_refusal (ItemBy m (get_or items node.number zero_item)) node why
received_item node s i items m step there here d (takes a item up) = λ _. taken_item node s _ d
received_item node s i items m step there here d (counts_stored o a item e l) = λ _. refl
received_item node s i items m step there here d (asks o a item e l) = λ _. refl
received_item node s i items m step there here d (confirms o a item) = λ _. refl
received_item node s i items m step there here d (counts_confirmed o a item e h l) = λ _. refl
received_item node s i items m step there here d (ends o a item e) = λ _. refl
received_item node s i items m step there here d (tells e) = λ _. refl
received_item node s i items m step there here d (counts_table o e l) = λ _. table_item node s i items there here
received_item node s i items m step there here d (stops o row) = λ _. lost (crashed_item (with_table node s i items))
received_item node s i items m step there here d (writes_back o e c) =
    λ _. subst (ByTable (get_or items node.number zero_item) (own_item node)) (sym (back_item node s i items there))
    (table_item node s i items there here)

outcome_item : (n k : ℕ) (node : Node) (d : Decision) (step : Step) → node.number ≡ k → n ≤ 15 → length node.rows ≡ 15
    → k < n → MayCome n k d → Outcome node d step → OwnItem d node step
unfolding OwnItem ItemAfter MayCome ok send_fetch send_store written retried
outcome_item n k node d step own fits size below come (refuses d' why) = no_refusal (ItemAfter d node.number) node why
outcome_item n k node d step own fits size below come (writes tag e) = λ _. begun_item node _ _ _ (omega arith)
outcome_item n k node d step own fits size below come fetches_again = λ _. refl
outcome_item n k node d step own fits size below come (retries e f) = λ _. begun_item node _ _ _ (omega arith)
outcome_item n k node d step own fits size below come crashes = λ _. crashed_item node
outcome_item n k node d step own fits size below come (starts e l) = λ _. started_item node
outcome_item n k node d step own fits size below come (receives e items step' r) =
    received_item node e.sender e.incarnation items e.message step (omega arith) (omega (arith, come.items_length))
    (λ (z : e.sender ≡ node.number). come.from_other (z ∙ own)) r

pub own_item_only_written : OwnItemOnlyWritten
unfolding OwnItemOnlyWritten
own_item_only_written n k d node s come =
    outcome_item n k node d _ (number_is n k node s.sound) (size_fits n s.valid) s.rows_length s.below come (outcome node d)
