-- Each decision leaves alone the fields that the table does not give it: by the changes of a node, case by case.
use Prim.Native.Nat.{ℕ}
use mathlib.Core.Path.{◌≡◌, refl, sym, ◌∙◌}
use mathlib.Core.Bool.{true, false, false≢true}
use mathlib.Core.List.{List}
use borrow.Author.Tests.{eqb-false}
use Rattle.item.specs.declared.counters.Attempt.{Attempt}
use Rattle.item.specs.declared.counters.Incarnation.{Incarnation}
use Rattle.item.specs.declared.Item.{Item}
use Rattle.item.specs.declared.Row.{Row}
use Rattle.message.specs.declared.Message.{Message}
use Rattle.message.specs.declared.Message.TheVariants as message
use Rattle.protocol.specs.Answer.{ok, refused}
use Rattle.protocol.specs.Fetching.{with_table, stopped, written_back}
use Rattle.protocol.specs.Node.{row_of, blank_node, crashed, started, storing_begun, with_row, with_rows, with_counted, confirming_begun, write_ended}
use Rattle.protocol.specs.Phase.{is_down, is_fetching, is_storing}
use Rattle.protocol.specs.Storing.{send_confirm, store_success}
use Rattle.protocol.specs.Write.{send_store, send_fetch, written, retried}
use Rattle.protocol.specs.declared.Node.{Node}
use Rattle.protocol.specs.declared.Phase.{Phase}
use Rattle.protocol.specs.declared.Phase.TheVariants.{Down, Fetching, Returning, Up}
use Rattle.protocol.specs.declared.Step.{Step}
use Rattle.protocol.proofs.Rows.{row_kept, begun_other}
use Rattle.laws_node.specs.Decision.{Decision, Retry, Crash, Start}
use Rattle.laws_node.specs.Fields.{Changed, among, changed, changed_by, Leaves}
use Rattle.laws_node.specs.Laws.{OthersLeftAlone}
use Rattle.laws_node.proofs.Outcome.{Received, declines, takes, counts_stored, asks, confirms, counts_confirmed, ends, tells, counts_table, stops, writes_back, Outcome, refuses, writes, fetches_again, retries, crashes, starts, receives, outcome}

-- a field that may change
may : {A : Type 0} → true ≡ false → A
may e = absurd (false≢true (sym e))

never : {A : Type 0} → false ≡ true → A
never e = absurd (false≢true e)

storing_not_fetching : (p : Phase) → is_storing p ≡ true → is_fetching p ≡ false
storing_not_fetching Down e = refl
storing_not_fetching Fetching e = never e
storing_not_fetching (Returning s) e = refl
storing_not_fetching (Up s) e = refl

down_not_fetching : (p : Phase) → is_down p ≡ true → is_fetching p ≡ false
down_not_fetching Down e = refl
down_not_fetching Fetching e = never e
down_not_fetching (Returning s) e = refl
down_not_fetching (Up s) e = refl

module _ (node : Node) where
  kept : (c : Changed) → Leaves c node node
  kept c = record {
    same_number = refl;
    same_size = refl;
    same_incarnation = λ _. refl;
    same_attempt = λ _. refl;
    same_phase = λ _. refl;
    same_row = λ _ _. refl;
    same_counted = λ _. refl;
    same_asked = λ _. refl;
    while_fetching = λ _ _. (refl, refl);
  }

  -- a write begins, of a node that is not Fetching, or ends to be it
  begun : (phase : Phase) (a : Attempt) (item : Item) → (is_fetching node.phase ≡ true → is_fetching phase ≡ true → ⊥)
      → Leaves (changed Retry node.number) node (storing_begun node phase a item)
  unfolding storing_begun changed among
  begun phase a item h = record {
    same_number = refl;
    same_size = refl;
    same_incarnation = λ _. refl;
    same_attempt = may;
    same_phase = may;
    same_row = λ i e. begun_other node phase a item i (eqb-false i node.number e);
    same_counted = may;
    same_asked = may;
    while_fetching = λ f g. absurd (h f g);
  }

  gone_down : Leaves (changed Crash node.number) node (crashed node)
  unfolding crashed blank_node changed among
  gone_down = record {
    same_number = refl;
    same_size = refl;
    same_incarnation = λ _. refl;
    same_attempt = may;
    same_phase = may;
    same_row = λ _ e. may e;
    same_counted = may;
    same_asked = may;
    while_fetching = λ f g. never g;
  }

  begun_again : is_down node.phase ≡ true → Leaves (changed Start node.number) node (started node)
  unfolding started changed among
  begun_again d = record {
    same_number = refl;
    same_size = refl;
    same_incarnation = may;
    same_attempt = may;
    same_phase = may;
    same_row = λ _ e. may e;
    same_counted = may;
    same_asked = may;
    while_fetching = λ f g. never (sym (down_not_fetching node.phase d) ∙ f);
  }

  -- Store: one row
  taken : (s : ℕ) (row : Row) (a : Attempt) (item : Item) → Leaves (changed_by (message.Store a item) s) node (with_row node s row)
  unfolding with_row changed_by among
  taken s row a item = record {
    same_number = refl;
    same_size = refl;
    same_incarnation = λ _. refl;
    same_attempt = λ _. refl;
    same_phase = λ _. refl;
    same_row = λ i e. row_kept node s row i (eqb-false i s e);
    same_counted = λ _. refl;
    same_asked = λ _. refl;
    while_fetching = λ _ _. (refl, refl);
  }

-- Stored and Confirmed: the phase and the peers; rows are not touched
counted : (node after : Node) (s : ℕ) (o : Incarnation) (a : Attempt) (item : Item) → after.number ≡ node.number → after.n ≡ node.n
    → after.incarnation ≡ node.incarnation → after.attempt ≡ node.attempt → ((i : ℕ) → row_of after i ≡ row_of node i)
    → (is_fetching node.phase ≡ true → is_fetching after.phase ≡ true → after.asked ≡ node.asked)
    → Leaves (changed_by (message.Stored o a item) s) node after
unfolding changed_by
counted node after s o a item number size incarnation attempt rows h = record {
  same_number = number;
  same_size = size;
  same_incarnation = λ _. incarnation;
  same_attempt = λ _. attempt;
  same_phase = may;
  same_row = λ i _. rows i;
  same_counted = may;
  same_asked = may;
  while_fetching = λ f g. (attempt, h f g);
}

-- Table: all but the incarnation; and only what leaves Fetching changes the attempt
tabled : (node after : Node) (s : ℕ) (o : Incarnation) → after.number ≡ node.number → after.n ≡ node.n
    → after.incarnation ≡ node.incarnation
    → (is_fetching after.phase ≡ true → (after.attempt ≡ node.attempt) × (after.asked ≡ node.asked))
    → Leaves (changed_by (message.Table o) s) node after
unfolding changed_by among
tabled node after s o number size incarnation h = record {
  same_number = number;
  same_size = size;
  same_incarnation = λ _. incarnation;
  same_attempt = may;
  same_phase = may;
  same_row = λ _ e. may e;
  same_counted = may;
  same_asked = may;
  while_fetching = λ f g. h g;
}

received_leaves : (node : Node) (s : ℕ) (i : Incarnation) (items : List Item) (m : Message) (step : Step)
    → Received node s i items m step → Leaves (changed_by m s) node step.node
unfolding refused ok send_confirm send_store store_success stopped written_back storing_begun crashed blank_node with_table with_counted with_rows confirming_begun write_ended changed_by row_of
received_leaves node s i items m step (declines m' why) = kept node _
received_leaves node s i items m step (takes a item up) = taken node s _ a item
received_leaves node s i items m step (counts_stored o a item e l) = counted node _ s o a item refl refl refl refl (λ _. refl) (λ _ _. refl)
received_leaves node s i items m step (asks o a item e l) = counted node _ s o a item refl refl refl refl (λ _. refl) (λ f g. never (sym (storing_not_fetching node.phase e) ∙ f))
received_leaves node s i items m step (confirms o a item) = kept node _
received_leaves node s i items m step (counts_confirmed o a item e h l) = counted node _ s o a item refl refl refl refl (λ _. refl) (λ _ _. refl)
received_leaves node s i items m step (ends o a item e) = counted node _ s o a item refl refl refl refl (λ _. refl) (λ f g. never g)
received_leaves node s i items m step (tells e) = kept node _
received_leaves node s i items m step (counts_table o e l) = tabled node _ s o refl refl refl (λ _. (refl, refl))
received_leaves node s i items m step (stops o row) = tabled node _ s o refl refl refl (λ g. never g)
received_leaves node s i items m step (writes_back o e c) = tabled node _ s o refl refl refl (λ g. never g)

leaves : (node : Node) (d : Decision) (step : Step) → Outcome node d step → Leaves (changed d node.number) node step.node
unfolding refused ok send_fetch send_store written retried changed
leaves node d step (refuses d' why) = kept node _
leaves node d step (writes tag e) = begun node _ _ _ (λ f g. false≢true g)
leaves node d step fetches_again = kept node _
leaves node d step (retries e f) = begun node _ _ _ (λ g _. false≢true (sym f ∙ g))
leaves node d step crashes = gone_down node
leaves node d step (starts e l) = begun_again node e
leaves node d step (receives e items step' r) = received_leaves node e.sender e.incarnation items e.message step r

pub others_left_alone : OthersLeftAlone
unfolding OthersLeftAlone
others_left_alone d node = leaves node d _ (outcome node d)
