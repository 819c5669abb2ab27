-- A refused decision gives back the node and sends nothing: so does every refusal, and nothing else answers one.
use Prim.Native.Nat.{ℕ}
use mathlib.Core.Path.{◌≡◌, refl, sym, ap, ◌∙◌}
use mathlib.Core.Bool.{false, false≢true}
use mathlib.Core.List.{List}
use Rattle.item.proofs.Tests.{by_cond}
use Rattle.item.specs.declared.counters.Incarnation.{Incarnation}
use Rattle.item.specs.declared.Item.{Item}
use Rattle.message.specs.declared.Message.{Message}
use Rattle.protocol.specs.Answer.{ok, refused, is_refused}
use Rattle.protocol.specs.Fetching.{stopped}
use Rattle.protocol.specs.Phase.{is_returning}
use Rattle.protocol.specs.Storing.{send_confirm, store_success, end_answer}
use Rattle.protocol.specs.Write.{send_store, send_fetch}
use Rattle.protocol.specs.declared.Answer.TheVariants as answer
use Rattle.protocol.specs.declared.Node.{Node}
use Rattle.protocol.specs.declared.Refusal.{Refusal}
use Rattle.protocol.specs.declared.Sends.{Sends}
use Rattle.protocol.specs.declared.Step.{Step}
use Rattle.laws_node.specs.Decision.{Decision}
use Rattle.laws_node.specs.Laws.{GivesBack, RefusedGivesBack}
use Rattle.laws_node.proofs.Outcome.{Received, declines, takes, counts_stored, asks, confirms, counts_confirmed, ends, tells, counts_table, stops, writes_back, Outcome, refuses, writes, fetches_again, retries, crashes, starts, receives, outcome}

by_refused : (node : Node) (why : Refusal) → GivesBack node (refused node why)
unfolding refused
by_refused node why why' e = (refl, refl)

-- what is not refused answers no refusal
by_answer : (node : Node) (step : Step) → is_refused step.answer ≡ false → GivesBack node step
by_answer node step h why e = absurd (false≢true (sym h ∙ ap is_refused e))

by_ok : (node node' : Node) (out : Sends) → GivesBack node (ok node' out)
unfolding ok
by_ok node node' out = by_answer node (ok node' out) refl

by_end : (node node' : Node) → GivesBack node (store_success node')
unfolding store_success end_answer
by_end node node' = by_answer node (store_success node')
    (by_cond (λ a. is_refused a ≡ false) (is_returning node'.phase) (answer.Accepted _) (answer.Settled _) (λ _. refl) (λ _. refl))

by_stop : (node node' : Node) (row : ℕ) → GivesBack node (stopped node' row)
unfolding stopped
by_stop node node' row = by_answer node (stopped node' row) refl

received_gives_back : (node : Node) (s : ℕ) (i : Incarnation) (items : List Item) (m : Message) (step : Step)
    → Received node s i items m step → GivesBack node step
unfolding send_confirm send_store
received_gives_back node s i items m step (declines m' why) = by_refused node why
received_gives_back node s i items m step (takes a item up) = by_ok node _ _
received_gives_back node s i items m step (counts_stored o a item e l) = by_ok node _ _
received_gives_back node s i items m step (asks o a item e l) = by_ok node _ _
received_gives_back node s i items m step (confirms o a item) = by_ok node _ _
received_gives_back node s i items m step (counts_confirmed o a item e h l) = by_ok node _ _
received_gives_back node s i items m step (ends o a item e) = by_end node _
received_gives_back node s i items m step (tells e) = by_ok node _ _
received_gives_back node s i items m step (counts_table o e l) = by_ok node _ _
received_gives_back node s i items m step (stops o row) = by_stop node _ row
received_gives_back node s i items m step (writes_back o e c) = by_ok node _ _

gives_back : (node : Node) (d : Decision) (step : Step) → Outcome node d step → GivesBack node step
unfolding send_fetch send_store
gives_back node d step (refuses d' why) = by_refused node why
gives_back node d step (writes tag e) = by_ok node _ _
gives_back node d step fetches_again = by_ok node _ _
gives_back node d step (retries e f) = by_ok node _ _
gives_back node d step crashes = by_ok node _ _
gives_back node d step (starts e l) = by_ok node _ _
gives_back node d step (receives e items step' r) = received_gives_back node e.sender e.incarnation items e.message step r

pub refused_gives_back : RefusedGivesBack
unfolding RefusedGivesBack
refused_gives_back d node = gives_back node d _ (outcome node d)
