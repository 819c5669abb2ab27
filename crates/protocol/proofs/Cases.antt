-- The cases of each decision: what holds of every refusal, and of what the definition gives where its tests pass, holds of
-- the decision. By the named tests alone; no other proof opens a decision.
use Prim.Native.Nat.{ℕ}
use mathlib.Core.Path.{◌≡◌, refl, sym, ap, ◌∙◌}
use mathlib.Core.Bool.{true, false, ◌&&◌, false≢true}
use mathlib.Core.List.{List}
use Rattle.item.specs.Counter.{earlier, incarnation_at_largest, attempt_at_largest}
use Rattle.item.specs.Item.{ranks_below, same_item}
use Rattle.item.proofs.Tests.{by_cond}
use Rattle.item.specs.declared.counters.Attempt.{Attempt}
use Rattle.item.specs.declared.counters.Incarnation.{Incarnation}
use Rattle.item.specs.declared.Item.{Item}
use Rattle.item.specs.declared.Tag.{Tag}
use Rattle.message.specs.declared.Message.TheVariants as message
use Rattle.protocol.specs.Answer.{ok, refused, is_refused}
use Rattle.protocol.specs.Fetching.{answers_fetch, on_fetch, with_table, has_conflict, stopped, written_back, recovered, node_recover, table_counted, on_table}
use Rattle.protocol.specs.Merge.{lowest_marked}
use Rattle.std.specs.Prelude.{Option, Some, None, is_some}
use Rattle.protocol.specs.Node.{row_of, stored_row, crashed, started, with_row, with_counted, confirming_begun, below_half, at_most_half, own_incarnation}
use Rattle.protocol.specs.Phase.{is_down, is_fetching, is_up, is_up_idle, is_storing, is_confirming, at_stage}
use Rattle.protocol.specs.Storing.{store_verdict, reply_store, on_store, own_write, is_counted, send_confirm, stored_counted, on_stored, stored_under, on_confirm, asked_under, store_success, confirmed_counted, on_confirmed}
use Rattle.protocol.specs.Write.{send_store, send_fetch, write_at_largest, written, write_step, retried, nothing_to_retry, retry_step, crash_step, start_step}
use Rattle.protocol.specs.declared.Node.{Node}
use Rattle.protocol.specs.declared.Refusal.{Refusal}
use Rattle.protocol.specs.declared.Refusal.TheVariants.{WrongStage, AtLargest, NotTaken, Stale, Counted, LowerRank, OtherTag}
use Rattle.protocol.specs.declared.Sends.TheVariants as sends
use Rattle.protocol.specs.declared.Stage.TheVariants.{Confirming}
use Rattle.protocol.specs.declared.Step.{Step}

-- P holds of a decision unless it is refused
abbrev pub IfTaken : (Step → Type 0) → Step → Type 0
IfTaken P step = is_refused step.answer ≡ false → P step

pub refusal_not_taken : (P : Step → Type 0) (node : Node) (why : Refusal) → IfTaken P (refused node why)
unfolding refused is_refused
refusal_not_taken P node why e = absurd (false≢true (sym e))

-- with the (f + 1)-th table the node stops or writes back
pub recover_cases : (P : Step → Type 0) (counted : Node) → ((row : ℕ) → has_conflict counted ≡ true → P (stopped counted row))
    → (has_conflict counted ≡ false → P (send_store (written_back counted))) → P (node_recover counted)
unfolding node_recover recovered has_conflict
recover_cases P counted conflict last = go (lowest_marked counted.rows) refl
  where
    go : (r : Option ℕ) → lowest_marked counted.rows ≡ r → P (recovered r counted)
    go None e = last (ap (λ (r : Option ℕ). is_some r) e)
    go (Some row) e = conflict row (ap (λ (r : Option ℕ). is_some r) e)

-- the four calls at a node
module _ (P : Step → Type 0) (node : Node) (refusal : (why : Refusal) → P (refused node why)) where
  pub write_cases : (tag : Tag) → (is_up_idle node.phase ≡ true → write_at_largest node ≡ false → P (send_store (written node tag)))
      → P (write_step node tag)
  unfolding write_step
  write_cases tag h = by_cond P (is_up_idle node.phase) _ _
      (λ e. by_cond P (write_at_largest node) _ _ (λ l. refusal AtLargest) (λ l. h e l))
      (λ e. refusal WrongStage)

  pub retry_cases : (is_fetching node.phase ≡ true → P (send_fetch node))
      → (nothing_to_retry node ≡ false → is_fetching node.phase ≡ false → attempt_at_largest node.attempt ≡ false → P (send_store (retried node)))
      → P (retry_step node)
  unfolding retry_step
  retry_cases again h = by_cond P (nothing_to_retry node) _ _ (λ e. refusal WrongStage)
      (λ e. by_cond P (is_fetching node.phase) _ _ (λ d. again d)
      (λ d. by_cond P (attempt_at_largest node.attempt) _ _ (λ l. refusal AtLargest) (λ l. h e d l)))

  pub crash_cases : P (ok (crashed node) sends.Nothing) → P (crash_step node)
  unfolding crash_step
  crash_cases h = by_cond P (is_down node.phase) _ _ (λ e. refusal WrongStage) (λ e. h)

  pub start_cases : (is_down node.phase ≡ true → incarnation_at_largest node.incarnation ≡ false → P (send_fetch (started node))) → P (start_step node)
  unfolding start_step
  start_cases h = by_cond P (is_down node.phase) _ _
      (λ e. by_cond P (incarnation_at_largest node.incarnation) _ _ (λ l. refusal AtLargest) (λ l. h e l))
      (λ e. refusal WrongStage)

  -- Store: the row takes an item that ranks above its own, or its own
  pub store_cases : (sender : ℕ) (incarnation : Incarnation) (attempt : Attempt) (item : Item)
      → (is_up node.phase ≡ true → ranks_below item (row_of node sender).item ≡ false
      → (ranks_below (row_of node sender).item item ≡ false → same_item item (row_of node sender).item ≡ true)
      → P (ok (with_row node sender (stored_row item incarnation attempt)) (sends.Back (message.Stored incarnation attempt item))))
      → P (on_store node sender incarnation attempt item)
  unfolding on_store store_verdict reply_store
  store_cases sender incarnation attempt item h = by_cond P (is_up node.phase) _ _
      (λ e. by_cond (λ v. P (reply_store v node sender incarnation attempt item)) (ranks_below item (row_of node sender).item) _ _
      (λ lower. refusal LowerRank)
      (λ lower. by_cond (λ v. P (reply_store v node sender incarnation attempt item)) (ranks_below (row_of node sender).item item) _ _
      (λ higher. h e lower (λ z. absurd (false≢true (sym z ∙ higher))))
      (λ higher. by_cond (λ v. P (reply_store v node sender incarnation attempt item)) (same_item item (row_of node sender).item) _ _
      (λ alike. by_cond (λ v. P (reply_store v node sender incarnation attempt item))
      (earlier incarnation attempt (row_of node sender).incarnation (row_of node sender).attempt) _ _
      (λ early. refusal Stale) (λ early. h e lower (λ z. alike)))
      (λ alike. refusal OtherTag))))
      (λ e. refusal NotTaken)

  -- Stored: counted, and with the f-th the node is Confirming
  pub stored_cases : (sender : ℕ) (incarnation other : Incarnation) (attempt : Attempt) (item : Item)
      → let counted = with_counted node sender incarnation in
      (is_storing node.phase ≡ true → own_write node other attempt item ≡ true → below_half counted ≡ true → P (ok counted sends.Nothing))
      → (is_storing node.phase ≡ true → own_write node other attempt item ≡ true → below_half counted ≡ false
      → P (send_confirm (confirming_begun counted (at_stage counted.phase Confirming))))
      → P (on_stored node sender incarnation other attempt item)
  unfolding on_stored stored_counted
  stored_cases sender incarnation other attempt item h last = by_cond P (is_storing node.phase) _ _
      (λ e. by_cond P (own_write node other attempt item) _ _
      (λ own. by_cond P (is_counted node sender) _ _ (λ c. refusal Counted)
      (λ c. by_cond P (below_half (with_counted node sender incarnation)) _ _
      (λ few. h e own few) (λ few. last e own few)))
      (λ own. refusal Stale))
      (λ e. refusal NotTaken)

  pub confirm_cases : (sender : ℕ) (incarnation other : Incarnation) (attempt : Attempt) (item : Item)
      → (P (ok node (sends.Back (message.Confirmed incarnation attempt item)))) → P (on_confirm node sender incarnation other attempt item)
  unfolding on_confirm
  confirm_cases sender incarnation other attempt item h = by_cond P (is_up node.phase) _ _
      (λ e. by_cond P (own_incarnation node other && stored_under (row_of node sender) incarnation attempt item) _ _
      (λ fit. h) (λ fit. refusal Stale))
      (λ e. refusal NotTaken)

  -- Confirmed: counted, and with the f-th the write is finished
  pub confirmed_cases : (sender : ℕ) (incarnation other : Incarnation) (attempt : Attempt) (item : Item)
      → let counted = with_counted node sender incarnation in
      (is_confirming node.phase ≡ true → (own_write node other attempt item && asked_under node sender incarnation) ≡ true
      → below_half counted ≡ true → P (ok counted sends.Nothing))
      → (is_confirming node.phase ≡ true → (own_write node other attempt item && asked_under node sender incarnation) ≡ true
      → below_half counted ≡ false → P (store_success counted))
      → P (on_confirmed node sender incarnation other attempt item)
  unfolding on_confirmed confirmed_counted
  confirmed_cases sender incarnation other attempt item h last = by_cond P (is_confirming node.phase) _ _
      (λ e. by_cond P (own_write node other attempt item && asked_under node sender incarnation) _ _
      (λ own. by_cond P (is_counted node sender) _ _ (λ c. refusal Counted)
      (λ c. by_cond P (below_half (with_counted node sender incarnation)) _ _
      (λ few. h e own few) (λ few. last e own few)))
      (λ own. refusal Stale))
      (λ e. refusal NotTaken)

  pub fetch_cases : (incarnation : Incarnation) → (is_up node.phase ≡ true → P (ok node (sends.Back (message.Table incarnation))))
      → P (on_fetch node incarnation)
  unfolding on_fetch
  fetch_cases incarnation h = by_cond P (answers_fetch node) _ _ h (λ e. refusal NotTaken)

  -- Table: counted, and with the (f + 1)-th the node stops or writes back
  pub table_cases : (sender : ℕ) (incarnation other : Incarnation) (items : List Item)
      → let counted = with_table node sender incarnation items in
      (is_fetching node.phase ≡ true → own_incarnation node other ≡ true → at_most_half counted ≡ true → P (ok counted sends.Nothing))
      → ((row : ℕ) → P (stopped counted row))
      → (is_fetching node.phase ≡ true → own_incarnation node other ≡ true
      → at_most_half counted ≡ false → has_conflict counted ≡ false → P (send_store (written_back counted)))
      → P (on_table node sender incarnation other items)
  unfolding on_table table_counted
  table_cases sender incarnation other items h conflict last = by_cond P (is_fetching node.phase) _ _
      (λ e. by_cond P (own_incarnation node other) _ _
      (λ own. by_cond P (is_counted node sender) _ _ (λ c. refusal Counted)
      (λ c. by_cond P (at_most_half (with_table node sender incarnation items)) _ _
      (λ few. h e own few)
      (λ few. recover_cases P (with_table node sender incarnation items) (λ row _. conflict row) (last e own few))))
      (λ own. refusal Stale))
      (λ e. refusal NotTaken)
