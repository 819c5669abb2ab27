-- Which refusals each decision of a node makes: every test of it is followed once.
use Prim.Native.Nat.{ℕ}
use mathlib.Core.Path.{◌≡◌, refl, sym, ap, subst, ◌∙◌}
use mathlib.Core.Bool.{Bool, true, false, cond, ◌&&◌, false≢true}
use mathlib.Core.List.Memᴰ
use mathlib.Core.List.{List, [], ◌∷◌, Memᴰ}
use lib.Dec.{eqb}
use borrow.Author.Tests.{eqb-true}
use Rattle.item.specs.Counter.{attempt_at_largest, incarnation_at_largest, earlier}
use Rattle.item.specs.Item.{ranks_below, same_item}
use Rattle.item.proofs.Tests.{by_cond, and_left, and_right}
use Rattle.item.specs.declared.counters.Attempt.{Attempt}
use Rattle.item.specs.declared.counters.Incarnation.{Incarnation}
use Rattle.item.specs.declared.Item.{Item}
use Rattle.item.specs.declared.Row.{Row}
use Rattle.item.specs.declared.Tag.{Tag}
use Rattle.message.specs.declared.Message.{Message}
use Rattle.message.specs.declared.Message.TheVariants as message
use Rattle.protocol.specs.Answer.{ok, refused, refusal_number, is_refused}
use Rattle.protocol.specs.Deliver.{on_message}
use Rattle.protocol.specs.Fetching.{on_fetch, on_table, table_counted, with_table, node_recover, recovered, stopped, written_back}
use Rattle.protocol.specs.Merge.{lowest_marked}
use Rattle.protocol.specs.Node.{row_of, with_counted, crashed, started, below_half, at_most_half, own_incarnation}
use Rattle.protocol.specs.Phase.{is_down, is_up, is_up_idle, is_fetching, is_storing, is_confirming, is_returning}
use Rattle.protocol.specs.Storing.{store_verdict, reply_store, on_store, own_write, is_counted, send_confirm, stored_counted, on_stored, stored_under, on_confirm, asked_under, end_answer, store_success, confirmed_counted, on_confirmed}
use Rattle.protocol.specs.Write.{send_store, send_fetch, written, write_at_largest, write_step, retried, nothing_to_retry, retry_step, crash_step, start_step}
use Rattle.protocol.specs.declared.Answer.TheVariants as answer
use Rattle.protocol.specs.declared.Node.{Node}
use Rattle.protocol.specs.declared.Refusal.{Refusal}
use Rattle.protocol.specs.declared.Refusal.TheVariants.{WrongStage, AtLargest, NotTaken, Stale, Counted, LowerRank, OtherTag}
use Rattle.protocol.specs.declared.Sends.{Sends}
use Rattle.protocol.specs.declared.Step.{Step}
use Rattle.std.specs.Prelude.{Option, Some, None, Result}

-- ---- numbers of a list, found by a test

abbrev pub holds : ℕ → List ℕ → Bool
holds k [] = false
holds k (m ∷ l) = cond (eqb k m) true (holds k l)

pub found : (numbers : List ℕ) (k : ℕ) → holds k numbers ≡ true → Memᴰ k numbers
found [] k e = absurd (false≢true e)
found (m ∷ l) k e = go (eqb k m) refl e (λ z. found l k z)
  where
    go : (t : Bool) → eqb k m ≡ t → cond t true (holds k l) ≡ true → (holds k l ≡ true → Memᴰ k l) → Memᴰ k (m ∷ l)
    go true z h r = Memᴰ.head (eqb-true k m z)
    go false z h r = Memᴰ.tail (r h)

-- ---- decisions

-- a decision refuses only by a number of the list
abbrev pub RefusesBy : List ℕ → Step → Type 0
RefusesBy numbers step = (why : Refusal) → step.answer ≡ answer.Refused why → Memᴰ (refusal_number why) numbers

pub by_refusal : (numbers : List ℕ) (node : Node) (why : Refusal) → Memᴰ (refusal_number why) numbers → RefusesBy numbers (refused node why)
unfolding refused
by_refusal numbers node why h why' e = let d : why ≡ why' = cc in subst (λ (w : Refusal). Memᴰ (refusal_number w) numbers) d h

pub by_none : (numbers : List ℕ) (step : Step) → is_refused step.answer ≡ false → RefusesBy numbers step
unfolding is_refused
by_none numbers step h why e = absurd (false≢true (sym h ∙ ap is_refused e))

pub by_ok : (numbers : List ℕ) (node : Node) (s : Sends) → RefusesBy numbers (ok node s)
unfolding ok is_refused
by_ok numbers node s = by_none numbers (ok node s) refl

abbrev pub of_node : List ℕ
of_node = 5 ∷ 6 ∷ []

module _ (node : Node) where
  pub write_refuses : (tag : Tag) → RefusesBy of_node (write_step node tag)
  unfolding write_step send_store refusal_number
  write_refuses tag =
      by_cond (RefusesBy of_node) (is_up_idle node.phase) _ _
      (λ _. by_cond (RefusesBy of_node) (write_at_largest node) _ _
      (λ _. by_refusal of_node node AtLargest (found _ _ refl))
      (λ _. by_ok of_node (written node tag) _))
      (λ _. by_refusal of_node node WrongStage (found _ _ refl))

  pub retry_refuses : RefusesBy of_node (retry_step node)
  unfolding retry_step send_store send_fetch refusal_number
  retry_refuses =
      by_cond (RefusesBy of_node) (nothing_to_retry node) _ _
      (λ _. by_refusal of_node node WrongStage (found _ _ refl))
      (λ _. by_cond (RefusesBy of_node) (is_fetching node.phase) _ _
      (λ _. by_ok of_node node _)
      (λ _. by_cond (RefusesBy of_node) (attempt_at_largest node.attempt) _ _
      (λ _. by_refusal of_node node AtLargest (found _ _ refl))
      (λ _. by_ok of_node (retried node) _)))

  pub start_refuses : RefusesBy of_node (start_step node)
  unfolding start_step send_fetch refusal_number
  start_refuses =
      by_cond (RefusesBy of_node) (is_down node.phase) _ _
      (λ _. by_cond (RefusesBy of_node) (incarnation_at_largest node.incarnation) _ _
      (λ _. by_refusal of_node node AtLargest (found _ _ refl))
      (λ _. by_ok of_node (started node) _))
      (λ _. by_refusal of_node node WrongStage (found _ _ refl))

  pub crash_refuses : RefusesBy (5 ∷ []) (crash_step node)
  unfolding crash_step refusal_number
  crash_refuses =
      by_cond (RefusesBy (5 ∷ [])) (is_down node.phase) _ _
      (λ _. by_refusal (5 ∷ []) node WrongStage (found _ _ refl))
      (λ _. by_ok (5 ∷ []) (crashed node) _)

abbrev pub of_message : List ℕ
of_message = 9 ∷ 10 ∷ 11 ∷ 12 ∷ 13 ∷ []

module _ (node : Node) (sender : ℕ) (incarnation : Incarnation) where
  reply_refuses : (row : Row) (attempt : Attempt) (item : Item)
      → RefusesBy of_message (reply_store (store_verdict row incarnation attempt item) node sender incarnation attempt item)
  unfolding store_verdict reply_store refusal_number
  reply_refuses row attempt item =
      by_cond Replies (ranks_below item row.item) _ _
      (λ _. by_refusal of_message node LowerRank (found _ _ refl))
      (λ _. by_cond Replies (ranks_below row.item item) _ _ (λ _. by_ok of_message _ _)
      (λ _. by_cond Replies (same_item item row.item) _ _
      (λ _. by_cond Replies (earlier incarnation attempt row.incarnation row.attempt) _ _
      (λ _. by_refusal of_message node Stale (found _ _ refl))
      (λ _. by_ok of_message _ _))
      (λ _. by_refusal of_message node OtherTag (found _ _ refl))))
    where
      Replies : Result (Unit {0}) Refusal → Type 0
      Replies v = RefusesBy of_message (reply_store v node sender incarnation attempt item)

  -- a message that the node's stage takes and that is of its present write or return, from a sender not counted yet
  counted_refuses : (takes fits : Bool) (step : Step) → RefusesBy of_message step
      → RefusesBy of_message (cond takes (cond fits (cond (is_counted node sender) (refused node Counted) step) (refused node Stale)) (refused node NotTaken))
  unfolding refusal_number
  counted_refuses takes fits step h =
      by_cond (RefusesBy of_message) takes _ _
      (λ _. by_cond (RefusesBy of_message) fits _ _
      (λ _. by_cond (RefusesBy of_message) (is_counted node sender) _ _ (λ _. by_refusal of_message node Counted (found _ _ refl)) (λ _. h))
      (λ _. by_refusal of_message node Stale (found _ _ refl)))
      (λ _. by_refusal of_message node NotTaken (found _ _ refl))

stored_refuses : (node : Node) → RefusesBy of_message (stored_counted node)
unfolding stored_counted send_confirm
stored_refuses node =
    by_cond (RefusesBy of_message) (below_half node) _ _
    (λ _. by_ok of_message node _) (λ _. by_ok of_message _ _)

confirmed_refuses : (node : Node) → RefusesBy of_message (confirmed_counted node)
unfolding confirmed_counted store_success end_answer is_refused
confirmed_refuses node =
    by_cond (RefusesBy of_message) (below_half node) _ _
    (λ _. by_ok of_message node _)
    (λ _. by_none of_message (store_success node)
    (by_cond (λ a. is_refused a ≡ false) (is_returning node.phase) (answer.Accepted _) (answer.Settled _) (λ _. refl) (λ _. refl)))

table_refuses : (node : Node) → RefusesBy of_message (table_counted node)
unfolding table_counted node_recover recovered stopped send_store is_refused
table_refuses node =
    by_cond (RefusesBy of_message) (at_most_half node) _ _
    (λ _. by_ok of_message node _)
    (λ _. by_recovery (lowest_marked node.rows))
  where
    by_recovery : (r : Option ℕ) → RefusesBy of_message (recovered r node)
    by_recovery None = by_ok of_message (written_back node) _
    by_recovery (Some row) = by_none of_message (stopped node row) refl

pub on_message_refuses : (m : Message) (node : Node) (sender : ℕ) (i : Incarnation) (items : List Item) → RefusesBy of_message (on_message m node sender i items)
unfolding on_message on_store on_stored on_confirm on_confirmed on_fetch on_table refusal_number
on_message_refuses (message.Store a k) node sender i items =
    by_cond (RefusesBy of_message) (is_up node.phase) _ _
    (λ _. reply_refuses node sender i (row_of node sender) a k)
    (λ _. by_refusal of_message node NotTaken (found _ _ refl))
on_message_refuses (message.Stored o a k) node sender i items =
    counted_refuses node sender i (is_storing node.phase) (own_write node o a k) _ (stored_refuses (with_counted node sender i))
on_message_refuses (message.Confirm o a k) node sender i items =
    by_cond (RefusesBy of_message) (is_up node.phase) _ _
    (λ _. by_cond (RefusesBy of_message) (own_incarnation node o && stored_under (row_of node sender) i a k) _ _
    (λ _. by_ok of_message node _)
    (λ _. by_refusal of_message node Stale (found _ _ refl)))
    (λ _. by_refusal of_message node NotTaken (found _ _ refl))
on_message_refuses (message.Confirmed o a k) node sender i items =
    counted_refuses node sender i (is_confirming node.phase) (own_write node o a k && asked_under node sender i) _
    (confirmed_refuses (with_counted node sender i))
on_message_refuses message.Fetch node sender i items =
    by_cond (RefusesBy of_message) (is_up node.phase) _ _
    (λ _. by_ok of_message node _)
    (λ _. by_refusal of_message node NotTaken (found _ _ refl))
on_message_refuses (message.Table o) node sender i items =
    counted_refuses node sender i (is_fetching node.phase) (own_incarnation node o) _
    (table_refuses (with_table node sender i items))

-- ---- a list within another, by a test of each number

abbrev pub within : List ℕ → List ℕ → Bool
within [] long = true
within (k ∷ l) long = holds k long && within l long

pub widen : (short long : List ℕ) → within short long ≡ true → (k : ℕ) → Memᴰ k short → Memᴰ k long
widen [] long e k m = absurd (Memᴰ.not-nil m)
widen (s ∷ l) long e k (Memᴰ.head p) = Memᴰ.cast p (found long s (and_left (holds s long) (within l long) e))
widen (s ∷ l) long e k (Memᴰ.tail m) = widen l long (and_right (holds s long) (within l long) e) k m

pub wider : (short long : List ℕ) → within short long ≡ true → (step : Step) → RefusesBy short step → RefusesBy long step
wider short long e step h why z = widen short long e (refusal_number why) (h why z)
