-- Delivery of any message to its addressee k is a change that the relation allows: by the kind of the message.
use Prim.Native.Nat.{ℕ, ◌<◌}
use mathlib.Core.Path.{◌≡◌, subst}
use mathlib.Core.Logic.{◌≢◌}
use mathlib.Core.Bool.{false}
use mathlib.Core.List.{List}
use lib.ListN.{length}
use Rattle.item.specs.Maxima.{max_nodes}
use Rattle.item.specs.declared.counters.Incarnation.{Incarnation}
use Rattle.item.specs.declared.Item.{Item}
use Rattle.message.specs.declared.Envelope.{Envelope}
use Rattle.message.specs.declared.Message.{Message}
use Rattle.message.specs.declared.Message.TheVariants as message
use Rattle.returns.specs.View.{View, Sent, Each}
use Rattle.protocol.specs.Deliver.{on_message, deliver_step}
use Rattle.protocol.specs.Answer.{is_refused}
use Rattle.protocol.specs.declared.Node.{Node}
use Rattle.protocol.proofs.Cases.{IfTaken}
use Rattle.protocol.proofs.Confirming.{confirm_tied, confirmed_tied}
use Rattle.protocol.proofs.Fetching.{fetch_tied, table_tied}
use Rattle.protocol.proofs.InView.{InView, Arrived}
use Rattle.protocol.proofs.Seen.{seen_as, note_of, Tied}
use Rattle.protocol.proofs.Sending.{Delivered}
use Rattle.protocol.proofs.Storing.{store_tied, stored_tied}

message_tied : {f n x k : ℕ} {g : View} {node : Node} (m : Message) (v : InView f n x k g node) (s : ℕ) (i : Incarnation) (items : List Item)
    → s < n → s ≢ k → length items ≡ max_nodes → Each (λ p. Sent p g) (seen_as x m s k i items)
    → IfTaken (Delivered f x g k s) (on_message m node s i items)
unfolding on_message
message_tied (message.Store a item) v s i items l d there sent = store_tied v s i a item items d sent
message_tied (message.Stored other a item) v s i items l d there sent = stored_tied v s i other a item items l d sent
message_tied (message.Confirm other a item) v s i items l d there sent = confirm_tied v s i other a item items sent
message_tied (message.Confirmed other a item) v s i items l d there sent = confirmed_tied v s i other a item items l sent
message_tied message.Fetch v s i items l d there sent = fetch_tied v s i items sent
message_tied (message.Table other) v s i items l d there sent = table_tied v s i items there other l sent

pub deliver_tied : {f n x k : ℕ} {g : View} {node : Node} (e : Envelope) (items : List Item) → InView f n x k g node → Arrived n x k g e items
    → is_refused (deliver_step node e items).answer ≡ false
    → Tied f x g (note_of x k (deliver_step node e items).answer) k e.sender (deliver_step node e items)
unfolding deliver_step
deliver_tied {x = x} {g = g} e items v a =
    message_tied e.message v e.sender e.incarnation items a.sender_below a.from_other a.items_length
    (subst (λ (d : ℕ). Each (λ m. Sent m g) (seen_as x e.message e.sender d e.incarnation items)) a.to_k a.was_sent)
