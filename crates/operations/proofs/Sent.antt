-- Every message that a decision sends, with the rows beside it, fits its record, if the node's numbers fit.
use Prim.Native.Nat.{ℕ, zero, suc, ◌<◌, ◌≤◌}
use native.Mathlib.Omega.{arith}
use mathlib.Core.Path.{◌≡◌, subst}
use mathlib.Core.Bool.{Bool, true, false, cond}
use mathlib.Core.List.{List, [], ◌∷◌, Memᴰ}
use lib.ListN.{get_or, take, get_or-map}
use Rattle.item.specs.Item.{zero_item}
use Rattle.item.specs.Maxima.{max_nodes}
use Rattle.item.specs.Row.{zero_row}
use Rattle.item.specs.declared.Item.{Item}
use Rattle.item.specs.declared.counters.Incarnation.{Incarnation}
use Rattle.item.specs.declared.Row.{Row}
use Rattle.message.specs.declared.Envelope.{Envelope}
use Rattle.message.specs.declared.Message.{Message}
use Rattle.message.specs.declared.Message.TheVariants as message
use Rattle.std.specs.Prelude.{Some, None}
use Rattle.record.specs.Kind.{fields_of, rows_held, other_of, attempt_of, item_of}
use Rattle.record.specs.Layout.{padded}
use Rattle.message.specs.Rows.{held_rows}
use Rattle.record.specs.RoundTrip.{ItemFits, RowsFit, FieldsFit, Fits}
use Rattle.protocol.specs.Node.{no_peer, incarnation_if_present, peer_of, row_of, row_items}
use Rattle.protocol.specs.Outgoing.{envelope_to, outgoing}
use Rattle.protocol.proofs.Sending.{each_nothing, each_other, each_back, each_asked}
use Rattle.protocol.specs.declared.Node.{Node}
use Rattle.protocol.specs.declared.Peer.{Peer}
use Rattle.protocol.specs.declared.Sends.{Sends}
use Rattle.protocol.specs.declared.Sends.TheVariants as sends
use Rattle.operations.specs.Fits.{CounterFits, PeerFits, NodeFits}
use Rattle.operations.proofs.Fitting.{MessageFits, SendsFit, zero_fits}

-- ---- every envelope that is sent fits its record

-- the incarnation under which a peer is asked
asked_fits : (p : Peer) (o : Incarnation) → incarnation_if_present p ≡ Some o → PeerFits p → CounterFits o.0
asked_fits p o e fits = go p.present e
  where
    go : (t : Bool) → cond t (Some p.incarnation) None ≡ Some o → CounterFits o.0
    go true e = let same : p.incarnation ≡ o = cc in subst (λ (j : Incarnation). CounterFits j.0) same fits
    go false e = let clash : ⊥ = cc in absurd clash

module _ (node : Node) (back : ℕ) (N : NodeFits node) (number_below : node.number < 16) (size_fits : node.n ≤ 16) where
  to_fits : (k : ℕ) (m : Message) → k < node.n → MessageFits m → Fits (envelope_to node k m)
  unfolding Fits FieldsFit fields_of
  to_fits k m b M = (number_below, omega arith, N.incarnation_fits, M.other_fits, M.attempt_fits, M.item_fits)

  pub outgoing_fits : (s : Sends) → SendsFit s → (e : Envelope) → Memᴰ (Some e) (outgoing node s back) → Fits e
  unfolding other_of attempt_of item_of peer_of
  outgoing_fits sends.Nothing M = each_nothing Fits node back
  outgoing_fits (sends.Back m) M = each_back Fits node back m (λ b. to_fits back m b M)
  outgoing_fits (sends.Others m) M = each_other Fits node back m (λ k b d. to_fits k m b M)
  outgoing_fits (sends.Asked a item) M = each_asked Fits node back a item
      (λ k b o e. to_fits k (message.Confirm o a item) b
      (record { other_fits = asked_fits (get_or node.asked k no_peer) o e (N.asked_fit k); attempt_fits = M.0; item_fits = M.1 }))

-- what fitting fields say of the message
pub message_fits_of : (e : Envelope) → Fits e → MessageFits e.message × CounterFits e.incarnation.0
unfolding Fits FieldsFit fields_of
message_fits_of e h = (record { other_fits = h.3; attempt_fits = h.4; item_fits = h.5 }, h.2)

-- ---- the rows beside a message

pub rows_fit : (items : List Item) → ((j : ℕ) → ItemFits (get_or items j zero_item)) → RowsFit items
unfolding RowsFit
rows_fit [] h = tt
rows_fit (i ∷ items) h = (h 0, rows_fit items (λ j. h (suc j)))

pub node_items : (node : Node) (j : ℕ) → get_or (row_items node) j zero_item ≡ (row_of node j).item
unfolding row_items row_of
node_items node j = get_or-map (λ (r : Row). r.item) node.rows j zero_row

pub node_items_fit : (node : Node) → NodeFits node → (j : ℕ) → ItemFits (get_or (row_items node) j zero_item)
node_items_fit node N j = rw (node_items node j) (N.items_fit j)

-- an item of a padded list is one of the list's, or the zero item
padded_any : (P : Item → Type 0) → P zero_item → (m : ℕ) (items : List Item) → ((j : ℕ) → P (get_or items j zero_item))
    → (j : ℕ) → P (get_or (padded m items) j zero_item)
unfolding padded
padded_any P z zero items h j = z
padded_any P z (suc m) [] h zero = z
padded_any P z (suc m) [] h (suc j) = padded_any P z m [] (λ _. z) j
padded_any P z (suc m) (i ∷ items) h zero = h 0
padded_any P z (suc m) (i ∷ items) h (suc j) = padded_any P z m items (λ k. h (suc k)) j

take_any : (P : Item → Type 0) → P zero_item → (m : ℕ) (items : List Item) → ((j : ℕ) → P (get_or items j zero_item))
    → (j : ℕ) → P (get_or (take m items) j zero_item)
take_any P z zero items h j = z
take_any P z (suc m) [] h j = z
take_any P z (suc m) (i ∷ items) h zero = h 0
take_any P z (suc m) (i ∷ items) h (suc j) = take_any P z m items (λ k. h (suc k)) j

pub held_fit : (m : Message) (n : ℕ) (items : List Item) → ((j : ℕ) → ItemFits (get_or items j zero_item))
    → (j : ℕ) → ItemFits (get_or (held_rows m n items) j zero_item)
unfolding held_rows
held_fit m n items h =
    padded_any ItemFits zero_fits max_nodes (take (rows_held m n) items) (take_any ItemFits zero_fits (rows_held m n) items h)
