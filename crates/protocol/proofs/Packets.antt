-- The packets of a decision, with the rows beside them, and what node x sees of them.
use Prim.Native.Nat.{ℕ, ◌<◌, ◌≤◌, min}
use native.Mathlib.Omega.{arith}
use mathlib.Core.Path.{◌≡◌, refl, sym, ap, subst, ◌∙◌}
use mathlib.Core.Logic.{◌⊎◌, inl, inr}
use mathlib.Core.List.Memᴰ
use mathlib.Core.List.{List, [], ◌∷◌, ◌++◌, append_assoc, Memᴰ}
use lib.ListN.{length, get_or, take}
use lib.Seq.{get_or-take}
use Rattle.item.specs.declared.counters.Incarnation.{Incarnation}
use Rattle.item.specs.Item.{zero_item}
use Rattle.item.specs.Maxima.{max_nodes}
use Rattle.item.specs.declared.Item.{Item}
use Rattle.message.specs.Rows.{rows_held, held_rows}
use Rattle.message.proofs.RowsLaws.{length_padded, get_or_padded}
use Rattle.message.specs.declared.Message.{Message}
use Rattle.message.specs.declared.Message.TheVariants as message
use Rattle.message.specs.declared.Envelope.{Envelope}
use Rattle.std.specs.Prelude.{Option, Some, None}
use Rattle.returns.specs.View.{ViewMessage, Each}
use Rattle.returns.proofs.ViewLaws.{each_nil, each_append, clash}
use Rattle.protocol.specs.Network.{Packet, packet_of, packets_of}
use Rattle.protocol.specs.Node.{row_items}
use Rattle.protocol.specs.declared.Node.{Node}
use Rattle.protocol.proofs.Seen.{seen_as, seen_message}

-- ---- the packets of what a node sends

module _ (node : Node) where
  -- each is the packet of something outgoing
  pub each_packet : (P : Packet → Type 0) (os : List (Option Envelope))
      → ((e : Envelope) → Memᴰ (Some e) os → P (packet_of node e)) → (l : Packet) → Memᴰ l (packets_of node os) → P l
  unfolding packets_of
  each_packet P [] h l m = absurd (Memᴰ.not-nil m)
  each_packet P (None ∷ os) h l m = each_packet P os (λ e k. h e (Memᴰ.tail k)) l m
  each_packet P (Some e ∷ os) h l m = go (each_packet P os (λ d k. h d (Memᴰ.tail k)) l) (Memᴰ.cases_cons m)
    where
      go : (Memᴰ l (packets_of node os) → P l) → (l ≡ packet_of node e) ⊎ Memᴰ l (packets_of node os) → P l
      go r (inl z) = subst P (sym z) (h e (Memᴰ.head refl))
      go r (inr k) = r k

  -- and each thing outgoing has its packet
  pub has_packet : (os : List (Option Envelope)) (e : Envelope) → Memᴰ (Some e) os → Memᴰ (packet_of node e) (packets_of node os)
  unfolding packets_of
  has_packet [] e m = absurd (Memᴰ.not-nil m)
  has_packet (None ∷ os) e m = go (has_packet os e) (Memᴰ.cases_cons m)
    where
      go : (Memᴰ (Some e) os → Memᴰ (packet_of node e) (packets_of node os)) → (Some e ≡ None) ⊎ Memᴰ (Some e) os
          → Memᴰ (packet_of node e) (packets_of node os)
      go r (inl z) = clash (cc)
      go r (inr k) = r k
  has_packet (Some d ∷ os) e m = go (has_packet os e) (Memᴰ.cases_cons m)
    where
      go : (Memᴰ (Some e) os → Memᴰ (packet_of node e) (packets_of node os)) → (Some e ≡ Some d) ⊎ Memᴰ (Some e) os
          → Memᴰ (packet_of node e) (packet_of node d ∷ packets_of node os)
      go r (inl z) = Memᴰ.head (cc)
      go r (inr k) = Memᴰ.tail (r k)

-- ---- the rows beside a message

pub held_length : (m : Message) (n : ℕ) (rows : List Item) → length (held_rows m n rows) ≡ max_nodes
unfolding held_rows
held_length m n rows = length_padded max_nodes (take (rows_held m n) rows)

-- x sees the same of them as of the sender's rows
module _ (n x : ℕ) (below : x < n) (fits : n ≤ max_nodes) (rows : List Item) where
  row_held : (o : Incarnation) → get_or (held_rows (message.Table o) n rows) x zero_item ≡ get_or rows x zero_item
  unfolding held_rows rows_held
  row_held o =
      get_or_padded max_nodes (take (min n max_nodes) rows) x (omega arith) ∙ get_or-take (min n max_nodes) rows x zero_item (omega arith)

  seen_held : (m : Message) (s d : ℕ) (i : Incarnation) → seen_as x m s d i (held_rows m n rows) ≡ seen_as x m s d i rows
  seen_held (message.Store a k) s d i = refl
  seen_held (message.Stored o a k) s d i = refl
  seen_held (message.Confirm o a k) s d i = refl
  seen_held (message.Confirmed o a k) s d i = refl
  seen_held message.Fetch s d i = refl
  seen_held (message.Table o) s d i = rw (row_held o)

-- ---- what x sees of all that was sent

abbrev pub seen_packet : ℕ → Packet → List ViewMessage
seen_packet x l = seen_message x l.envelope l.rows

unfoldable pub seen_packets : ℕ → List Packet → List ViewMessage
seen_packets x [] = []
seen_packets x (l ∷ ls) = seen_packet x l ++ seen_packets x ls

pub append_seen : (x : ℕ) (a b : List Packet) → seen_packets x (a ++ b) ≡ seen_packets x a ++ seen_packets x b
unfolding seen_packets
append_seen x [] b = refl
append_seen x (l ∷ a) b =
    ap (λ (t : List ViewMessage). seen_packet x l ++ t) (append_seen x a b) ∙ sym (append_assoc (seen_packet x l) (seen_packets x a) (seen_packets x b))

-- a packet that was sent is seen
pub packet_seen : (x : ℕ) (ls : List Packet) (l : Packet) → Memᴰ l ls → Each (λ m. Memᴰ m (seen_packets x ls)) (seen_packet x l)
unfolding seen_packets
packet_seen x [] l m = absurd (Memᴰ.not-nil m)
packet_seen x (a ∷ ls) l m = go (packet_seen x ls l) (Memᴰ.cases_cons m)
  where
    go : (Memᴰ l ls → Each (λ v. Memᴰ v (seen_packets x ls)) (seen_packet x l))
        → (l ≡ a) ⊎ Memᴰ l ls → Each (λ v. Memᴰ v (seen_packets x (a ∷ ls))) (seen_packet x l)
    go r (inl z) v k = Memᴰ.append_left (seen_packets x ls) (subst (λ (b : Packet). Memᴰ v (seen_packet x b)) z k)
    go r (inr j) v k = Memᴰ.append_right (seen_packet x a) (r j v k)

each_seen : (x : ℕ) (P : ViewMessage → Type 0) (ls : List Packet) → ((l : Packet) → Memᴰ l ls → Each P (seen_packet x l)) → Each P (seen_packets x ls)
unfolding seen_packets
each_seen x P [] h = each_nil P
each_seen x P (l ∷ ls) h =
    each_append P (seen_packet x l) (seen_packets x ls) (h l (Memᴰ.head refl)) (each_seen x P ls (λ k m. h k (Memᴰ.tail m)))

-- what x sees of a decision's packets is what it sees of the messages with the sender's rows
pub each_sent : (x : ℕ) (node : Node) → x < node.n → node.n ≤ max_nodes → (P : ViewMessage → Type 0) (os : List (Option Envelope))
    → ((e : Envelope) → Memᴰ (Some e) os → Each P (seen_message x e (row_items node)))
    → Each P (seen_packets x (packets_of node os))
unfolding packet_of
each_sent x node below fits P os h =
    each_seen x P (packets_of node os)
    (each_packet node (λ (l : Packet). Each P (seen_packet x l)) os
    (λ e m. rw (seen_held node.n x below fits (row_items node) e.message e.sender e.addressee e.incarnation) (h e m)))
