-- How many messages a decision sends: none, one back, one to each of n - 1 others, or one to each peer asked.
use Prim.Native.Nat.{ℕ, zero, suc, ◌+◌, ◌-◌, ◌≤◌, ◌<◌, min}
use native.Mathlib.Omega.{arith}
use mathlib.Core.Path.{◌≡◌, refl, sym, ap, ◌∙◌}
use mathlib.Core.Bool.{Bool, true, false, cond, not, ◌&&◌}
use lib.Dec.{eqb, ltb}
use lib.ListN.{length}
use borrow.Author.Tests.{lt-ltb, le-ltb, eq-eqb, ne_eqb}
use Rattle.store_laws.proofs.Times.{by_same}
use Rattle.endian.proofs.PartLaws.{by_order}
use Rattle.item.specs.Maxima.{max_nodes}
use Rattle.item.specs.declared.counters.Attempt.{Attempt}
use Rattle.item.specs.declared.Item.{Item}
use Rattle.message.proofs.Counted as counted
use Rattle.message.specs.declared.Envelope.{Envelope}
use Rattle.message.specs.declared.Message.{Message}
use Rattle.message.specs.declared.Message.TheVariants as message
use Rattle.std.specs.Prelude.{Option, Some, None, is_some, option_map, List, ◌∷◌}
use Rattle.item.specs.declared.counters.Incarnation.{Incarnation}
use Rattle.returns.specs.Majority.{bit, count}
use Rattle.store.specs.Change.{count_outgoing}
use Rattle.protocol.specs.Node.{peer_of, count_peers}
use Rattle.protocol.specs.Outgoing.{message_to, envelope_to, outgoing_to, outgoing_from, outgoing}
use Rattle.protocol.specs.Sound.{peers_sound}
use Rattle.protocol.specs.declared.Node.{Node}
use Rattle.protocol.specs.declared.Sends.{Sends}
use Rattle.protocol.specs.declared.Sends.TheVariants as sends
use Rattle.protocol.proofs.Counts.{present, count_peers_lem, absent_beyond}

-- ---- counting

bit_some : (o : Option Envelope) (os : List (Option Envelope)) → count_outgoing (o ∷ os) ≡ bit (is_some o) + count_outgoing os
unfolding count_outgoing
bit_some None os = omega (arith, counted.count_none os)
bit_some (Some e) os = omega (arith, counted.count_some e os)

count_same : (a b : ℕ → Bool) → ((j : ℕ) → a j ≡ b j) → (m : ℕ) → count a m ≡ count b m
unfolding count
count_same a b h zero = refl
count_same a b h (suc m) = λ i. bit (h m i) + count_same a b h m i

count_none : (a : ℕ → Bool) → ((j : ℕ) → a j ≡ false) → (m : ℕ) → count a m ≡ 0
unfolding count
count_none a h zero = refl
count_none a h (suc m) = omega (arith, ap bit (h m), count_none a h m)

and_false : (t : Bool) → (t && false) ≡ false
and_false true = refl
and_false false = refl

-- the numbers below n but one
abbrev others : ℕ → ℕ → ℕ → Bool
others n own j = ltb j n && not (eqb j own)

count_others : (n own : ℕ) → own < n → (m : ℕ) → count (others n own) m + bit (ltb own m) ≡ min m n
unfolding count
count_others n own h zero = omega (arith, ap bit (le-ltb own 0 (omega arith)))
count_others n own h (suc m) =
    let rest : count (others n own) m + bit (ltb own m) ≡ min m n = count_others n own h m in
    by_order (suc m) n
    (λ low. by_same m own
    (λ e.
    let none : bit (others n own m) ≡ 0 = rw (eq-eqb m own e) (ap bit (and_false (ltb m n))) in
    omega (arith, ap bit (le-ltb own m (omega arith)), ap bit (lt-ltb own (suc m) (omega arith))))
    (λ d.
    let one : bit (others n own m) ≡ 1 = rw (ne_eqb m own d, lt-ltb m n low) in
    by_order (suc own) m
    (λ before. omega (arith, ap bit (lt-ltb own m before), ap bit (lt-ltb own (suc m) (omega arith))))
    (λ after. omega (arith, ap bit (le-ltb own m (omega arith)), ap bit (le-ltb own (suc m) (omega (arith, d)))))))
    (λ high.
    let none : bit (others n own m) ≡ 0 = rw (le-ltb m n (omega arith)) in
    omega (arith, ap bit (lt-ltb own m (omega arith)), ap bit (lt-ltb own (suc m) (omega arith))))

-- one number below n
abbrev only : ℕ → ℕ → ℕ → Bool
only n back j = ltb j n && eqb j back

count_only : (n back : ℕ) → back < n → (m : ℕ) → count (only n back) m ≡ bit (ltb back m)
unfolding count
count_only n back h zero = sym (ap bit (le-ltb back 0 (omega arith)))
count_only n back h (suc m) =
    let rest : count (only n back) m ≡ bit (ltb back m) = count_only n back h m in
    by_same m back
    (λ e.
    let one : bit (only n back m) ≡ 1 = rw (eq-eqb m back e, lt-ltb m n (omega arith)) in
    omega (arith, ap bit (le-ltb back m (omega arith)), ap bit (lt-ltb back (suc m) (omega arith))))
    (λ d.
    let none : bit (only n back m) ≡ 0 = rw (ne_eqb m back d) (ap bit (and_false (ltb m n))) in
    by_order (suc back) m
    (λ before. omega (arith, ap bit (lt-ltb back m before), ap bit (lt-ltb back (suc m) (omega arith))))
    (λ after. omega (arith, ap bit (le-ltb back m (omega arith)), ap bit (le-ltb back (suc m) (omega (arith, d))))))

-- ---- what is outgoing

module _ (node : Node) (s : Sends) (back : ℕ) where
  from_count : (k c : ℕ) → count_outgoing (outgoing_from node s back k c) + count (λ j. is_some (outgoing_to node s back j)) k
      ≡ count (λ j. is_some (outgoing_to node s back j)) (k + c)
  unfolding outgoing_from count_outgoing count
  from_count k zero = let z : k + 0 ≡ k = omega arith in rw z (omega arith)
  from_count k (suc c) =
      let z : k + suc c ≡ suc k + c = omega arith in
      rw z (omega (arith, bit_some (outgoing_to node s back k) (outgoing_from node s back (suc k) c), from_count (suc k) c))

  -- a message goes to each node of the group for which there is one
  to_some : (j : ℕ) → is_some (outgoing_to node s back j) ≡ (ltb j node.n && is_some (message_to s node back j))
  unfolding outgoing_to
  to_some j = go (ltb j node.n) (message_to s node back j)
    where
      go : (a : Bool) (o : Option Message) → is_some (cond a (option_map (envelope_to node j) o) None) ≡ (a && is_some o)
      go true None = refl
      go true (Some m) = refl
      go false o = refl

  pub outgoing_count : (goes : ℕ → Bool) → ((j : ℕ) → is_some (message_to s node back j) ≡ goes j)
      → count_outgoing (outgoing node s back) ≡ count (λ j. ltb j node.n && goes j) max_nodes
  unfolding outgoing count
  outgoing_count goes h =
      let e : count (λ j. is_some (outgoing_to node s back j)) max_nodes ≡ count (λ j. ltb j node.n && goes j) max_nodes =
      count_same _ _ (λ j. to_some j ∙ ap (λ (b : Bool). ltb j node.n && b) (h j)) max_nodes in
      omega (arith, from_count 0 max_nodes, e)

module _ (node : Node) (back : ℕ) where
  pub nothing_sent_lem : count_outgoing (outgoing node sends.Nothing back) ≡ 0
  unfolding message_to
  nothing_sent_lem = outgoing_count node sends.Nothing back (λ j. false) (λ j. refl) ∙ count_none _ (λ j. and_false (ltb j node.n)) max_nodes

  pub others_sent : (m : Message) → node.number < node.n → node.n ≤ max_nodes → count_outgoing (outgoing node (sends.Others m) back) ≡ node.n - 1
  unfolding message_to
  others_sent m low most =
      omega (
        arith,
        outgoing_count node (sends.Others m) back (λ j. not (eqb j node.number)) (λ j. goes (eqb j node.number)),
        count_others node.n node.number low max_nodes,
        ap bit (lt-ltb node.number max_nodes (omega arith)),
      )
    where
      goes : (b : Bool) → is_some (cond b None (Some m)) ≡ not b
      goes true = refl
      goes false = refl

  pub one_sent : (m : Message) → back < node.n → node.n ≤ max_nodes → count_outgoing (outgoing node (sends.Back m) back) ≡ 1
  unfolding message_to
  one_sent m low most =
      omega (
        arith,
        outgoing_count node (sends.Back m) back (λ j. eqb j back) (λ j. goes (eqb j back)),
        count_only node.n back low max_nodes,
        ap bit (lt-ltb back max_nodes (omega arith)),
      )
    where
      goes : (b : Bool) → is_some (cond b (Some m) None) ≡ b
      goes true = refl
      goes false = refl

  pub asked_sent : (a : Attempt) (i : Item) (own : ℕ) → peers_sound own node.n node.asked ≡ true → length node.asked ≡ max_nodes
      → count_outgoing (outgoing node (sends.Asked a i) back) ≡ count_peers node.asked
  unfolding message_to
  asked_sent a i own sound long =
      outgoing_count node (sends.Asked a i) back (present node.asked) (λ j. goes (peer_of node.asked j))
      ∙ count_same _ (present node.asked) below max_nodes
      ∙ sym (count_peers_lem node.asked ∙ ap (count (present node.asked)) long)
    where
      goes : (p : Option Incarnation) → is_some (option_map (λ other. message.Confirm other a i) p) ≡ is_some p
      goes None = refl
      goes (Some o) = refl

      below : (j : ℕ) → (ltb j node.n && present node.asked j) ≡ present node.asked j
      below j =
          by_order (suc j) node.n
          (λ h. rw (lt-ltb j node.n h))
          (λ h. rw (absent_beyond own node.n node.asked sound j (omega arith)) (and_false (ltb j node.n)))
