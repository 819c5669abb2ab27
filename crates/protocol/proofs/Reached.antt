-- What is known at any point of a run from set-up: one network, in it each node at its place, and for every node x the
-- invariant of `returns`, for a history that says what the calls up to there tell of x. Claims on runs start from here.
use Prim.Native.Nat.{ℕ, suc, ◌+◌, ◌<◌, ◌≤◌}
use native.Mathlib.Omega.{arith}
use mathlib.Core.Path.{◌≡◌, refl, sym, ap, subst, ◌∙◌}
use mathlib.Core.Logic.{◌⊎◌, inl, inr}
use mathlib.Core.Bool.{true}
use mathlib.Core.List.Memᴰ
use mathlib.Core.List.{List, [], ◌∷◌, ◌++◌, Memᴰ}
use Rattle.item.specs.Item.{zero_item}
use Rattle.item.specs.Maxima.{max_nodes, valid_size}
use Rattle.item.specs.declared.Item.{Item}
use Rattle.returns.specs.History.{History, at_set_up, after_note, May}
use Rattle.returns.specs.Invariant.{Invariant}
use Rattle.returns.proofs.ViewLaws.{clash}
use Rattle.returns.proofs.Returns.{SetUp, call_kept, invariant_set_up}
use Rattle.protocol.specs.Call.{Call, last_after, last_from, last_item, begun_at, begun_from, begun}
use Rattle.protocol.specs.Network.{Network, Next, Run, fresh_network}
use Rattle.protocol.specs.Node.{half, blank_node, fresh_node, write_ended}
use Rattle.protocol.specs.Table.{no_node, node_at, fresh_table}
use Rattle.protocol.specs.declared.Node.{Node}
use Rattle.protocol.proofs.Along.{At, along, at_call, last_later, begun_later}
use Rattle.protocol.proofs.Grouped.{Grouped, each_fresh, grouped_next, set_up_grouped}
use Rattle.protocol.proofs.InView.{odd_size, size_fits}
use Rattle.protocol.proofs.Packets.{seen_packets}
use Rattle.protocol.proofs.Rows.{zero_row_lem}
use Rattle.protocol.proofs.Seen.{seen}
use Rattle.protocol.proofs.Shown.{shown, next_shown}
use Rattle.protocol.proofs.Told.{told_by, told_last, told_begun}

-- of x: the last item that the calls tell, and no item begun that they do not tell
pub record Known (f x : ℕ) (before : List Call) (net : Network) : Type 0 where
  pub history : History
  pub invariant : Invariant f x history (shown x net)
  pub last_is : history.last ≡ last_item x before
  pub begun_in : (i : Item) → Memᴰ i history.begun → Memᴰ i (begun x before)

-- the network that some calls from set-up have led to
pub record Reached (n : ℕ) (before : List Call) (net : Network) : Type 0 where
  pub grouped : Grouped n net
  pub known : (x : ℕ) → x < n → Known (half n) x before net

-- ---- one call

module _ (f n x : ℕ) (odd : n ≡ suc (f + f)) (fits : n ≤ max_nodes) (below : x < n) {net net' : Network} {c : Call} (before : List Call)
    (G : Grouped n net) (s : Next net c net') (K : Known f x before net) where
  -- what it tells is allowed, and the invariant holds again
  pub call_allowed : May K.history (told_by x c) × Invariant f x (after_note K.history (told_by x c)) (shown x net')
  call_allowed =
      let below_odd : x < suc (f + f) = omega arith in
      call_kept f x below_odd K.history (shown x net) (shown x net') (told_by x c) K.invariant (next_shown f n x odd fits below net G s)

  known_next : Known f x (before ++ (c ∷ [])) net'
  unfolding last_item begun
  known_next =
      record {
        history = after_note K.history (told_by x c);
        invariant = call_allowed.1;
        last_is = told_last x s K.history ∙ ap (last_after x c) K.last_is ∙ sym (last_later x zero_item before c);
        begun_in = λ i m. subst (λ (l : List Item). Memᴰ i l) (sym (begun_later x zero_item before c)) (among i (told_begun x s K.history i m));
      }
    where
      last : Item
      last = last_from x zero_item before

      old : List Item
      old = begun_from x zero_item before

      new : List Item
      new = begun_at x c.event c.answer last

      among : (i : Item) → Memᴰ i K.history.begun ⊎ Memᴰ i (begun_at x c.event c.answer K.history.last) → Memᴰ i (old ++ new)
      among i (inl m) = Memᴰ.append_left new (K.begun_in i m)
      among i (inr m) =
          Memᴰ.append_right old (subst (λ (j : Item). Memᴰ i (begun_at x c.event c.answer j)) K.last_is m)

pub reached_next : (n : ℕ) → valid_size n ≡ true → (net net' : Network) (c : Call) (before : List Call) → Reached n before net → Next net c net'
    → Reached n (before ++ (c ∷ [])) net'
reached_next n valid net net' c before R s =
    record {
      grouped = grouped_next n net R.grouped s;
      known = λ x below. known_next (half n) n x (odd_size n valid) (size_fits n valid) below before R.grouped s (R.known x below);
    }

-- ---- set-up

fresh_set_up : (x k n : ℕ) → SetUp (seen x (fresh_node k n))
unfolding fresh_node write_ended blank_node
fresh_set_up x k n = record { is_idle = refl; not_fetching = λ e. clash (cc); zero_item = zero_row_lem _ x refl }

no_node_set_up : (x : ℕ) → SetUp (seen x no_node)
unfolding no_node blank_node
no_node_set_up x = record { is_idle = refl; not_fetching = λ e. clash (cc); zero_item = zero_row_lem _ x refl }

first_known : (f n x : ℕ) → x < suc (f + f) → Known f x [] (fresh_network n)
unfolding fresh_network seen_packets last_item last_from
first_known f n x below =
    record {
      history = at_set_up;
      invariant = invariant_set_up f x below (λ p. seen x (node_at (fresh_table n) p)) fresh;
      last_is = refl;
      begun_in = λ i m. absurd (Memᴰ.not-nil m);
    }
  where
    fresh : (p : ℕ) → SetUp (seen x (node_at (fresh_table n) p))
    fresh = each_fresh (λ (node : Node). SetUp (seen x node)) n (λ k. fresh_set_up x k n) (no_node_set_up x)

pub first_reached : (n : ℕ) → valid_size n ≡ true → Reached n [] (fresh_network n)
first_reached n valid =
    let odd : n ≡ suc (half n + half n) = odd_size n valid in
    record { grouped = set_up_grouped n; known = λ x below. first_known (half n) n x (omega arith) }

-- ---- a run from set-up

module _ (n : ℕ) (valid : valid_size n ≡ true) {calls : List Call} {left : Network} (run : Run (fresh_network n) calls left) where
  -- what it leaves
  pub reached : Reached n calls left
  reached = along (Reached n) (reached_next n valid) run (first_reached n valid)

  -- each of its calls
  pub reached_call : (before : List Call) (call : Call) (after : List Call) → calls ≡ before ++ (call ∷ after) → At (Reached n) before call
  reached_call = at_call (Reached n) (reached_next n valid) run (first_reached n valid)

  -- any further property that a call keeps, where all this is known
  module _ (P : List Call → Network → Type 0)
      (keeps : (net net' : Network) (c : Call) (before : List Call) → Reached n before net → P before net → Next net c net' → P (before ++ (c ∷ [])) net')
      (first : P [] (fresh_network n)) where
    abbrev pub Both : List Call → Network → Type 0
    Both before net = Reached n before net × P before net

    both_kept : (net net' : Network) (c : Call) (before : List Call) → Both before net → Next net c net' → Both (before ++ (c ∷ [])) net'
    both_kept net net' c before B s = (reached_next n valid net net' c before B.0 s, keeps net net' c before B.0 B.1 s)

    pub along_reached : Both calls left
    along_reached = along Both both_kept run (first_reached n valid, first)

    pub at_reached : (before : List Call) (call : Call) (after : List Call) → calls ≡ before ++ (call ∷ after) → At Both before call
    at_reached = at_call Both both_kept run (first_reached n valid, first)
