-- What f + 1 nodes hold no later call undoes: any f + 1 tables include one of theirs, so a member that is rebuilt is above
-- the item again, and every other step of a node keeps what it holds.
use Prim.Native.Nat.{ℕ, suc, ◌≤◌}
use native.Mathlib.Omega.{arith}
use mathlib.Core.Path.{◌≡◌, sym, ◌∙◌}
use mathlib.Core.Logic.{◌⊎◌, inl, inr}
use mathlib.Core.Bool.{Bool, true, false, false≢true}
use mathlib.Core.List.Memᴰ
use mathlib.Core.List.{List, ◌++◌, Memᴰ}
use Rattle.item.specs.declared.Item.{Item}
use Rattle.returns.specs.Replace.{replaced}
use Rattle.returns.specs.Majority.{count, group_size, Both}
use Rattle.returns.specs.Rank.{Above, Covers}
use Rattle.returns.specs.View.{down, fetching, ViewNode, ViewMessage, table_from, View, put, Sent, Each}
use Rattle.returns.specs.Merge.{Merged}
use Rattle.returns.specs.Change.{CountsTable, MaySend}
use Rattle.returns.specs.Quorum.{Holds, Held, NodeStep, lives_on, goes_down, restarts, counts_table, rebuilds, stays}
use Rattle.returns.proofs.ReplaceLaws.{replaced_each}
use Rattle.returns.proofs.MajorityLaws.{majorities_meet}
use Rattle.returns.proofs.RankLaws.{above_trans, above_covers}
use Rattle.returns.proofs.ViewLaws.{clash, live_not_fetching}

-- a node that is not Fetching: nothing is asked of a Down one
pub holds_live : (A : ℕ → Bool) (s : Item) (ms : List ViewMessage) (p : ℕ) (v : ViewNode) → (v.phase ≡ fetching → ⊥)
    → Above s v.item → Holds A s ms p v
holds_live A s ms p v d h = record { when_live = λ e. h; when_counted = λ e. absurd (d e); when_coming = λ e. absurd (d e) }

pub holds_down : (A : ℕ → Bool) (s : Item) (ms : List ViewMessage) (p : ℕ) (v : ViewNode) → v.phase ≡ down → Holds A s ms p v
holds_down A s ms p v d = record { when_live = λ e. clash (cc); when_counted = λ e. clash (cc); when_coming = λ e. clash (cc) }

holds_fetching : (A : ℕ → Bool) (s : Item) (ms : List ViewMessage) (p : ℕ) (v : ViewNode) → v.phase ≡ fetching
    → ((q : ℕ) → A q ≡ true → v.counted q ≡ true → Covers s v.item v.marked)
    → ((q : ℕ) (r : Item) → A q ≡ true → Memᴰ (table_from q p v.incarnation r) ms → Above s r) → Holds A s ms p v
holds_fetching A s ms p v d c w = record { when_live = λ e. clash (cc); when_counted = λ e. c; when_coming = λ e. w }

module _ (A : ℕ → Bool) (s : Item) (g : View) (p : ℕ) where
  -- once a table of a node of A is counted, s is covered
  table_covers : (q : ℕ) (r : Item) (w : ViewNode) (item : Item) (marked : Bool) → CountsTable g p q r w → Merged (g.node p) r item marked
      → Holds A s g.sent p (g.node p) → (k : ℕ) → A k ≡ true → replaced (g.node p).counted q true k ≡ true → Covers s item marked
  table_covers q r w item marked T M h =
      replaced_each (λ k b. A k ≡ true → b ≡ true → Covers s item marked) (g.node p).counted q true
      (λ a b. M.taken s (h.when_coming T.was_fetching q r a (rw T.present_incarnation at T.was_sent)))
      (λ k d a b. M.kept k b s (h.when_counted T.was_fetching k a b))

  module _ (f : ℕ) (many : suc f ≤ count A (group_size f)) where
    -- a node of A that has counted f + 1 tables, in an unmarked row, is above s again
    pub rebuilt_above : (q : ℕ) (r : Item) (w : ViewNode) → CountsTable g p q r w
        → suc f ≤ count (replaced (g.node p).counted q true) (group_size f)
        → Merged (g.node p) r w.item false → Holds A s g.sent p (g.node p) → Above s w.item
    rebuilt_above q r w T c M h = go (majorities_meet (replaced (g.node p).counted q true) A f c many)
      where
        go : Both (replaced (g.node p).counted q true) A (group_size f) → Above s w.item
        go b = above_covers s w.item (table_covers q r w w.item false T M h b.at b.right b.left)

    -- no Table has been sent to p for an incarnation that is still to come
    holds_step : ((q o : ℕ) (r : Item) → Sent (table_from q p o r) g → o ≤ (g.node p).incarnation) → (w : ViewNode) → NodeStep f g p w
        → Holds A s g.sent p (g.node p) → Holds A s g.sent p w
    holds_step past w (lives_on L r) h =
        holds_live A s g.sent p w (live_not_fetching w L.is_live) (above_trans s (g.node p).item w.item (h.when_live L.was_live) r)
    holds_step past w (goes_down d e) h = holds_down A s g.sent p w d
    holds_step past w (restarts d e none) h = holds_fetching A s g.sent p w d
        (λ q a c. absurd (false≢true (sym (none q) ∙ c)))
        (λ q r a m. absurd (omega (arith, past q w.incarnation r m)))
    holds_step past w (counts_table q r T d c M) h = holds_fetching A s g.sent p w d
        (λ k a b. table_covers q r w w.item w.marked T M h k a (rw c at b))
        (λ k i a m. h.when_coming T.was_fetching k i a (rw T.same_incarnation at m))
    holds_step past w (rebuilds q r T c d M) h = holds_live A s g.sent p w (live_not_fetching w d) (rebuilt_above q r w T c M h)
    holds_step past w (stays e) h = rw e h

    -- A Table that is sent is that of a live node, so if that node is in A, it is above s.
    pub held_next : (x : ℕ) (v : ViewNode) (ms : List ViewMessage)
        → ((q o : ℕ) (r : Item) → Sent (table_from q p o r) g → o ≤ (g.node p).incarnation)
        → NodeStep f g p v → Each (MaySend x g p v) ms → Held A s g → Held A s (put g p v ms)
    held_next x v ms past T send h q a = more (replaced g.node p v q)
        (replaced_each (λ k w. A k ≡ true → Holds A s g.sent k w) g.node p v (λ b. holds_step past v T (h p b)) (λ k d. h k) q a)
      where
        more : (w : ViewNode) → Holds A s g.sent q w → Holds A s (ms ++ g.sent) q w
        more w k = record {
          when_live = k.when_live;
          when_counted = k.when_counted;
          when_coming = λ e q' r b m. new e q' r b (Memᴰ.append_cases ms m);
        }
          where
            new : w.phase ≡ fetching → (q' : ℕ) (r : Item) → A q' ≡ true
                → Memᴰ (table_from q' q w.incarnation r) ms ⊎ Memᴰ (table_from q' q w.incarnation r) g.sent → Above s r
            new e q' r b (inl m) = rw (send _ m).2 ((h p (rw (send _ m).0 at b)).when_live (send _ m).1)
            new e q' r b (inr m) = k.when_coming e q' r b m
