-- The items of x in rows and messages, and what x's answers tell: an item that was known stays known, and an item with which
-- x returns is its last, or one of the next index that it has begun.
use Prim.Native.Nat.{ℕ, ◌≤◌, ◌<◌}
use native.Mathlib.Omega.{arith}
use mathlib.Core.Path.{◌≡◌, refl, ap, ◌∙◌}
use mathlib.Core.Logic.{◌≢◌, ◌⊎◌, inl, inr}
use mathlib.Core.Bool.{true, false≢true}
use mathlib.Core.List.Memᴰ
use Rattle.item.specs.declared.Item.{Item}
use Rattle.item.specs.declared.Tag.{Tag}
use Rattle.item.specs.Item.{zero_item, item_above}
use Rattle.returns.specs.Replace.{replaced}
use Rattle.returns.specs.Majority.{count, group_size}
use Rattle.returns.specs.Rank.{Above}
use Rattle.returns.specs.History.{Note, quiet, begins, settles, returns, History, after_note, May}
use Rattle.returns.specs.View.{ViewPhase, down, fetching, returning, up, idle, ViewNode, View, live}
use Rattle.returns.specs.Change.{CountsConfirmed, Finishes, Change, at_write, at_retry, at_crash, at_start, at_store, at_stored, at_last_stored, at_confirmed, at_last_confirmed, at_table, at_last_table, elsewhere, unchanged}
use Rattle.returns.specs.Invariant.{Known, Invariant}
use Rattle.returns.proofs.ReplaceLaws.{replaced_each}
use Rattle.returns.proofs.RankLaws.{above_higher, above_index, above_cases}
use Rattle.returns.proofs.ViewLaws.{clash}
use Rattle.returns.proofs.NodeSteps.{confirming_live}

-- the three kinds of note, with what is known of the change that tells it
pub data Tells (f x : ℕ) (g : View) : Note → ℕ → Type 0 where
  tells_nothing : (p : ℕ) → Tells f x g quiet p
  tells_begun : (t : Tag) → Tells f x g (begins t) x
  tells_finished : (q : ℕ) (n : Note) → CountsConfirmed x g q → f ≤ count (replaced (g.node x).counted q true) (group_size f)
      → Finishes (g.node x) n → Tells f x g n x

pub tells : (f x : ℕ) (g : View) (n : Note) (p : ℕ) (v : ViewNode) → Change f x g n p v → Tells f x g n p
tells f x g n p v (at_write t _ e s b u a k) = tells_begun t
tells f x g n p v (at_retry _ d b u a k) = tells_nothing x
tells f x g n p v (at_crash _ _ i u s k) = tells_nothing p
tells f x g n p v (at_start _ _ i u s k c) = tells_nothing p
tells f x g n p v (at_store _ i a k _ d m r l e) = tells_nothing p
tells f x g n p v (at_stored q i _ c w u s e e') = tells_nothing x
tells f x g n p v (at_last_stored q i _ c w u s e e' y) = tells_nothing x
tells f x g n p v (at_confirmed q _ c w u s e e' y) = tells_nothing x
tells f x g n p v (at_last_confirmed q _ _ c m w u s r) = tells_finished q n c m r
tells f x g n p v (at_table _ q r _ t u s c m) = tells_nothing p
tells f x g n p v (at_last_table _ q r _ t c u m b) = tells_nothing p
tells f x g n p v (elsewhere _ _ d l k) = tells_nothing p
tells f x g n p v (unchanged _ _ e) = tells_nothing p

-- only x's own calls tell anything
pub others_quiet : (f x : ℕ) (g : View) (h : History) (n : Note) (p : ℕ) → Tells f x g n p → p ≢ x → after_note h n ≡ h
others_quiet f x g h n p (tells_nothing _) d = refl
others_quiet f x g h n p (tells_begun t) d = absurd (d refl)
others_quiet f x g h n p (tells_finished q _ c m r) d = absurd (d refl)

abbrev last_is : History → Item → History
last_is h i = record { last = i; begun = h.begun }

-- of a live node, whether Returning or Up
by_phase : (P : Note → Type 0) (v : ViewNode) (n : Note) → live v.phase ≡ true → Finishes v n → P (settles v.item) → P (returns v.item) → P n
by_phase P v n l d s r = go v.phase refl
  where
    go : (k : ViewPhase) → v.phase ≡ k → P n
    go down e = absurd (false≢true (rw e at l))
    go fetching e = absurd (false≢true (rw e at l))
    go returning e = rw (d.when_returning e) r
    go up e = rw (d.when_up e) s

after_finished : (h : History) (v : ViewNode) (n : Note) → live v.phase ≡ true → Finishes v n → after_note h n ≡ last_is h v.item
after_finished h v n l d = by_phase (λ m. after_note h m ≡ last_is h v.item) v n l d refl refl

pub known_zero : (h : History) → Known h zero_item
known_zero h = record { not_far = omega arith; was_begun = λ e. absurd (omega arith) }

known_last : (h : History) (j i : Item) → h.last.index.0 ≤ j.index.0 → Known h i → Known (last_is h j) i
known_last h j i l k = record { not_far = omega (arith, k.not_far); was_begun = λ e. k.was_begun (omega (arith, k.not_far)) }

known_begins : (h : History) (t : Tag) (i : Item) → Known h i → Known (after_note h (begins t)) i
known_begins h t i k = record { not_far = k.not_far; was_begun = λ e. Memᴰ.tail (k.was_begun e) }

known_merged : (h : History) (v : ViewNode) (r item : Item) → (item ≡ v.item) ⊎ (item ≡ r) → Known h v.item → Known h r → Known h item
known_merged h v r item (inl e) k l = rw e k
known_merged h v r item (inr e) k l = rw e l

module _ (f x : ℕ) (h : History) (g : View) (I : Invariant f x h g) where
  -- what x writes is above its last item
  pub writing_above : ((g.node x).stage ≡ idle → ⊥) → Above h.last (g.node x).item
  writing_above d = go (g.node x).phase refl
    where
      go : (k : ViewPhase) → (g.node x).phase ≡ k → Above h.last (g.node x).item
      go down e = absurd (d (I.own.when_off (rw e)))
      go fetching e = absurd (d (I.own.when_off (rw e)))
      go returning e = I.own.when_returning e
      go up e = above_higher h.last (g.node x).item (omega (arith, I.own.when_writing e d))

  confirming_above : (q : ℕ) → CountsConfirmed x g q → Above h.last (g.node x).item
  confirming_above q c = let e = c.in_confirming in writing_above (λ z. clash (cc))

  pub finished_is : (q : ℕ) (n : Note) → CountsConfirmed x g q → Finishes (g.node x) n → after_note h n ≡ last_is h (g.node x).item
  finished_is q n c r = after_finished h (g.node x) n (confirming_live f x h g I c.in_confirming) r

  pub known_next : (n : Note) (p : ℕ) → Tells f x g n p → (i : Item) → Known h i → Known (after_note h n) i
  known_next n p (tells_nothing _) i k = k
  known_next n p (tells_begun t) i k = known_begins h t i k
  known_next n p (tells_finished q _ c m r) i k =
      rw (finished_is q n c r) (known_last h (g.node x).item i (above_index h.last (g.node x).item (confirming_above q c)) k)

  -- the claim itself
  pub may_tell : (n : Note) (p : ℕ) → Tells f x g n p → May h n
  may_tell n p (tells_nothing _) = tt
  may_tell n p (tells_begun t) = tt
  may_tell n p (tells_finished q _ c m r) =
      by_phase (May h) (g.node x) n (confirming_live f x h g I c.in_confirming) r tt
      (go (above_cases h.last (g.node x).item (confirming_above q c)))
    where
      k : Known h (g.node x).item
      k = I.items x

      go : ((g.node x).item ≡ h.last) ⊎ (h.last.index.0 < (g.node x).item.index.0) → May h (returns (g.node x).item)
      go (inl e) = inl e
      go (inr e) = inr (omega (arith, k.not_far), k.was_begun (omega (arith, k.not_far)))

  pub item_change : (n : Note) (p : ℕ) (v : ViewNode) → Change f x g n p v → Known (after_note h n) v.item
  item_change n p v (at_write t _ e s b u a k) =
      let i : v.item ≡ item_above h.last t = k ∙ ap (λ (j : Item). item_above j t) (I.own.when_idle e s) in
      rw i (record { not_far = omega arith; was_begun = λ z. Memᴰ.head refl })
  item_change n p v (at_retry _ d b u a k) = rw k (I.items x)
  item_change n p v (at_crash _ _ i u s k) = rw k (known_zero h)
  item_change n p v (at_start _ _ i u s k c) = rw k (known_zero h)
  item_change n p v (at_store _ i a k _ d m r l e) = rw e (I.messages _ m)
  item_change n p v (at_stored q i _ c w u s e e') = rw w.same_item (I.items x)
  item_change n p v (at_last_stored q i _ c w u s e e' y) = rw w.same_item (I.items x)
  item_change n p v (at_confirmed q _ c w u s e e' y) = rw w.same_item (I.items x)
  item_change n p v (at_last_confirmed q _ _ c m w u s r) =
      rw w.same_item (known_next n x (tells_finished q n c m r) (g.node x).item (I.items x))
  item_change n p v (at_table _ q r _ t u s c m) =
      known_merged h (g.node p) r v.item m.from (I.items p) (I.messages _ t.was_sent).1
  item_change n p v (at_last_table _ q r _ t c u m b) =
      known_merged h (g.node p) r v.item m.from (I.items p) (I.messages _ t.was_sent).1
  item_change n p v (elsewhere _ _ d l k) = rw k (I.items p)
  item_change n p v (unchanged _ _ e) = rw e (I.items p)

  pub items_next : (n : Note) (p : ℕ) (v : ViewNode) → Change f x g n p v → (q : ℕ) → Known (after_note h n) (replaced g.node p v q).item
  items_next n p v c = replaced_each (λ q w. Known (after_note h n) w.item) g.node p v (item_change n p v c)
      (λ q d. known_next n p (tells f x g n p v c) (g.node q).item (I.items q))
