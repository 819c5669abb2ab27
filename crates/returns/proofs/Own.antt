-- x's own node: its item follows its last one, and each peer that it counts while Storing answered for that item.
use Prim.Native.Nat.{ℕ}
use mathlib.Core.Path.{◌≡◌, refl, sym, ap, ◌∙◌}
use mathlib.Core.Logic.{◌≢◌}
use mathlib.Core.Bool.{true, false, false≢true}
use Rattle.item.specs.declared.Item.{Item}
use Rattle.item.specs.Item.{item_above}
use Rattle.returns.specs.Replace.{replaced}
use Rattle.returns.specs.History.{Note, History, after_note}
use Rattle.returns.specs.View.{idle, storing, ViewNode, View, live}
use Rattle.returns.specs.Change.{CountsStored, BeginsStoring, Change, at_write, at_retry, at_crash, at_start, at_store, at_stored, at_last_stored, at_confirmed, at_last_confirmed, at_table, at_last_table, elsewhere, unchanged}
use Rattle.returns.specs.Invariant.{Own, Answered, CountedAnswered, Quorum, Invariant}
use Rattle.returns.proofs.ReplaceLaws.{replaced_each, replaced_both}
use Rattle.returns.proofs.ViewLaws.{clash}
use Rattle.returns.proofs.QuorumLaws.{rebuilt_above}
use Rattle.returns.proofs.NodeSteps.{Forward}
use Rattle.returns.proofs.Items.{tells, others_quiet, finished_is}

-- what holds of the node of x holds of the node of p, if p is x
pub of_x : (x : ℕ) (g : View) (P : ViewNode → Type 0) (p : ℕ) → p ≡ x → P (g.node x) → P (g.node p)
of_x x g P p e h = rw e h

own_off : (h : History) (v : ViewNode) → live v.phase ≡ false → v.stage ≡ idle → Own h v
own_off h v e s = record { when_idle = λ u. clash (cc); when_writing = λ u. clash (cc); when_returning = λ u. clash (cc); when_off = λ u. s }

own_writes : (h : History) (v w : ViewNode) → Own h v → w.phase ≡ v.phase → w.item ≡ v.item → (v.stage ≡ idle → ⊥)
    → (w.stage ≡ idle → ⊥) → Own h w
own_writes h v w o e i dv dw = record {
  when_idle = λ u s. absurd (dw s);
  when_writing = λ u s. ap (λ (j : Item). j.index.0) i ∙ o.when_writing (sym e ∙ u) dv;
  when_returning = λ u. rw i (o.when_returning (sym e ∙ u));
  when_off = λ u. absurd (dv (o.when_off (rw e at u)));
}

module _ (f x : ℕ) (h : History) (g : View) (I : Invariant f x h g) where
  pub own_change : (n : Note) (p : ℕ) (v : ViewNode) → Change f x g n p v → p ≡ x → Own (after_note h n) v
  own_change n p v (at_write t _ e s b u a k) z =
      let s' = b.now_storing in
      record {
        when_idle = λ y y'. clash (cc);
        when_writing = λ y y'. ap (λ (j : Item). j.index.0) (k ∙ ap (λ (j : Item). item_above j t) (I.own.when_idle e s));
        when_returning = λ y. clash (cc);
        when_off = λ y. clash (cc);
      }
  own_change n p v (at_retry _ d b u a k) z = let s = b.now_storing in own_writes h (g.node x) v I.own u k d (λ y. clash (cc))
  own_change n p v (at_crash _ _ i u s k) z = own_off h v (rw u) s
  own_change n p v (at_start _ _ i u s k c) z = own_off h v (rw u) s
  own_change n p v (at_store _ i a k _ d m r l e) z = absurd (d z)
  own_change n p v (at_stored q i _ c w u s e e') z =
      let s' = c.in_storing in own_writes h (g.node x) v I.own u w.same_item (λ y. clash (cc)) (λ y. clash (cc))
  own_change n p v (at_last_stored q i _ c w u s e e' y) z =
      let s' = c.in_storing in own_writes h (g.node x) v I.own u w.same_item (λ y. clash (cc)) (λ y. clash (cc))
  own_change n p v (at_confirmed q _ c w u s e e' y) z =
      let s' = c.in_confirming in own_writes h (g.node x) v I.own u w.same_item (λ y. clash (cc)) (λ y. clash (cc))
  own_change n p v (at_last_confirmed q _ _ c m w u s r) z = rw (finished_is f x h g I q n c r) (record {
    when_idle = λ y y'. w.same_item;
    when_writing = λ y y'. absurd (y' s);
    when_returning = λ y. clash (cc);
    when_off = λ y. clash (cc);
  })
  own_change n p v (at_table _ q r _ t u s c m) z = own_off h v (rw u) s
  own_change n p v (at_last_table _ q r _ t c u m b) z = record {
    when_idle = λ y. clash (cc);
    when_writing = λ y. clash (cc);
    when_returning = λ y. rebuilt_above Q.members h.last g p f Q.many q r v t c m (Q.held p (rw z Q.with_x));
    when_off = λ y. clash (cc);
  }
    where
      Q : Quorum f x h.last g
      Q = I.quorum
  own_change n p v (elsewhere _ _ d l k) z = absurd (d z)
  own_change n p v (unchanged _ _ e) z = rw e (of_x x g (Own h) p z I.own)

  pub own_next : (n : Note) (p : ℕ) (v : ViewNode) → Change f x g n p v → Own (after_note h n) (replaced g.node p v x)
  own_next n p v c = replaced_each (λ q w. q ≡ x → Own (after_note h n) w) g.node p v (own_change n p v c)
      (λ q d e. rw (others_quiet f x g h n p (tells f x g n p v c) (λ z. d (e ∙ sym z))) (of_x x g (Own h) q e I.own)) x refl

  -- one more Stored is counted, whether it is the f-th or not
  pub answered_more : (q i : ℕ) → CountsStored x g q i → (k : ℕ) → replaced (g.node x).counted q true k ≡ true
      → (k ≢ x) × Answered (replaced (g.node x).counted_under q i k) (g.node x).item (g.node k)
  answered_more q i c = replaced_both (λ k b j. b ≡ true → (k ≢ x) × Answered j (g.node x).item (g.node k))
      (g.node x).counted (g.node x).counted_under q true i
      (λ e. (c.not_own, rw c.present.present_item at (I.messages _ c.was_sent)))
      (λ k d. I.answered c.in_storing k)

  none_answered : (v : ViewNode) → BeginsStoring (g.node x) v → CountedAnswered x g v
  none_answered v b q m = absurd (false≢true (sym (b.none_counted q) ∙ m))

  answered_change : (n : Note) (p : ℕ) (v : ViewNode) → Change f x g n p v → p ≡ x → v.stage ≡ storing → CountedAnswered x g v
  answered_change n p v (at_write t _ e s b u a k) z st = none_answered v b
  answered_change n p v (at_retry _ d b u a k) z st = none_answered v b
  answered_change n p v (at_crash _ _ i u s k) z st = clash (cc)
  answered_change n p v (at_start _ _ i u s k c) z st = clash (cc)
  answered_change n p v (at_store _ i a k _ d m r l e) z st = absurd (d z)
  answered_change n p v (at_stored q i _ c w u s e e') z st = λ k m. rw (e', w.same_item) (answered_more q i c k (rw e at m))
  answered_change n p v (at_last_stored q i _ c w u s e e' y) z st = clash (cc)
  answered_change n p v (at_confirmed q _ c w u s e e' y) z st = clash (cc)
  answered_change n p v (at_last_confirmed q _ _ c m w u s r) z st = clash (cc)
  answered_change n p v (at_table _ q r _ t u s c m) z st = clash (cc)
  answered_change n p v (at_last_table _ q r _ t c u m b) z st = λ k j. absurd (false≢true (sym ((b z).none_counted k) ∙ j))
  answered_change n p v (elsewhere _ _ d l k) z st = absurd (d z)
  answered_change n p v (unchanged _ _ e) z st = rw e (of_x x g (λ w. w.stage ≡ storing → CountedAnswered x g w) p z I.answered (rw e at st))

  answered_forward : (g' : View) (v : ViewNode) → ((q : ℕ) → Forward (g.node q) (g'.node q)) → CountedAnswered x g v → CountedAnswered x g' v
  answered_forward g' v fw P q m = ((P q m).0, (fw q).still_answered (v.counted_under q) v.item (P q m).1)

  pub answered_next : (g' : View) (n : Note) (p : ℕ) (v : ViewNode) → Change f x g n p v → ((q : ℕ) → Forward (g.node q) (g'.node q))
      → (replaced g.node p v x).stage ≡ storing → CountedAnswered x g' (replaced g.node p v x)
  answered_next g' n p v c fw = replaced_each (λ q w. q ≡ x → w.stage ≡ storing → CountedAnswered x g' w) g.node p v
      (λ z st. answered_forward g' v fw (answered_change n p v c z st))
      (λ q d z. of_x x g (λ w. w.stage ≡ storing → CountedAnswered x g' w) q z (λ st. answered_forward g' (g.node x) fw (I.answered st))) x refl
