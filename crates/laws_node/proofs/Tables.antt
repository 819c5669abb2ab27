-- The merge of tables gives what came: an induction on the tables, one item more at the end.
use Prim.Native.Nat.{ℕ, max, ◌<◌}
use mathlib.Core.Path.{◌≡◌, refl, sym, subst, ◌∙◌}
use mathlib.Core.Bool.{Bool, true, false, cond, not, ◌&&◌, ◌||◌, or-false, or-true, or_assoc, true≢false, false≢true}
use mathlib.Core.List.{List, [], ◌∷◌, ◌++◌, append_assoc, append-nil}
use native.Mathlib.Omega.{arith}
use lib.Dec.{ltb, eqb}
use borrow.Author.Tests.{lt-ltb, le-ltb, eq-eqb, ne_eqb, ltb-true, ltb-false}
use Rattle.item.specs.Counter.{index_below}
use Rattle.item.specs.Item.{ranks_below, same_item, tags_agree}
use Rattle.item.specs.Row.{zero_row}
use Rattle.item.specs.declared.Item.{Item}
use Rattle.item.specs.declared.Row.{Row}
use Rattle.item.specs.declared.Tag.{Tag}
use Rattle.protocol.specs.Merge.{merge_row, marked_row}
use Rattle.laws_node.specs.Tables.{rank, top_rank, came, first_tag, other_tag, two_tags, came_row, merged_onto, merged_row, TablesMerged}

-- a proof by cases on a test
by_cases : {A : Type 0} (b : Bool) → (b ≡ true → A) → (b ≡ false → A) → A
by_cases true h k = h refl
by_cases false h k = k refl

-- one more item, at the end
top_last : (h : List Item) (x : Item) → top_rank (h ++ x ∷ []) ≡ max (top_rank h) (rank x)
unfolding top_rank
top_last [] x = omega arith
top_last (y ∷ h) x = omega (arith, top_last h x)

first_kept : (i : ℕ) (h : List Item) (x : Item) → came i h ≡ true → first_tag i (h ++ x ∷ []) ≡ first_tag i h
unfolding came first_tag
first_kept i [] x k = absurd (false≢true k)
first_kept i (y ∷ h) x k =
    by_cases (eqb (rank y) i)
    (λ e. rw e)
    (λ e. rw e (first_kept i h x (rw e at k)))

first_new : (i : ℕ) (h : List Item) (x : Item) → came i h ≡ false → rank x ≡ i → first_tag i (h ++ x ∷ []) ≡ x.tag
unfolding came first_tag
first_new i [] x k e = rw (eq-eqb (rank x) i e)
first_new i (y ∷ h) x k e =
    by_cases (eqb (rank y) i)
    (λ t. absurd (true≢false (rw t at k)))
    (λ t. rw t (first_new i h x (rw t at k) e))

other_last : (i : ℕ) (tag : Tag) (h : List Item) (x : Item)
    → other_tag i tag (h ++ x ∷ []) ≡ (other_tag i tag h || (eqb (rank x) i && not (tags_agree x.tag tag)))
unfolding other_tag
other_last i tag [] x = or-false (eqb (rank x) i && not (tags_agree x.tag tag))
other_last i tag (y ∷ h) x =
    rw (other_last i tag h x)
    (sym (or_assoc (eqb (rank y) i && not (tags_agree y.tag tag)) (other_tag i tag h) (eqb (rank x) i && not (tags_agree x.tag tag))))

-- an index above all that came has not come
above_absent : (i : ℕ) (h : List Item) → top_rank h < i → came i h ≡ false
unfolding top_rank came
above_absent i [] k = refl
above_absent i (y ∷ h) k = rw (ne_eqb (rank y) i (λ e. omega arith), above_absent i h (omega arith))

absent_other : (i : ℕ) (tag : Tag) (h : List Item) → came i h ≡ false → other_tag i tag h ≡ false
unfolding came other_tag
absent_other i tag [] k = refl
absent_other i tag (y ∷ h) k =
    by_cases (eqb (rank y) i)
    (λ t. absurd (true≢false (rw t at k)))
    (λ t. rw t (absent_other i tag h (rw t at k)))

-- the greatest index that came has come
top_came : (y : Item) (h : List Item) → came (top_rank (y ∷ h)) (y ∷ h) ≡ true
unfolding top_rank came
top_came y [] = rw (eq-eqb (rank y) (max (rank y) 0) (omega arith))
top_came y (z ∷ h) =
    by_cases (ltb (rank y) (top_rank (z ∷ h)))
    (λ t. let e : max (rank y) (top_rank (z ∷ h)) ≡ top_rank (z ∷ h) = omega (arith, ltb-true (rank y) (top_rank (z ∷ h)) t) in
    subst (λ (k : ℕ). came k (y ∷ z ∷ h) ≡ true) (sym e) (rw (top_came z h) (or-true (eqb (rank y) (top_rank (z ∷ h))))))
    (λ t. rw (eq-eqb (rank y) (max (rank y) (top_rank (z ∷ h))) (omega (arith, ltb-false (rank y) (top_rank (z ∷ h)) t))))

-- a row that is marked unless the tags agree
marked_unless : (row : Row) (agree : Bool) → cond agree row (marked_row row)
    ≡ record {
      item = row.item;
      incarnation = row.incarnation;
      attempt = row.attempt;
      marked = row.marked || not agree;
    }
marked_unless row true = rw or-false
marked_unless row false = rw or-true

-- the merge of one more item: above the greatest index, below it, or equal to it
module _ (h : List Item) (x : Item) where
  merge_above : top_rank h < rank x → merge_row false (came_row h) x ≡ came_row (h ++ x ∷ [])
  unfolding merge_row came_row two_tags ranks_below index_below tags_agree
  merge_above k =
      let top : max (top_rank h) (rank x) ≡ rank x = omega arith in
      let new = above_absent (rank x) h k in
      rw (
        lt-ltb (top_rank h) (rank x) k,
        top_last h x,
        top,
        first_new (rank x) h x new refl,
        other_last (rank x) x.tag h x,
        absent_other (rank x) x.tag h new,
        eq-eqb x.tag.0 x.tag.0 refl,
        eq-eqb (rank x) (rank x) refl,
      )

  module _ (k : came (top_rank h) h ≡ true) where
    merge_below : rank x < top_rank h → merge_row false (came_row h) x ≡ came_row (h ++ x ∷ [])
    unfolding merge_row came_row two_tags ranks_below index_below
    merge_below l =
        let top : max (top_rank h) (rank x) ≡ top_rank h = omega arith in
        rw (
          le-ltb (top_rank h) (rank x) (omega arith),
          lt-ltb (rank x) (top_rank h) l,
          top_last h x,
          top,
          first_kept (top_rank h) h x k,
          other_last (top_rank h) (first_tag (top_rank h) h) h x,
          ne_eqb (rank x) (top_rank h) (λ e. omega arith),
          or-false,
        )

    merge_equal : rank x ≡ top_rank h → merge_row false (came_row h) x ≡ came_row (h ++ x ∷ [])
    unfolding merge_row came_row two_tags ranks_below index_below same_item
    merge_equal e =
        let top : max (top_rank h) (rank x) ≡ top_rank h = omega arith in
        rw (
          le-ltb (top_rank h) (rank x) (omega arith),
          le-ltb (rank x) (top_rank h) (omega arith),
          top_last h x,
          top,
          first_kept (top_rank h) h x k,
          other_last (top_rank h) (first_tag (top_rank h) h) h x,
          eq-eqb (rank x) (top_rank h) e,
        )
        (marked_unless (came_row h) (tags_agree x.tag (first_tag (top_rank h) h)))

    merge_last : merge_row false (came_row h) x ≡ came_row (h ++ x ∷ [])
    merge_last =
        by_cases (ltb (top_rank h) (rank x))
        (λ t. merge_above (ltb-true (top_rank h) (rank x) t))
        (λ t. by_cases (ltb (rank x) (top_rank h))
        (λ u. merge_below (ltb-true (rank x) (top_rank h) u))
        (λ u. merge_equal (omega (arith, ltb-false (top_rank h) (rank x) t, ltb-false (rank x) (top_rank h) u))))

merged_onto_lem : (y : Item) (h items : List Item) → merged_onto (came_row (y ∷ h)) items ≡ came_row ((y ∷ h) ++ items)
unfolding merged_onto
merged_onto_lem y h [] = rw append-nil
merged_onto_lem y h (x ∷ items) =
    rw (merge_last (y ∷ h) x (top_came y h)) (merged_onto_lem y (h ++ x ∷ []) items ∙ rw append_assoc)

merge_first : (x : Item) → merge_row true zero_row x ≡ came_row (x ∷ [])
unfolding merge_row came_row two_tags top_rank first_tag other_tag tags_agree
merge_first x =
    let top : max (rank x) 0 ≡ rank x = omega arith in
    rw (top, eq-eqb (rank x) (rank x) refl, eq-eqb x.tag.0 x.tag.0 refl)

nothing_came : zero_row ≡ came_row []
unfolding came_row two_tags top_rank first_tag other_tag
nothing_came = refl

pub merged_came : (items : List Item) → merged_row items ≡ came_row items
unfolding merged_row
merged_came [] = nothing_came
merged_came (x ∷ items) = rw merge_first (merged_onto_lem x [] items)

pub tables_merged : TablesMerged
unfolding TablesMerged
tables_merged = merged_came
