-- A turn of the search for the record before one on a chain, and where it stops: what is left to do gives the answer.
-- And a record cleared before it is linked.
use Rattle.std.proofs.Common.{◌≡◌, ℕ, zero, suc, ◌-◌, ◌<◌, ◌≢◌, List, length, set, sym, refl, ap, ◌∙◌, arith, set-set, eq-eqb, ne_eqb}
use lib.Seq.{set_out}
use Rattle.endian.proofs.PartLaws.{by_order}
use Rattle.record.specs.Record.{with_next, no_record}
use Rattle.store.specs.Change.{with_next_in}
use Rattle.store.proofs.Locality.{set_same}
use Rattle.store.specs.Chain.{next_in, before_from}

module _ (rs : List (List ℕ)) (i next : ℕ) (en : next ≡ next_in rs i) where
  pub before_found : (left r : ℕ) → 0 < left → i ≢ 0 → next ≡ r → before_from left rs r i ≡ i
  unfolding before_from
  before_found left r h d e =
      let k : left ≡ suc (left - 1) = omega arith in
      ap (λ (m : ℕ). before_from m rs r i) k ∙ rw (ne_eqb i 0 d, ← en, eq-eqb next r e)

  pub before_turn : (left r : ℕ) → 0 < left → i ≢ 0 → next ≢ r → before_from left rs r i ≡ before_from (left - 1) rs r next
  unfolding before_from
  before_turn left r h d e =
      let k : left ≡ suc (left - 1) = omega arith in
      ap (λ (m : ℕ). before_from m rs r i) k ∙ rw (ne_eqb i 0 d, ← en, ne_eqb next r e)

pub before_end : (rs : List (List ℕ)) (i r left : ℕ) → i ≡ 0 → before_from left rs r i ≡ 0
unfolding before_from
before_end rs i r zero e = refl
before_end rs i r (suc left) e = rw (eq-eqb i 0 e)

pub before_out : (rs : List (List ℕ)) (i r left : ℕ) → left ≡ 0 → before_from left rs r i ≡ 0
unfolding before_from
before_out rs i r left e = ap (λ (m : ℕ). before_from m rs r i) e

pub clear_next : (rs : List (List ℕ)) (r next : ℕ) → with_next_in (set rs r no_record) r next ≡ set rs r (with_next no_record next)
unfolding with_next_in
clear_next rs r next =
    by_order (suc r) (length rs)
    (λ h. set-set rs r no_record _ ∙ ap (λ (q : List ℕ). set rs r (with_next q next)) (set_same rs r no_record h))
    (λ h. set-set rs r no_record _ ∙ set_out rs r _ (omega arith) ∙ sym (set_out rs r (with_next no_record next) (omega arith)))
