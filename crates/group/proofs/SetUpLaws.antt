-- What the definitions of specs/SetUp give in each case, and that with the nodes filled in they are the protocol's set-up.
use Prim.Native.Nat.{ℕ, ◌*◌, ◌%◌}
use mathlib.Core.Path.{◌≡◌, refl, sym, ap, ◌∙◌}
use mathlib.Core.Logic.{◌≢◌}
use mathlib.Core.Bool.{Bool, true, false, ◌&&◌}
use mathlib.Core.List.{List}
use native.Mathlib.Omega.{arith}
use borrow.Author.Tests.{eq-eqb, ne_eqb, eqb-true}
use lib.Dec.{eqb}
use lib.ListN.{length}
use Rattle.item.specs.Maxima.{valid_size}
use Rattle.item.proofs.Tests.{and_right}
use Rattle.record.specs.Layout.{record_size}
use Rattle.store.specs.Records.{record_count, right_length, joined, on_records}
use Rattle.store.proofs.Lent.{unchanged}
use Rattle.store.specs.Change.{empty_records, set_up}
use Rattle.operations.specs.Operation as whole
use Rattle.protocol.specs.declared.Answer.TheVariants as answer
use Rattle.protocol.specs.declared.Node.{Node}
use Rattle.protocol.specs.declared.Refusal.TheVariants.{GroupSize, StoreLength}
use Rattle.protocol.proofs.InView.{size_fits}
use Rattle.table.specs.Fill.{fresh_to}
use Rattle.table.proofs.FillLaws.{fresh_all}
use Rattle.group.specs.SetUp.{prepared, prepared_store}
use Rattle.std.specs.Prelude.{Result, Ok, Err}
use Rattle.protocol.specs.declared.Answer.{Answer}
use Rattle.protocol.specs.declared.Refusal.{Refusal}

module _ (n nodes : ℕ) (store : List ℕ) where
  -- what `group::preparing::prepare` ensures
  abbrev Prepares : Result Unit Refusal → List ℕ → Type 0
  Prepares p s = (p ≡ prepared n nodes store) × (s ≡ prepared_store n nodes store)

  pub size_wrong : valid_size n ≡ false → Prepares (Err GroupSize) store
  unfolding prepared prepared_store
  size_wrong v = (rw v, rw v)

  pub nodes_wrong : valid_size n ≡ true → nodes ≢ n → Prepares (Err GroupSize) store
  unfolding prepared prepared_store
  nodes_wrong v d = (rw (v, ne_eqb nodes n d), rw (v, ne_eqb nodes n d))

  pub length_wrong : valid_size n ≡ true → nodes ≡ n → length store ≢ record_count * record_size → Prepares (Err StoreLength) store
  unfolding prepared prepared_store right_length
  length_wrong v e d =
      (rw (v, eq-eqb nodes n e, ne_eqb (length store) (record_count * record_size) d), rw (v, eq-eqb nodes n e) (unchanged (λ (rs : List (List ℕ)). empty_records record_count n) store d))

  -- n stands in one byte
  one_byte : valid_size n ≡ true → n % 256 ≡ n
  one_byte v = omega (arith, size_fits n v)

  pub all_right : (s : List ℕ) → valid_size n ≡ true → nodes ≡ n → length store ≡ record_count * record_size → s ≡ set_up n store → Prepares (Ok tt) s
  unfolding prepared prepared_store right_length set_up
  all_right s v e l d = (
    rw (v, eq-eqb nodes n e, eq-eqb (length store) (record_count * record_size) l),
    d ∙ ap (λ (k : ℕ). on_records (λ _. empty_records record_count k) store) (one_byte v) ∙ rw (v, eq-eqb nodes n e),
  )

module _ (n : ℕ) (table : List Node) (store : List ℕ) where
  abbrev after : Result Unit Refusal → List ℕ → whole.Result
  after (Ok done) m = record { answer = answer.Ok; table = fresh_to n table n; store = m }
  after (Err why) m = record { answer = answer.Refused why; table = table; store = m }

  -- as the code does it
  abbrev filled : whole.Result
  filled = after (prepared n (length table) store) (prepared_store n (length table) store)

  filled_wrong : (valid_size n && eqb (length table) n) ≡ false → filled ≡ whole.set_up n table store
  unfolding prepared prepared_store whole.set_up whole.refuse
  filled_wrong p = rw p

  filled_length : (valid_size n && eqb (length table) n) ≡ true → right_length store ≡ false → filled ≡ whole.set_up n table store
  unfolding prepared prepared_store whole.set_up whole.refuse on_records
  filled_length p r = rw (p, r)

  filled_right : (valid_size n && eqb (length table) n) ≡ true → right_length store ≡ true → filled ≡ whole.set_up n table store
  unfolding prepared prepared_store whole.set_up on_records
  filled_right p r =
      rw (p, r)
      (λ i. record { answer = answer.Ok; table = fresh_all n table (eqb-true (length table) n (and_right (valid_size n) (eqb (length table) n) p)) i; store = joined (empty_records record_count n) })

  filled_at : (v r : Bool) → (valid_size n && eqb (length table) n) ≡ v → right_length store ≡ r → filled ≡ whole.set_up n table store
  filled_at false r p q = filled_wrong p
  filled_at true false p q = filled_length p q
  filled_at true true p q = filled_right p q

  after_store : (r : Result Unit Refusal) (m : List ℕ) → (after r m).store ≡ m
  after_store (Ok done) m = refl
  after_store (Err why) m = refl

  -- what `group::preparing::set_up` ensures, from what `prepare` gives
  pub set_up_gives : (d : Result Unit Refusal) (a : Answer) (l : List Node) (m : List ℕ) → d ≡ prepared n (length table) store → m ≡ prepared_store n (length table) store
      → a ≡ (after d m).answer → l ≡ (after d m).table
      → (a ≡ (whole.set_up n table store).answer) × ((l ≡ (whole.set_up n table store).table) × (m ≡ (whole.set_up n table store).store))
  set_up_gives d a l m ed em ea el =
      let o : after d m ≡ whole.set_up n table store = (λ i. after (ed i) (em i)) ∙ filled_at (valid_size n && eqb (length table) n) (right_length store) refl refl in
      (ea ∙ ap (λ (r : whole.Result). r.answer) o, (el ∙ ap (λ (r : whole.Result). r.table) o, sym (after_store d m) ∙ ap (λ (r : whole.Result). r.store) o))
