-- An accepted set-up: table and store represent a network in which nothing was sent.
use Prim.Native.Nat.{ℕ, ◌-◌}
use native.Mathlib.Omega.{arith}
use mathlib.Core.Path.{◌≡◌, refl, sym, ap, subst, ◌∙◌}
use mathlib.Core.Bool.{true, ◌&&◌}
use mathlib.Core.List.{List, []}
use lib.Dec.{eqb}
use lib.ListN.{length}
use Rattle.item.specs.Maxima.{valid_size}
use Rattle.item.proofs.Tests.{by_cond, and_left}
use Rattle.returns.proofs.ViewLaws.{clash}
use Rattle.store.specs.Change.{empty_records}
use Rattle.store.specs.Head.{group_size}
use Rattle.store.proofs.Joined.{records_joined, joined_right}
use Rattle.store.proofs.Locality.{length_empty, empty_sized, empty_size, empty_reads}
use Rattle.store.specs.Records.{record_count, right_length, records_of, joined}
use Rattle.protocol.specs.Node.{blank_node, fresh_node}
use Rattle.operations.specs.Operation.{Result, set_up, refuse}
use Rattle.protocol.specs.Table.{no_node, fresh_table}
use Rattle.protocol.specs.declared.Answer.TheVariants as answer
use Rattle.protocol.specs.declared.Node.{Node}
use Rattle.operations.specs.Fits.{NodeFits}
use Rattle.operations.proofs.Fitting.{blank_fits, ended_fits}
use Rattle.protocol.proofs.Grouped.{each_fresh}
use Rattle.operations.proofs.Inbox.{no_fault}
use Rattle.operations.proofs.Represents.{AllSent, Represents}

-- an accepted set-up: a valid group, all nodes fresh, all records free
pub record SetUpTo (n : ℕ) (result : Result) : Type 0 where
  pub valid : valid_size n ≡ true
  pub table_is : result.table ≡ fresh_table n
  pub store_is : result.store ≡ joined (empty_records record_count n)

pub set_up_is : (n : ℕ) (table : List Node) (store : List ℕ) → (set_up n table store).answer ≡ answer.Ok → SetUpTo n (set_up n table store)
unfolding set_up refuse
set_up_is n table store =
    by_cond (λ (r : Result). r.answer ≡ answer.Ok → SetUpTo n r) (valid_size n && eqb (length table) n) _ _
    (λ v. by_cond (λ (r : Result). r.answer ≡ answer.Ok → SetUpTo n r) (right_length store) _ _
    (λ _ _. record { valid = and_left (valid_size n) (eqb (length table) n) v; table_is = refl; store_is = refl })
    (λ _ e. clash (cc)))
    (λ _ e. clash (cc))

-- ---- the nodes

fresh_fits : (k n : ℕ) → NodeFits (fresh_node k n)
unfolding fresh_node
fresh_fits k n = ended_fits (blank_node k n (record { 0 = 1 })) (blank_fits k n (record { 0 = 1 }) (omega arith))

no_node_fits : NodeFits no_node
unfolding no_node
no_node_fits = blank_fits 0 0 (record { 0 = 0 }) (omega arith)

-- ---- table and store

pub first_represents : (n : ℕ) → Represents n (fresh_table n) (joined (empty_records record_count n)) []
first_represents n =
    let rs : List (List ℕ) = empty_records record_count n in
    let e : records_of (joined rs) ≡ rs = records_joined rs (length_empty record_count n) (empty_sized record_count n) in
    record {
      store_of = record {
        right = joined_right rs (length_empty record_count n) (empty_sized record_count n);
        size = ap group_size e ∙ empty_size (record_count - 1) n;
      };
      fit = each_fresh NodeFits n (λ k. fresh_fits k n) no_node_fits;
      all_sent = subst (AllSent n []) (sym e) (λ r d c h. absurd (no_fault c _ h (empty_reads record_count n r d n)));
    }
