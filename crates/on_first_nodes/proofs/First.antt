-- The table of a group of n is the first n of the nodes held: where n is more than there are, all of them.
use Prim.Native.Nat.{ℕ}
use native.Mathlib.Omega.{arith}
use mathlib.Core.Path.{◌≡◌, refl, sym, ◌∙◌}
use mathlib.Core.List.{List, ◌++◌}
use lib.Dec.{ltb}
use lib.ListN.{length, take, drop, drop_of_length-le}
use lib.Seq.{take_all}
use borrow.Author.Tests.{ltb-false}
use Rattle.item.proofs.Tests.{by_cond}
use Rattle.operations.specs.Operation.{set_up, perform}
use Rattle.protocol.specs.declared.Answer.{Answer}
use Rattle.protocol.specs.declared.Event.{Event}
use Rattle.protocol.specs.declared.Node.{Node}
use Rattle.table.proofs.Given.{Gives}
use Rattle.script.specs.declared.Asked.{Asked}
use Rattle.script.specs.declared.Asked.TheVariants.{SetUp, Call}
use Rattle.script.specs.Operated.{asked_size, operated, operated_first, put_first}
use Rattle.on_first_nodes.specs.Lending.{first_nodes}

first_take : (n : ℕ) (nodes : List Node) → take (first_nodes n (length nodes)) nodes ≡ take n nodes
unfolding first_nodes
first_take n nodes =
    by_cond (λ k. take k nodes ≡ take n nodes) (ltb n (length nodes)) n (length nodes) (λ e. refl)
    (λ e. take_all (length nodes) nodes (omega arith) ∙ sym (take_all n nodes (omega (arith, ltb-false n (length nodes) e))))

first_drop : (n : ℕ) (nodes : List Node) → drop (first_nodes n (length nodes)) nodes ≡ drop n nodes
unfolding first_nodes
first_drop n nodes =
    by_cond (λ k. drop k nodes ≡ drop n nodes) (ltb n (length nodes)) n (length nodes) (λ e. refl)
    (λ e. drop_of_length-le nodes {i = length nodes} (omega arith) ∙ sym (drop_of_length-le nodes {i = n} (omega (arith, ltb-false n (length nodes) e))))

-- what is asked was done over as many nodes as there are for n
first_gives : (asked : Asked) (nodes : List Node) (store : List ℕ) (k : ℕ) (r : Answer) (l : List Node) (m : List ℕ)
    → k ≡ first_nodes (asked_size asked) (length nodes) → Gives (operated asked (take k nodes) store) r l m → Gives (operated_first asked nodes store) r (l ++ drop k nodes) m
unfolding operated_first put_first
first_gives asked nodes store k r l m f e =
    let t : take k nodes ≡ take (asked_size asked) nodes = rw f (first_take (asked_size asked) nodes) in
    let d : drop k nodes ≡ drop (asked_size asked) nodes = rw f (first_drop (asked_size asked) nodes) in
    let g : (x : List Node) → x ≡ take (asked_size asked) nodes → Gives (operated asked x store) r l m → (r ≡ (operated asked (take (asked_size asked) nodes) store).answer) × ((l ++ drop k nodes ≡ (operated asked (take (asked_size asked) nodes) store).table ++ drop (asked_size asked) nodes) × (m ≡ (operated asked (take (asked_size asked) nodes) store).store)) = λ x p h.
    (h.0 ∙ rw p, ((λ i. h.1.0 i ++ d i) ∙ rw p, h.1.1 ∙ rw p)) in
    g (take k nodes) t e

-- a set-up, and an event
pub set_up_gives : (asked : Asked) (nodes : List Node) (store : List ℕ) (k n : ℕ) (r : Answer) (l : List Node) (m : List ℕ) → asked ≡ SetUp n
    → k ≡ first_nodes n (length nodes) → Gives (set_up n (take k nodes) store) r l m → Gives (operated_first asked nodes store) r (l ++ drop k nodes) m
unfolding operated asked_size
set_up_gives asked nodes store k n r l m e f g = rw e (first_gives (SetUp n) nodes store k r l m f g)

pub call_gives : (asked : Asked) (nodes : List Node) (store : List ℕ) (k n : ℕ) (event : Event) (r : Answer) (l : List Node) (m : List ℕ) → asked ≡ Call n event
    → k ≡ first_nodes n (length nodes) → Gives (perform event (take k nodes) store) r l m → Gives (operated_first asked nodes store) r (l ++ drop k nodes) m
unfolding operated asked_size
call_gives asked nodes store k n event r l m e f g = rw e (first_gives (Call n event) nodes store k r l m f g)
