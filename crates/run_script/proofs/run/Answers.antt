-- `run_script::run` meets its contract: the script is one piece, and what it leaves to print is the unended last line.
use Prim.Native.Nat.{ℕ, ◌+◌, ◌-◌, ◌*◌, ◌≤◌, ◌<◌}
use native.Mathlib.Omega.{arith}
use mathlib.Core.Path.{◌≡◌, sym, ◌∙◌}
use lib.ListN.{take, replicate}
use borrow.Author.Tests.{leb-true, leb-false}
use borrow.Author.Rules.{rules}
use Rattle.item.proofs.Tests.{granted}
use Rattle.record.specs.Layout.{record_size}
use Rattle.store.specs.Records.{record_count}
use Rattle.run_script.proofs.ScriptLaws.{first_of_replicate, none_left, cut_short, ended, unended}
use Rattle.run_script.proofs.run.Goals as goal

-- the store that is lent holds zeros
store-zeros : take (record_count * record_size) (replicate {A = ℕ} (record_count * record_size + 8) 0) ≡ replicate (record_count * record_size) 0
store-zeros = first_of_replicate (record_count * record_size) (record_count * record_size + 8) 0 (omega arith)

itself : (n : ℕ) → n ≤ n
itself n = omega arith

sum_fits : (at r part n k : ℕ) → at ≤ n → r ≤ part → part ≡ n - at → n ≡ k → k < 18446744073709551616 → at + r < 18446744073709551616
sum_fits at r part n k w h e same fits = omega arith

pub returns-then-fed-script : goal.returns-then-fed-script
returns-then-fed-script c = cut_short _ _ _ _ _ _ _ _ c.feed-fed.ensures c.start.ensures store-zeros c.if-fed-script.true c.well_formed.0.0

pub returns-then-pending-eq0 : goal.returns-then-pending-eq0
returns-then-pending-eq0 c = ended _ _ _ _ _ _ _ _ c.feed-fed.ensures c.start.ensures store-zeros c.out-1.given c.well_formed.1.0.0 c.if-fed-script.false c.if-pending-eq0.true

pub returns-then-not-has_room : goal.returns-then-not-has_room
returns-then-not-has_room c = none_left _ _ _ _ _ _ _ _ c.feed-fed.ensures c.start.ensures store-zeros (leb-false _ _ (sym c.has_room.ensures ∙ search rules))

pub slice_bounds-finish-count : goal.slice_bounds-finish-count
slice_bounds-finish-count c = c.feed-fed.ensures.within.1

pub overflow_add-result : goal.overflow_add-result
overflow_add-result c =
    let fed = c.feed-fed.ensures in
    let lent = c.out-2-1.given.0 ∙ c.finish-arg-1.given.2 in
    record { fits = sum_fits _ _ _ _ _ fed.within.1 c.finish.ensures.upper_bound lent c.out-1.given c.well_formed.1.0.0 }

pub returns : goal.returns
returns c =
    let last = c.finish in
    let back = c.out-2-1.given in
    let good = c.well_formed in
    unended _ _ _ _ _ _ _ _ c.feed-fed.ensures c.start.ensures store-zeros last.new.out last.result
    c.out-1.given
    good.1.0.0
    good.0.0
    c.if-fed-script.false
    c.if-pending-eq0.false
    (leb-true _ _ (granted c.has_room.ensures (search rules)))
    c.finish-arg-1.given.2
    back.0
    back.1
    last.ensures.upper_bound
    last.ensures.out_after
