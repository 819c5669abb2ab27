-- `store_check::check_records` meets its contract: each way out by one law of `Passing`.
use Rattle.std.proofs.Common.{ap, sym, ◌∙◌, None}
use Rattle.store.specs.Records.{records_of}
use Rattle.store.specs.Sound.{walk_inboxes, all_on_chains, last_count}
use Rattle.store_check.proofs.Passing.{survey_size, survey_head, survey_is, free_is, inboxes_stop}
use Rattle.store_check.proofs.check_records.Goals as goal

pub returns-then-not-valid_size : goal.returns-then-not-valid_size
returns-then-not-valid_size c = sym (survey_size (records_of c.args.s.now) c.group_size-n.result c.group_size-n.ensures c.if-not-valid_size.ensures)

pub returns-then-not-head_zero : goal.returns-then-not-head_zero
returns-then-not-head_zero c =
    sym (survey_head (records_of c.args.s.now) c.group_size-n.result c.group_size-n.ensures c.if-not-valid_size.ensures c.if-not-head_zero.ensures)

pub returns-in_err-free : goal.returns-in_err-free
unfolding all_on_chains
returns-in_err-free c =
    let s = c.args.s.now in
    let rs = records_of s in
    let n = c.group_size-n in
    let free = free_is s _ _ _ c.first_free.ensures c.head_passed-passed.ensures c.in_err-free.ensures in
    c.from_residual.ensures
    ∙ sym (survey_is rs n.result n.ensures None c.if-not-valid_size.ensures c.if-not-head_zero.ensures
    (sym (inboxes_stop n.result n.result rs 0) ∙ ap (walk_inboxes n.result n.result rs 0) free))

pub returns-in_err-follow_inboxes : goal.returns-in_err-follow_inboxes
unfolding all_on_chains
returns-in_err-follow_inboxes c =
    let s = c.args.s.now in
    let rs = records_of s in
    let n = c.group_size-n in
    let free = free_is s _ _ _ c.first_free.ensures c.head_passed-passed.ensures c.in_ok-free.ensures in
    c.from_residual-in_err-follow_inboxes.ensures
    ∙ sym (survey_is rs n.result n.ensures None c.if-not-valid_size.ensures c.if-not-head_zero.ensures
    (c.in_err-follow_inboxes.ensures ∙ ap (walk_inboxes n.result n.result rs 0) free))

pub returns-then-not-all_passed : goal.returns-then-not-all_passed
unfolding all_on_chains
returns-then-not-all_passed c =
    let s = c.args.s.now in
    let rs = records_of s in
    let n = c.group_size-n in
    let free = free_is s _ _ _ c.first_free.ensures c.head_passed-passed.ensures c.in_ok-free.ensures in
    sym (survey_is rs n.result n.ensures _ c.if-not-valid_size.ensures c.if-not-head_zero.ensures
    (c.in_ok-follow_inboxes.ensures ∙ ap (walk_inboxes n.result n.result rs 0) free)
    ∙ rw (← c.if-not-all_passed.ensures))

pub returns : goal.returns
unfolding all_on_chains last_count
returns c =
    let s = c.args.s.now in
    let rs = records_of s in
    let n = c.group_size-n in
    let free = free_is s _ _ _ c.first_free.ensures c.head_passed-passed.ensures c.in_ok-free.ensures in
    sym (survey_is rs n.result n.ensures _ c.if-not-valid_size.ensures c.if-not-head_zero.ensures
    (c.in_ok-follow_inboxes.ensures ∙ ap (walk_inboxes n.result n.result rs 0) free)
    ∙ rw (← c.if-not-all_passed.ensures, ← free))
