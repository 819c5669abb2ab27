-- `store_access::inbox::message` meets its contract: record r read at its place is record r of the list.
use borrow.Author.Tests.{eq-eqb, ne_eqb}
use Rattle.store.proofs.Lent.{right, record_in_lem}
use Rattle.store.specs.Sound.{message_at, message_in}
use Rattle.store.specs.Records.{right_length}
use lib.ListN.{length}
use Rattle.store_access.proofs.inbox.message.Goals as goal

pub returns-then-s-ne-LENGTH : goal.returns-then-s-ne-LENGTH
unfolding message_at right_length
returns-then-s-ne-LENGTH c = rw (ne_eqb (length c.args.s.now) 65280 c.if-s-ne-LENGTH.true)

pub returns-then-r-eq0 : goal.returns-then-r-eq0
unfolding message_at message_in
returns-then-r-eq0 c = let a = c.args in rw (right a.s.now c.if-s-ne-LENGTH.false, eq-eqb a.r 0 c.if-r-eq0.true)

pub returns : goal.returns
unfolding message_at message_in
returns c = let a = c.args in let l = c.if-s-ne-LENGTH.false in rw (c.read.ensures, c.group_size.ensures, right a.s.now l, ne_eqb a.r 0 c.if-r-eq0.false, record_in_lem a.s.now l a.r)
