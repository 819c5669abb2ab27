-- `outbox::outgoing::Sending::put_one` meets its contract: the message is put, or nothing is.
use mathlib.Core.Path.{sym, ◌∙◌}
use Rattle.outbox.proofs.Each.{put_none, put_some}
use Rattle.outbox.proofs.outgoing.Sending.put_one.Goals as goal

pub returns-in-Some : goal.returns-in-Some
returns-in-Some c = put_some c.args.s.now c.args.items _ (sym c.to.ensures ∙ c.in-Some.is) c.put.ensures

pub returns-in_default : goal.returns-in_default
returns-in_default c = put_none c.args.s.now c.args.items (sym c.to.ensures ∙ c.in_default.is)
