-- `outbox::outgoing::Sending::put_into` meets its contract. The invariant: the messages that are left give the answer.
use mathlib.Core.Path.{◌≡◌}
use Rattle.store.specs.Records.{on_records}
use Rattle.store.specs.Change.{put_each}
use Rattle.protocol.specs.Outgoing.{outgoing}
use Rattle.outbox.proofs.Places.{outgoing_left}
use Rattle.outbox.proofs.outgoing.Sending.put_into.Given as goal

abbrev pub invariant-loop-k : goal.invariant-loop-k
invariant-loop-k l = on_records (λ rs. put_each rs (outgoing_left l.self.node.now l.self.sends l.self.back l.k) l.items) l.s ≡ on_records (λ rs. put_each rs (outgoing l.self.node.now l.self.sends l.self.back) l.items) l.initial.s
