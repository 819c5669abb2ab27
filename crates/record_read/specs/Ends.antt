-- The sender and the addressee of the message in a record, where it is one.
use Rattle.record_read.specs.declared.endpoints.Ends.{Ends}
use Rattle.std.specs.Prelude.{None, Option, Some}
use Rattle.message.specs.declared.Envelope.{Envelope}

unfoldable pub ends_of : Option Envelope → Option Ends
ends_of None = None
ends_of (Some e) = Some (record { sender = e.sender; addressee = e.addressee })
