-- The ends of a record's message by its fields.
use Prim.Native.Nat.{ℕ}
use mathlib.Core.Path.{◌≡◌, refl, sym, ap, ◌∙◌}
use mathlib.Core.Bool.{true, false, false≢true}
use mathlib.Core.List.{List}
use Rattle.record.specs.Kind.{fields_of}
use Rattle.record.specs.declared.kinds.Fields.{Fields}
use Rattle.record.specs.Layout.{fields_in}
use Rattle.record.specs.Record.{read_record}
use Rattle.record_read.specs.Readable.{is_found, readable}
use Rattle.record_read.proofs.ReadableLaws.{fields_found}
use Rattle.record_read.specs.Ends.{ends_of}
use Rattle.record_read.specs.declared.endpoints.Ends.{Ends}
use Rattle.std.specs.Prelude.{None, Option, Some}
use Rattle.message.specs.declared.Envelope.{Envelope}

abbrev ends : Fields → Ends
ends f = record { sender = f.sender; addressee = f.addressee }

-- no message has no ends
pub ends_fault : (n : ℕ) (r : List ℕ) → readable n r ≡ false → ends_of (read_record n r) ≡ None
unfolding readable is_found ends_of
ends_fault n r = read (read_record n r)
  where
    read : (a : Option Envelope) → is_found a ≡ false → ends_of a ≡ None
    read None f = refl
    read (Some e) f = absurd (false≢true (sym f))

-- the ends of a message stand in its fields
pub ends_found : (n : ℕ) (r : List ℕ) (f : Fields) → readable n r ≡ true → f ≡ fields_in r → Some (ends f) ≡ ends_of (read_record n r)
unfolding readable is_found ends_of fields_of
ends_found n r f t e = read (read_record n r) refl t
  where
    read : (a : Option Envelope) → read_record n r ≡ a → is_found a ≡ true → Some (ends f) ≡ ends_of a
    read None q t = absurd (false≢true t)
    read (Some m) q t = ap (λ (g : Fields). Some (ends g)) (e ∙ sym (fields_found n r m q))
