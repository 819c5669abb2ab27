-- Laws of readable records: a record is readable exactly if its fields say a message and every byte after its rows is zero.
use Prim.Native.Nat.{ℕ, ◌+◌, ◌*◌, ◌≤◌}
use mathlib.Core.Path.{◌≡◌, refl, sym, ap, ◌∙◌}
use mathlib.Core.Bool.{Bool, true, false, false≢true}
use mathlib.Core.List.{List}
use native.Mathlib.Omega.{arith}
use lib.Dec.{eqb}
use lib.ListN.{length, drop}
use Rattle.item.specs.Maxima.{max_nodes}
use Rattle.item.proofs.Tests.{by_cond, and_left}
use Rattle.message.specs.declared.Message.{Message}
use Rattle.message.specs.declared.Message.TheVariants.{Store, Stored, Confirm, Confirmed, Fetch, Table}
use Rattle.message.specs.declared.Envelope.{Envelope}
use Rattle.endian.specs.Zero.{all_zero}
use Rattle.record.specs.Kind.{table_kind, kind_of, fields_of, message_of, rows_held, known_if}
use Rattle.record.specs.declared.kinds.Fields.{Fields}
use Rattle.record.specs.Layout.{record_size, rows_at, row_size, fields_in}
use Rattle.record.specs.Record.{read_record, read_as, zero_after_rows, envelope_of}
use Rattle.record.proofs.RoundTripLaws.{fields_again}
use Rattle.record_read.specs.Known.{is_known}
use Rattle.record_read.specs.Readable.{is_found, readable, rows_of_kind, zero_after_kind}
use Rattle.std.specs.Prelude.{None, Option, Some}

-- a test in the definition of the message that fields say
pub known_if_lem : (t : Bool) (m : Message) → is_known (known_if t m) ≡ t
unfolding is_known
known_if_lem true m = refl
known_if_lem false m = refl

pub rows_of_kind_most : (kind n : ℕ) → rows_of_kind kind n ≤ max_nodes
unfolding rows_of_kind
rows_of_kind_most kind n = by_cond (λ (k : ℕ). k ≤ max_nodes) (eqb kind table_kind) _ 0 (λ t. omega arith) (λ t. omega arith)

-- the rows of a message are those of its kind
rows_of_message : (m : Message) (n : ℕ) → rows_held m n ≡ rows_of_kind (kind_of m) n
unfolding rows_of_kind kind_of rows_held
rows_of_message (Store attempt item) n = refl
rows_of_message (Stored other attempt item) n = refl
rows_of_message (Confirm other attempt item) n = refl
rows_of_message (Confirmed other attempt item) n = refl
rows_of_message Fetch n = refl
rows_of_message (Table other) n = refl

-- and of the kind that it was read from
pub rows_read : (f : Fields) (m : Message) (n : ℕ) → message_of f ≡ Some m → rows_held m n ≡ rows_of_kind f.kind n
unfolding fields_of
rows_read f m n e = rows_of_message m n ∙ ap (λ (g : Fields). rows_of_kind g.kind n) (fields_again f m e)

module _ (n : ℕ) (r : List ℕ) where
  -- after the rows of the message in the fields stands what stands after those of its kind
  pub zero_read : (m : Message) → message_of (fields_in r) ≡ Some m → eqb (length r) record_size ≡ true → zero_after_kind n r ≡ zero_after_rows n m r
  unfolding zero_after_rows zero_after_kind fields_in
  zero_read m e l = rw l (ap (λ (k : ℕ). all_zero (drop (rows_at + k * row_size) r)) (sym (rows_read (fields_in r) m n e)))

  -- a byte after the rows: no message, whatever the fields say
  pub read_stray : zero_after_kind n r ≡ false → read_record n r ≡ None
  unfolding read_record read_as
  read_stray z =
      by_cond (λ (a : Option Envelope). a ≡ None) (eqb (length r) record_size) (read_as n (message_of (fields_in r)) r) None
      (λ l. said (message_of (fields_in r)) refl l)
      (λ l. refl)
    where
      said : (k : Option Message) → message_of (fields_in r) ≡ k → eqb (length r) record_size ≡ true → read_as n k r ≡ None
      said None e l = refl
      said (Some m) e l = rw (sym (zero_read m e l) ∙ z)

  pub readable_stray : zero_after_kind n r ≡ false → readable n r ≡ false
  unfolding readable is_found
  readable_stray z = ap is_found (read_stray z)

  -- the right length, where zeros were found after the rows
  pub zero_long : zero_after_kind n r ≡ true → eqb (length r) record_size ≡ true
  unfolding zero_after_kind
  zero_long z = and_left (eqb (length r) record_size) _ z

  -- zeros after the rows: a message exactly if the fields say one
  pub readable_known : zero_after_kind n r ≡ true → readable n r ≡ is_known (message_of (fields_in r))
  unfolding readable read_record is_found read_as is_known
  readable_known z = rw (zero_long z) (said (message_of (fields_in r)) refl)
    where
      said : (k : Option Message) → message_of (fields_in r) ≡ k → is_found (read_as n k r) ≡ is_known k
      said None e = refl
      said (Some m) e = rw (sym (zero_read m e (zero_long z)) ∙ z)

  -- ---- the message of a readable record has the record's own fields

  pub fields_found : (e : Envelope) → read_record n r ≡ Some e → fields_of e ≡ fields_in r
  unfolding read_record read_as is_found
  fields_found e =
      by_cond Again (eqb (length r) record_size) (read_as n (message_of (fields_in r)) r) None
      (λ l. said (message_of (fields_in r)) refl)
      (λ l. fault)
    where
      Again : Option Envelope → Type 0
      Again a = a ≡ Some e → fields_of e ≡ fields_in r

      fault : None ≡ Some e → fields_of e ≡ fields_in r
      fault q = absurd (false≢true (ap is_found q))

      said : (k : Option Message) → message_of (fields_in r) ≡ k → read_as n k r ≡ Some e → fields_of e ≡ fields_in r
      said None s = fault
      said (Some m) s =
          by_cond Again (zero_after_rows n m r) (Some (envelope_of (fields_in r) m)) None
          (λ z q. let p : e ≡ envelope_of (fields_in r) m = cc in ap fields_of p ∙ fields_again (fields_in r) m s)
          (λ z. fault)

  -- the message of a readable record
  pub record Holds : Type 0 where
    pub envelope : Envelope
    pub found : read_record n r ≡ Some envelope
    pub fields : fields_of envelope ≡ fields_in r

  pub holds : readable n r ≡ true → Holds
  unfolding readable is_found
  holds = read (read_record n r) refl
    where
      read : (a : Option Envelope) → read_record n r ≡ a → is_found a ≡ true → Holds
      read None q e = absurd (false≢true e)
      read (Some e) q t = record { envelope = e; found = q; fields = fields_found e q }
