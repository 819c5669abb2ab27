-- A sound store (document 01): "n is valid, the head is zero where said above, every record from 1 stands once on exactly
-- one chain (free or inbox), free records are zero after next, and inbox records are readable with sender below n, not
-- the addressee, and addressee the inbox's owner". One pass follows every chain, and at its end every record was passed.
use Rattle.std.specs.Prelude.{ℕ, zero, suc, Bool, true, false, cond, not, ◌&&◌, List, [], ◌∷◌, eqb, ltb, length, replicate, set, None, Option, Some}
use Rattle.item.specs.Maxima.{valid_size}
use Rattle.record.specs.Record.{read_record, zero_after_next}
use Rattle.store.specs.Records.{right_length, records_of, record_in}
use Rattle.store.specs.Head.{first_free, group_size, first_of, head_zero}
use Rattle.store.specs.Chain.{walk}
use Rattle.store.specs.declared.Survey.{Survey}
use Rattle.store.specs.declared.Walked.{Walked}
use Rattle.message.specs.declared.Envelope.{Envelope}

-- "readable with sender below n, not the addressee, and addressee the inbox's owner"
unfoldable pub addressed_to : ℕ → ℕ → Option Envelope → Bool
addressed_to n owner None = false
addressed_to n owner (Some e) =
    ltb e.sender n && (not (eqb e.sender e.addressee) && eqb e.addressee owner)

unfoldable pub belongs_to : ℕ → ℕ → List ℕ → Bool
belongs_to n owner r = addressed_to n owner (read_record n r)

-- the inboxes of the nodes from k on, `left` of them, one after the other
unfoldable pub walk_inboxes : ℕ → ℕ → List (List ℕ) → ℕ → Option Walked → Option Walked
walk_inboxes zero n rs k w = w
walk_inboxes (suc left) n rs k None = None
walk_inboxes (suc left) n rs k (Some w) =
    walk_inboxes left n rs (suc k) (walk (belongs_to n k) (length rs) rs (first_of rs k) w.passed 0)

-- every record is passed
unfoldable pub all_passed : List Bool → Bool
all_passed [] = true
all_passed (p ∷ ps) = p && all_passed ps

-- before any chain is followed only the head counts as passed
unfoldable pub head_passed : ℕ → List Bool
head_passed count = set (replicate count false) 0 true

-- the free chain
unfoldable pub walk_free : List (List ℕ) → Option Walked
walk_free rs = walk zero_after_next (length rs) rs (first_free rs) (head_passed (length rs)) 0

-- every chain ended well, and no record was left out
unfoldable pub all_on_chains : Option Walked → Bool
all_on_chains None = false
all_on_chains (Some w) = all_passed w.passed

unfoldable pub sound_records : List (List ℕ) → Bool
sound_records rs =
    valid_size (group_size rs) &&
    (head_zero rs && all_on_chains (walk_inboxes (group_size rs) (group_size rs) rs 0 (walk_free rs)))

-- whether bytes are a sound store
unfoldable pub sound_store : List ℕ → Bool
sound_store s = right_length s && sound_records (records_of s)

-- how many records the last chain has
unfoldable pub last_count : Option Walked → ℕ
last_count None = 0
last_count (Some w) = w.count

-- how many records are free
unfoldable pub free_count : List (List ℕ) → ℕ
free_count rs = last_count (walk_free rs)

-- the message in record r: on an inbox chain of a sound store exactly the records 1 and up that read as one
unfoldable pub message_in : List (List ℕ) → ℕ → Option Envelope
message_in rs r = cond (eqb r 0) None (read_record (group_size rs) (record_in rs r))

-- and of bytes that may be no store
unfoldable pub message_at : List ℕ → ℕ → Option Envelope
message_at s r = cond (right_length s) (message_in (records_of s) r) None

-- what one pass finds: of an unsound store nothing but that
unfoldable pub survey_of : List (List ℕ) → Option Survey
survey_of rs = cond (sound_records rs) (Some (record { n = group_size rs; free = free_count rs })) None

unfoldable pub survey : List ℕ → Option Survey
survey s = cond (right_length s) (survey_of (records_of s)) None
