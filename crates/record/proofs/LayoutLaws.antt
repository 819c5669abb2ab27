-- Laws of the layout: how long each group of bytes is, and that groups written one after the other are one.
use Prim.Native.Nat.{ℕ, zero, suc, ◌+◌, ◌*◌, ◌≤◌, ◌<◌}
use mathlib.Core.Path.{◌≡◌, refl, sym, ap, ◌∙◌}
use mathlib.Core.List.{List, [], ◌∷◌, ◌++◌, map, append_assoc, append-nil}
use native.Mathlib.Omega.{arith}
use native.Mathlib.Numerals.{add-one}
use native.Mathlib.Nat.{suc-mul, not-suc-le-zero, le_of_suc-le-suc}
use lib.ListN.{length, take, get_or, set, length-append, length-map}
use lib.Seq.{length-take-le}
use Rattle.item.specs.Maxima.{max_nodes, tag_size}
use Rattle.item.specs.Item.{zero_item}
use Rattle.item.specs.declared.Item.{Item}
use Rattle.endian.specs.Part.{with_part}
use Rattle.endian.proofs.PartLaws.{with_joined, sets_is}
use Rattle.endian.specs.Number.{bytes, with_number}
use Rattle.endian.proofs.NumberLaws.{length_bytes}
use Rattle.record.specs.declared.kinds.Fields.{Fields}
pub use Rattle.message.proofs.RowsLaws.{length_padded, get_or_padded}
use Rattle.record.specs.Layout.{record_size, next_at, kind_at, address_at, incarnation_at, other_at, attempt_at, item_at, rows_at, index_size, row_size, fields_size, item_bytes, address_byte, field_bytes, rows_bytes, item_in, items_in, layout_bytes}

-- the length of an array of structs
pub length_mapped : {X Y : Type 0} (f : X → Y) (l : List X) (n : ℕ) → length (map f l) ≡ n → length l ≡ n
length_mapped f l n p = sym (length-map l f) ∙ p

pub length_item : (i : Item) → length (item_bytes i) ≡ row_size
unfolding item_bytes
length_item i = simp (length-append, length_bytes)

pub length_fields : (f : Fields) → length (field_bytes f) ≡ fields_size
unfolding field_bytes
length_fields f = simp (length-append, length_bytes, length_item)

pub length_rows : (items : List Item) → length (rows_bytes items) ≡ length items * row_size
unfolding rows_bytes
length_rows [] = refl
length_rows (i ∷ items) = simp (length-append, length_item, length_rows items, suc-mul) (omega arith)

-- ---- the writer

-- an index and then a tag are an item
pub with_item : (r : List ℕ) (at : ℕ) (i : Item) → at + row_size ≤ length r
    → with_number tag_size (with_number index_size r at i.index.0) (at + index_size) i.tag.0 ≡ with_part row_size r at (item_bytes i)
unfolding with_number item_bytes
with_item r at i h =
    with_joined index_size tag_size r at (bytes index_size i.index.0) (bytes tag_size i.tag.0) (length_bytes index_size i.index.0) (length_bytes tag_size i.tag.0) h

-- the fields, one after the other
pub with_fields : (r : List ℕ) (f : Fields) → record_size ≤ length r
    → with_part row_size
    (with_number 4 (with_number 4 (with_number 4 (set (set r kind_at f.kind) address_at (address_byte f.sender f.addressee))
    incarnation_at f.incarnation.0) other_at f.other.0) attempt_at f.attempt.0)
    item_at (item_bytes f.item)
    ≡ with_part fields_size r kind_at (field_bytes f)
unfolding with_number field_bytes
with_fields r f h =
    let x : List ℕ = f.kind ∷ address_byte f.sender f.addressee ∷ [] in
    let y₁ : List ℕ = bytes 4 f.incarnation.0 in
    let y₂ : List ℕ = bytes 4 f.other.0 in
    let y₃ : List ℕ = bytes 4 f.attempt.0 in
    let l₁ : length (x ++ y₁) ≡ 6 = ap (λ (n : ℕ). suc (suc n)) (length_bytes 4 f.incarnation.0) in
    let l₂ : length ((x ++ y₁) ++ y₂) ≡ 10 = length-append (x ++ y₁) y₂ ∙ (λ i. l₁ i + length_bytes 4 f.other.0 i) in
    let l₃ : length (((x ++ y₁) ++ y₂) ++ y₃) ≡ 14 = length-append ((x ++ y₁) ++ y₂) y₃ ∙ (λ i. l₂ i + length_bytes 4 f.attempt.0 i) in
    rw (sets_is x r kind_at (omega arith)) (
    rw (with_joined 2 4 r kind_at x y₁ refl (length_bytes 4 f.incarnation.0) (omega arith)) (
    rw (with_joined 6 4 r kind_at (x ++ y₁) y₂ l₁ (length_bytes 4 f.other.0) (omega arith)) (
    rw (with_joined 10 4 r kind_at ((x ++ y₁) ++ y₂) y₃ l₂ (length_bytes 4 f.attempt.0) (omega arith)) (
    rw (with_joined 14 row_size r kind_at (((x ++ y₁) ++ y₂) ++ y₃) (item_bytes f.item) l₃ (length_item f.item) (omega arith))
    (ap (with_part fields_size r kind_at) (simp append_assoc))))))

-- one row more, as a loop over them goes
pub rows_more : (items : List Item) (j : ℕ) → j < length items
    → rows_bytes (take (suc j) items) ≡ rows_bytes (take j items) ++ item_bytes (get_or items j zero_item)
unfolding rows_bytes
rows_more [] j h = absurd (not-suc-le-zero h)
rows_more (i ∷ items) zero h = append-nil (item_bytes i)
rows_more (i ∷ items) (suc j) h =
    ap (λ (l : List ℕ). item_bytes i ++ l) (rows_more items j (le_of_suc-le-suc h))
    ∙ sym (append_assoc (item_bytes i) (rows_bytes (take j items)) (item_bytes (get_or items j zero_item)))

pub with_rows_more : (r : List ℕ) (items : List Item) (j : ℕ) → record_size ≤ length r → length items ≡ max_nodes → j < max_nodes
    → with_part row_size (with_part (j * row_size) r rows_at (rows_bytes (take j items))) (rows_at + j * row_size) (item_bytes (get_or items j zero_item))
    ≡ with_part ((j + 1) * row_size) r rows_at (rows_bytes (take (j + 1) items))
with_rows_more r items j hr hi h =
    let lj : length (rows_bytes (take j items)) ≡ j * row_size = length_rows (take j items) ∙ ap (λ (n : ℕ). n * row_size) (length-take-le j items (omega arith)) in
    let e : (j + 1) * row_size ≡ j * row_size + row_size = omega arith in
    with_joined (j * row_size) row_size r rows_at (rows_bytes (take j items)) (item_bytes (get_or items j zero_item)) lj (length_item (get_or items j zero_item)) (omega arith)
    ∙ rw (e, add-one j, rows_more items j (omega arith))

-- next, fields and rows are the whole record
pub with_groups : (r : List ℕ) (next : ℕ) (f : Fields) (items : List Item) → record_size ≤ length r → length items ≡ max_nodes
    → with_part (max_nodes * row_size) (with_part fields_size (with_number 2 r next_at next) kind_at (field_bytes f)) rows_at (rows_bytes items)
    ≡ with_part record_size r next_at (layout_bytes next f items)
unfolding with_number
with_groups r next f items hr hi =
    let lr : length (rows_bytes items) ≡ max_nodes * row_size = length_rows items ∙ ap (λ (n : ℕ). n * row_size) hi in
    let l : length (bytes 2 next ++ field_bytes f) ≡ rows_at = length-append (bytes 2 next) (field_bytes f) ∙ (λ i. length_bytes 2 next i + length_fields f i) in
    rw (with_joined 2 fields_size r 0 (bytes 2 next) (field_bytes f) (length_bytes 2 next) (length_fields f) (omega arith)) (
    rw (with_joined rows_at (max_nodes * row_size) r 0 (bytes 2 next ++ field_bytes f) (rows_bytes items) l lr (omega arith))
    (ap (with_part record_size r next_at) (append_assoc (bytes 2 next) (field_bytes f) (rows_bytes items))))

pub length_layout : (next : ℕ) (f : Fields) (items : List Item) → length items ≡ max_nodes → length (layout_bytes next f items) ≡ record_size
length_layout next f items h = simp (length-append, length_bytes, length_fields, length_rows, h)

-- ---- the reader

pub length_items : (m : ℕ) (r : List ℕ) (at : ℕ) → length (items_in m r at) ≡ m
unfolding items_in
length_items zero r at = refl
length_items (suc m) r at = ap suc (length_items m r (at + row_size))

pub get_or_items : (m : ℕ) (r : List ℕ) (at j : ℕ) → j < m → get_or (items_in m r at) j zero_item ≡ item_in r (at + j * row_size)
unfolding items_in
get_or_items zero r at j h = absurd (not-suc-le-zero h)
get_or_items (suc m) r at zero h = ap (item_in r) (omega arith)
get_or_items (suc m) r at (suc j) h = get_or_items m r (at + row_size) j (le_of_suc-le-suc h) ∙ ap (item_in r) (omega arith)
