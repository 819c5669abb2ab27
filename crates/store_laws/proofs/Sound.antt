-- Records as put and drop need them, and that those of a sound store are so.
use Prim.Native.Nat.{ℕ, ◌^◌, ◌≤◌, ◌<◌}
use mathlib.Core.Path.{◌≡◌}
use mathlib.Core.Bool.{true}
use mathlib.Core.List.{List, [], ◌∷◌}
use native.Mathlib.Omega.{arith}
use native.Mathlib.Nat.{not-suc-le-zero}
use lib.Dec.{leb}
use borrow.Author.Tests.{leb-true}
use lib.ListN.{length}
use Rattle.item.specs.Maxima.{max_nodes, valid_size}
use Rattle.item.proofs.Tests.{and_left, and_right}
use Rattle.record.specs.Layout.{record_size}
use Rattle.store.specs.Records.{record_in, records_of, right_length}
use Rattle.store.specs.Head.{group_size}
use Rattle.store.specs.Sound.{sound_records, sound_store}
use Rattle.store.proofs.Joined.{Sized, records_count, records_sized}

-- sound, of the size of a record, and with numbers that two bytes can say
pub record Sound (rs : List (List ℕ)) : Type 0 where
  pub is_sound : sound_records rs ≡ true
  pub sized : Sized record_size rs
  pub few : length rs ≤ 256 ^ 2

pub store_right : (s : List ℕ) → sound_store s ≡ true → right_length s ≡ true
unfolding sound_store
store_right s e = and_left (right_length s) (sound_records (records_of s)) e

-- those of a sound store are
pub store_sound : (s : List ℕ) → sound_store s ≡ true → Sound (records_of s)
unfolding sound_store
store_sound s e =
    record {
      is_sound = and_right (right_length s) (sound_records (records_of s)) e;
      sized = records_sized s (store_right s e);
      few = omega (arith, records_count s);
    }

-- ---- the head

pub size_least : (n : ℕ) → valid_size n ≡ true → 3 ≤ n
unfolding valid_size
size_least n v = leb-true 3 n (and_left (leb 3 n) _ v)

pub size_most : (n : ℕ) → valid_size n ≡ true → n ≤ max_nodes
unfolding valid_size
size_most n v = leb-true n max_nodes (and_left (leb n max_nodes) _ (and_right (leb 3 n) _ v))

-- where there is a group there is a head
pub head_long : (rs : List (List ℕ)) → Sized record_size rs → 0 < group_size rs → length (record_in rs 0) ≡ record_size
unfolding Sized group_size record_in
head_long [] s h = absurd (not-suc-le-zero h)
head_long (r ∷ rs) s h = s 0 (omega arith)
