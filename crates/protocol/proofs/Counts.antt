-- How many peers a node has counted, against the count of flags that the relation uses. A list is counted from the front;
-- from n on nobody is counted, so its whole length counts as the group does.
use Prim.Native.Nat.{ℕ, zero, suc, ◌+◌, ◌≤◌, ◌<◌}
use native.Mathlib.Omega.{arith}
use native.Mathlib.Decide.{dec_lt}
use mathlib.Core.Path.{◌≡◌, refl, ap, ◌∙◌}
use mathlib.Core.Bool.{Bool, true, false, cond}
use mathlib.Core.Logic.{◌≢◌}
use mathlib.Core.List.{List, [], ◌∷◌}
use lib.ListN.{length, get_or, set, replicate, length-set, get_or-eq_default}
use lib.Seq.{get_or-set_same, get_or-set_other}
use Rattle.std.proofs.lemmas.List.Sums.{sum_by-cons}
use borrow.Author.Tests.{ltb-true}
use Rattle.item.specs.Maxima.{max_nodes}
use Rattle.item.proofs.Tests.{by_cond, and_left, and_right}
use Rattle.item.specs.declared.counters.Incarnation.{Incarnation}
use Rattle.returns.specs.Majority.{bit, count}
use Rattle.returns.specs.Replace.{replaced}
use Rattle.returns.proofs.ReplaceLaws.{replaced_other, seen_set}
use Rattle.returns.proofs.MajorityLaws.{count_first, count_beyond}
use Rattle.protocol.specs.Node.{no_peer, no_peers, peer_under, incarnation_if_present, peer_of, count_peers}
use Rattle.protocol.specs.Sound.{every_from, peer_sound, peers_sound}
use Rattle.protocol.specs.declared.Peer.{Peer}
use Rattle.std.specs.Prelude.{Option, Some, None, is_some, unwrap_or}

-- who is present, as flags, and under which incarnation
abbrev pub present : List Peer → ℕ → Bool
present peers q = is_some (peer_of peers q)

abbrev pub under_of : Option Incarnation → ℕ
under_of peer = (unwrap_or peer (record { 0 = 0 })).0

abbrev pub under : List Peer → ℕ → ℕ
under peers q = under_of (peer_of peers q)

-- one more is present
pub present_set : (peers : List Peer) (q : ℕ) (i : Incarnation) → q < length peers
    → present (set peers q (peer_under i)) ≡ replaced (present peers) q true
unfolding peer_of
present_set peers q i l = seen_set (λ (p : Peer). is_some (incarnation_if_present p)) no_peer peers q (peer_under i) l

pub under_set : (peers : List Peer) (q : ℕ) (i : Incarnation) → q < length peers
    → under (set peers q (peer_under i)) ≡ replaced (under peers) q i.0
unfolding peer_of
under_set peers q i l = seen_set (λ (p : Peer). under_of (incarnation_if_present p)) no_peer peers q (peer_under i) l

pub peer_set_same : (peers : List Peer) (q : ℕ) (i : Incarnation) → q < length peers → peer_of (set peers q (peer_under i)) q ≡ Some i
unfolding peer_of
peer_set_same peers q i l = ap (λ (p : Peer). incarnation_if_present p) (get_or-set_same peers q (peer_under i) no_peer l)

pub peer_set_other : (peers : List Peer) (q k : ℕ) (i : Incarnation) → k ≢ q → peer_of (set peers q (peer_under i)) k ≡ peer_of peers k
unfolding peer_of
peer_set_other peers q k i d = ap (λ (p : Peer). incarnation_if_present p) (get_or-set_other peers q k (peer_under i) no_peer d)

-- where the list is only absent peers, nobody is present
absent_replicated : (m q : ℕ) (p : Peer) → get_or (replicate m p) q p ≡ p
absent_replicated zero q p = refl
absent_replicated (suc m) zero p = refl
absent_replicated (suc m) (suc q) p = absent_replicated m q p

pub none_present : (q : ℕ) → present no_peers q ≡ false
unfolding peer_of
none_present q = ap (λ (p : Peer). is_some (incarnation_if_present p)) (absent_replicated max_nodes q no_peer)

-- an incarnation is given of one that is present, and of no other
pub some_present : (p : Peer) → is_some (incarnation_if_present p) ≡ p.present
some_present p = go p.present
  where
    go : (b : Bool) → is_some (cond b (Some p.incarnation) None) ≡ b
    go true = refl
    go false = refl

-- a peer more in front
pub count_more : (p : Peer) (peers : List Peer) → count_peers (p ∷ peers) ≡ cond p.present 1 0 + count_peers peers
unfolding count_peers
count_more p peers = omega (arith, sum_by-cons (λ (q : Peer). cond q.present 1 0) p peers)

bit_cond : (b : Bool) → cond b 1 0 ≡ bit b
bit_cond true = refl
bit_cond false = refl

-- counting the list is counting its flags
pub count_peers_lem : (peers : List Peer) → count_peers peers ≡ count (present peers) (length peers)
unfolding peer_of count count_peers
count_peers_lem [] = refl
count_peers_lem (p ∷ peers) =
    omega (
      arith,
      count_first (present (p ∷ peers)) (length peers),
      count_more p peers,
      bit_cond p.present,
      ap bit (some_present p),
      count_peers_lem peers,
    )

-- a count of zero: nobody is present
bit_zero : (b : Bool) → bit b ≡ 0 → b ≡ false
bit_zero true e = absurd (omega arith)
bit_zero false e = refl

count_zero : (a : ℕ → Bool) (m : ℕ) → count a m ≡ 0 → (q : ℕ) → q < m → a q ≡ false
unfolding count
count_zero a zero e q l = absurd (omega arith)
count_zero a (suc m) e q l = go (dec_lt q m) (λ d. count_zero a m (omega arith) q d)
  where
    go : Dec (q < m) → (q < m → a q ≡ false) → a q ≡ false
    go (yes d) r = r d
    go (no d) r = let s : q ≡ m = omega arith in rw s (bit_zero (a m) (omega arith))

pub nobody_present : (peers : List Peer) → count_peers peers ≡ 0 → (q : ℕ) → present peers q ≡ false
unfolding peer_of
nobody_present peers e q = go (dec_lt q (length peers))
  where
    go : Dec (q < length peers) → present peers q ≡ false
    go (yes d) = count_zero (present peers) (length peers) (omega (arith, count_peers_lem peers)) q d
    go (no d) = ap (λ (p : Peer). is_some (incarnation_if_present p)) (get_or-eq_default peers no_peer (omega arith))

-- a sound list has nobody from n on
absent_peer : (number n k : ℕ) (peer : Peer) → peer_sound number n k peer ≡ true → n ≤ k → is_some (incarnation_if_present peer) ≡ false
unfolding peer_sound
absent_peer number n k peer e l = some_present peer ∙ by_cond (λ t. t ≡ true → peer.present ≡ false) peer.present _ _
    (λ p h. let below : k < n = search (and_left, ltb-true) in absurd (omega arith)) (λ p h. p) e

absent_from : (number n k : ℕ) (peers : List Peer) → every_from (peer_sound number n) k peers ≡ true
    → (q : ℕ) → n ≤ k + q → is_some (incarnation_if_present (get_or peers q no_peer)) ≡ false
unfolding every_from
absent_from number n k [] e q l = refl
absent_from number n k (peer ∷ peers) e zero l =
    absent_peer number n k peer (and_left _ (every_from (peer_sound number n) (suc k) peers) e) (omega arith)
absent_from number n k (peer ∷ peers) e (suc q) l =
    absent_from number n (suc k) peers (and_right (peer_sound number n k peer) _ e) q (omega arith)

pub absent_beyond : (number n : ℕ) (peers : List Peer) → peers_sound number n peers ≡ true → (q : ℕ) → n ≤ q → present peers q ≡ false
unfolding peers_sound peer_of
absent_beyond number n peers e q l = absent_from number n 0 peers e q (omega arith)

-- with one more of the group present, the list's count is the group's
pub count_group : (n : ℕ) (peers : List Peer) → ((q : ℕ) → n ≤ q → present peers q ≡ false) → n ≤ length peers
    → (q : ℕ) (i : Incarnation) → q < n → count_peers (set peers q (peer_under i)) ≡ count (replaced (present peers) q true) n
count_group n peers absent fits q i l =
    count_peers_lem (set peers q (peer_under i)) ∙ rw (length-set peers q (peer_under i), present_set peers q i (omega arith))
    (count_beyond (replaced (present peers) q true) n (length peers) fits
    (λ k m. replaced_other (present peers) q true k (λ (d : k ≡ q). omega arith) ∙ absent k m))
