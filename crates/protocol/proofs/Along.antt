-- Any point of a run. What holds of a network at first and is kept by every call holds before every call of a run and after
-- it, with the calls up to there. And the words on these calls, with one call more.
use Prim.Native.Nat.{ℕ}
use mathlib.Core.Path.{◌≡◌, refl, sym, ap, subst, ◌∙◌}
use mathlib.Core.List.{List, [], ◌∷◌, ◌++◌, append_assoc, append-nil}
use Rattle.item.specs.declared.Item.{Item}
use Rattle.returns.proofs.ViewLaws.{clash}
use Rattle.protocol.specs.Call.{Call, last_after, last_from, begun_at, begun_from}
use Rattle.protocol.specs.Network.{Network, Next, Run, end, then}

-- a call of a run, between the networks before and after it; of both K holds, with the calls up to there
pub record At (K : List Call → Network → Type 0) (before : List Call) (call : Call) : Type 0 where
  pub net : Network
  pub after : Network
  pub holds : K before net
  pub next : Next net call after
  pub holds_after : K (before ++ (call ∷ [])) after

no_call : (before : List Call) (call : Call) (after : List Call) → [] ≡ before ++ (call ∷ after) → ⊥
no_call [] call after e = clash (cc)
no_call (c ∷ before) call after e = clash (cc)

module _ (K : List Call → Network → Type 0)
    (keeps : (net net' : Network) (c : Call) (before : List Call) → K before net → Next net c net' → K (before ++ (c ∷ [])) net') where
  -- from a network that some calls have led to
  left_from : {net left : Network} {calls : List Call} → Run net calls left → (told : List Call) → K told net → K (told ++ calls) left
  left_from {net} end told k = subst (λ (l : List Call). K l net) (sym (append-nil told)) k
  left_from (then {net = net} {net' = net'} {left = left} {call = c} {calls = calls} s r) told k =
      subst (λ (l : List Call). K l left) (append_assoc told (c ∷ []) calls) (left_from r (told ++ (c ∷ [])) (keeps net net' c told k s))

  at_from : {net left : Network} {calls : List Call} → Run net calls left → (told : List Call) → K told net
      → (before : List Call) (call : Call) (after : List Call) → calls ≡ before ++ (call ∷ after) → At K (told ++ before) call
  at_from end told k before call after eq = absurd (no_call before call after eq)
  at_from (then {net = net} {net' = net'} {call = c} {calls = calls} s r) told k before call after eq =
      go before eq (λ b z. at_from r (told ++ (c ∷ [])) (keeps net net' c told k s) b call after z)
    where
      go : (b : List Call) → c ∷ calls ≡ b ++ (call ∷ after)
          → ((b' : List Call) → calls ≡ b' ++ (call ∷ after) → At K ((told ++ (c ∷ [])) ++ b') call) → At K (told ++ b) call
      go [] z later =
          let y : c ≡ call = cc in
          subst (At K (told ++ [])) y
          (subst (λ (l : List Call). At K l c) (sym (append-nil told))
          (record { net = net; after = net'; holds = k; next = s; holds_after = keeps net net' c told k s }))
      go (d ∷ b) z later =
          let w : calls ≡ b ++ (call ∷ after) = cc in
          let y : c ≡ d = cc in
          subst (λ (e : Call). At K (told ++ (e ∷ b)) call) y
          (subst (λ (l : List Call). At K l call) (append_assoc told (c ∷ []) b) (later b w))

  -- after all calls of a run
  pub along : {net left : Network} {calls : List Call} → Run net calls left → K [] net → K calls left
  along r k = left_from r [] k

  -- and at each of them
  pub at_call : {net left : Network} {calls : List Call} → Run net calls left → K [] net
      → (before : List Call) (call : Call) (after : List Call) → calls ≡ before ++ (call ∷ after) → At K before call
  at_call r k before call after eq = at_from r [] k before call after eq

-- ---- one call more

pub run_later : {net here there : Network} {calls : List Call} {c : Call} → Run net calls here → Next here c there → Run net (calls ++ (c ∷ [])) there
run_later end s = then s end
run_later (then s r) s' = then s (run_later r s')

pub last_later : (x : ℕ) (last : Item) (before : List Call) (c : Call) → last_from x last (before ++ (c ∷ [])) ≡ last_after x c (last_from x last before)
unfolding last_from
last_later x last [] c = refl
last_later x last (d ∷ before) c = last_later x (last_after x d last) before c

pub begun_later : (x : ℕ) (last : Item) (before : List Call) (c : Call)
    → begun_from x last (before ++ (c ∷ [])) ≡ begun_from x last before ++ begun_at x c.event c.answer (last_from x last before)
unfolding last_from begun_from
begun_later x last [] c = append-nil (begun_at x c.event c.answer last)
begun_later x last (d ∷ before) c =
    ap (λ (l : List Item). begun_at x d.event d.answer last ++ l) (begun_later x (last_after x d last) before c)
    ∙ sym (append_assoc (begun_at x d.event d.answer last) (begun_from x (last_after x d last) before) _)
