-- Laws of what holds of every message of a list, and what follows where two constructors are said to be equal.
use Prim.Native.Nat.{ℕ}
use native.Mathlib.Omega.{arith}
use mathlib.Core.Path.{◌≡◌, sym, subst}
use mathlib.Core.Logic.{◌⊎◌, inl, inr}
use mathlib.Core.Bool.{true}
use mathlib.Core.List.Memᴰ
use mathlib.Core.List.{List, [], ◌∷◌, ◌++◌, Memᴰ}
use Rattle.returns.specs.View.{fetching, ViewNode, ViewMessage, live, Each}

pub each_nil : (P : ViewMessage → Type 0) → Each P []
each_nil P m h = absurd (Memᴰ.not-nil h)

pub each_cons : (P : ViewMessage → Type 0) (a : ViewMessage) (l : List ViewMessage) → P a → Each P l → Each P (a ∷ l)
each_cons P a l h t m (Memᴰ.head e) = subst P (sym e) h
each_cons P a l h t m (Memᴰ.tail k) = t m k

pub each_append : (P : ViewMessage → Type 0) (s t : List ViewMessage) → Each P s → Each P t → Each P (s ++ t)
each_append P s t a b m h = go (Memᴰ.append_cases s h)
  where
    go : Memᴰ m s ⊎ Memᴰ m t → P m
    go (inl k) = a m k
    go (inr k) = b m k

-- two constructors are never equal: `cc` finds 0 ≡ 1 from facts that clash
pub clash : {B : Type 0} → ◌≡◌ {A = ℕ} 0 1 → B
clash e = absurd (omega arith)

pub live_not_fetching : (v : ViewNode) → live v.phase ≡ true → v.phase ≡ fetching → ⊥
live_not_fetching v l e = clash (cc)
