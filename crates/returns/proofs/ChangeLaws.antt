-- A change of the view, stated by what it leaves.
use Prim.Native.Nat.{ℕ}
use mathlib.Core.Path.{◌≡◌, refl, sym, subst}
use mathlib.Core.Logic.{◌≢◌}
use mathlib.Core.List.{List, ◌++◌}
use Rattle.std.proofs.Math.Path.{fun_ext}
use Rattle.returns.specs.History.{Note}
use Rattle.returns.specs.View.{ViewNode, ViewMessage, View, Each}
use Rattle.returns.specs.Change.{MaySend, Change, Next, did}
use Rattle.returns.proofs.ReplaceLaws.{replaced_each}

-- `did`, where the nodes afterwards are given as a function that differs at p alone
pub did_at : (f x : ℕ) (g : View) (n : Note) (p : ℕ) (node' : ℕ → ViewNode) (ms : List ViewMessage)
    → ((q : ℕ) → q ≢ p → node' q ≡ g.node q) → Change f x g n p (node' p) → Each (MaySend x g p (node' p)) ms
    → Next f x g n (record { node = node'; sent = ms ++ g.sent })
did_at f x g n p node' ms others c e =
    subst (λ (h : ℕ → ViewNode). Next f x g n (record { node = h; sent = ms ++ g.sent }))
    (fun_ext (replaced_each (λ q w. w ≡ node' q) g.node p (node' p) refl (λ q d. sym (others q d)))) (did c e)
