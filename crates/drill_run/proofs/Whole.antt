-- A piece taken turn by turn: what was printed so far, and what is still to come of the piece.
use Prim.Native.Nat.{ℕ, suc, ◌+◌, ◌^◌, ◌<◌}
use native.Mathlib.Omega.{arith}
use mathlib.Core.Path.{◌≡◌, refl, sym, ap, subst, ◌∙◌}
use mathlib.Core.Logic.{◌⊎◌, inl, inr}
use mathlib.Core.List.{List, [], ◌++◌, append_assoc}
use lib.ListN.{length, take, drop, length-drop}
use lib.Seq.{drop-drop, drop-length}
use Rattle.answers.specs.Output.{line_room}
use Rattle.drill_state.specs.Feeding.{progress_output, line_feeds, Taken}
use Rattle.drill_state.specs.declared.Progress.{Progress}
use Rattle.drill_run.specs.Whole.{TakenWhole}

-- the first `from` bytes of a piece were taken
pub record TakenTo (piece : List ℕ) (before : Progress) (store_before : List ℕ) (from : ℕ) (after : Progress) (store : List ℕ) : Type 0 where
  pub printed : List ℕ
  pub output : (rest : List ℕ) → progress_output before store_before (piece ++ rest) ≡ printed ++ progress_output after store (drop from piece ++ rest)

pub none_taken : (piece : List ℕ) (before : Progress) (store : List ℕ) → TakenTo piece before store 0 before store
none_taken piece before store = record { printed = []; output = λ rest. refl }

module _ {piece : List ℕ} {before : Progress} {store_before : List ℕ} {from : ℕ} {progress : Progress} {store : List ℕ}
    (T : TakenTo piece before store_before from progress store) {next at : ℕ} {out : List ℕ} {after : Progress} {store' : List ℕ}
    (S : Taken (drop from piece) progress store next at out after store') where
  -- one turn more
  pub more_taken : TakenTo piece before store_before (from + next) after store'
  more_taken =
      record {
        printed = T.printed ++ take at out;
        output = λ rest.
            T.output rest ∙ ap (λ (l : List ℕ). T.printed ++ l) (S.output rest)
            ∙ ap (λ (l : List ℕ). T.printed ++ (take at out ++ progress_output after store' (l ++ rest))) (drop-drop next from piece)
            ∙ sym (append_assoc T.printed (take at out) _);
      }

  -- a turn that took nothing of what was left
  pub stopped_there : next ≡ 0 → from < length piece → (room : ℕ) → length out ≡ room → TakenWhole piece before store_before room after store'
  stopped_there z less room same =
      record {
        printed = more_taken.printed;
        left = drop (from + next) piece;
        output = more_taken.output;
        ended = inr (go S.ended);
      }
    where
      -- no line was ended
      same_count : after.count ≡ progress.count
      same_count =
          omega (arith, subst (λ (k : ℕ). after.count + line_feeds (drop k (drop from piece)) ≡ progress.count + line_feeds (drop from piece)) z S.counted.lines)

      go : (next ≡ length (drop from piece)) ⊎ ((length out < at + line_room) ⊎ (suc after.count ≡ 2 ^ 64))
          → (room < line_room) ⊎ (suc after.count ≡ 2 ^ 64)
      go (inl e) = absurd (omega (arith, e, z, length-drop from piece, less))
      go (inr (inl l)) = inl (omega (arith, l, S.counted.room, same_count, same))
      go (inr (inr e)) = inr e

-- nothing is left
pub all_taken : {piece : List ℕ} {before : Progress} {store_before : List ℕ} {from : ℕ} {after : Progress} {store : List ℕ}
    → TakenTo piece before store_before from after store → from ≡ length piece → (room : ℕ) → TakenWhole piece before store_before room after store
all_taken {piece = piece} {from = from} T h room =
    record { printed = T.printed; left = drop from piece; output = T.output; ended = inl (subst (λ (k : ℕ). drop k piece ≡ []) (sym h) (drop-length piece)) }
