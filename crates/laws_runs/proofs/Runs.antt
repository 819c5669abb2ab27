-- The laws of runs: set-up makes table and store sound, every event keeps them so, and so no call is refused with 2 or 3.
use Prim.Native.Nat.{ℕ, zero, suc, ◌≤◌}
use native.Mathlib.Omega.{arith}
use mathlib.Core.Path.{◌≡◌, refl, sym, ap, subst, ◌∙◌}
use mathlib.Core.Logic.{◌⊎◌, inl, inr}
use mathlib.Core.Bool.{true}
use mathlib.Core.List.Memᴰ
use mathlib.Core.List.{List, [], ◌∷◌, Memᴰ}
use lib.ListN.{length}
use borrow.Author.Tests.{eq-eqb}
use Rattle.item.specs.Maxima.{max_nodes, valid_size}
use Rattle.item.specs.Row.{zero_row}
use Rattle.item.proofs.Tests.{and_both}
use Rattle.store.specs.Change.{empty_records}
use Rattle.store.proofs.Joined.{records_joined}
use Rattle.store.proofs.Locality.{length_empty, empty_sized}
use Rattle.store.specs.Records.{record_count, records_of, joined}
use Rattle.store.specs.Sound.{sound_records, sound_store}
use Rattle.store_laws.proofs.Empty.{set_up_done}
use Rattle.protocol.specs.Answer.{refusal_number}
use Rattle.operations.specs.Claim.{TagsFit}
use Rattle.protocol.specs.Node.{blank_node, fresh_node, write_ended, count_peers}
use Rattle.operations.specs.Operation.{Result, set_up, perform}
use Rattle.protocol.specs.Call.{Call}
use Rattle.operations.specs.Run.{call_of, calls, left}
use Rattle.protocol.specs.Sound.{every_from, row_use, row_sound, attempt_fits, phase_counts, stage_counts, counted_asked, sound_node}
use Rattle.protocol.specs.Table.{no_node, fresh_nodes, fresh_table, sound_table}
use Rattle.protocol.specs.declared.Answer.TheVariants as answer
use Rattle.protocol.specs.declared.Event.{Event}
use Rattle.protocol.specs.declared.Node.{Node}
use Rattle.protocol.specs.declared.Refusal.{Refusal}
use Rattle.protocol.specs.declared.RowUse.TheVariants as row_uses
use Rattle.protocol.specs.Shaped.{Shaped}
use Rattle.protocol.proofs.Grouped.{each_fresh}
use Rattle.protocol.proofs.InView.{size_fits}
use Rattle.protocol.proofs.Shapes.{fresh_shaped}
use Rattle.operations.proofs.Start.{SetUpTo, set_up_is, first_represents}
use Rattle.operations.proofs.Represents.{Represents}
use Rattle.laws_node.proofs.Every.{every_same}
use Rattle.laws_node.proofs.Soundly.{is_sound, none_sound}
use Rattle.laws_node.proofs.SoundRows.{zero_sound}
use Rattle.laws_runs.specs.Laws.{are_sound, SoundGroup, LeavesSound, SetUpIsSound, SoundStaysSound, RunsStaySound, NeverUnsound}
use Rattle.laws_runs.proofs.Bytes.{empty_records_bytes, joined_bytes}
use Rattle.laws_runs.proofs.Keeps.{performed_is, performs}
use Rattle.laws_runs.proofs.Numbers.{Above, on_sound_above}

-- ---- set-up

fresh_node_lem : (n k : ℕ) → sound_node n k (fresh_node k n) ≡ true
unfolding fresh_node write_ended blank_node attempt_fits row_use phase_counts stage_counts count_peers counted_asked
fresh_node_lem n k =
    is_sound n k _ (record {
      number_is = refl;
      size_is = refl;
      attempt_fits = refl;
      rows_sound = every_same (row_sound row_uses.Stored n) zero_row (zero_sound row_uses.Stored n) max_nodes 0;
      counted_sound = none_sound k n;
      asked_sound = none_sound k n;
      counts_fit = refl;
      among = refl;
    })

fresh_length : (n k count : ℕ) → length (fresh_nodes n k count) ≡ count
unfolding fresh_nodes
fresh_length n k zero = refl
fresh_length n k (suc count) = ap suc (fresh_length n (suc k) count)

fresh_every : (n k count : ℕ) → every_from (sound_node n) k (fresh_nodes n k count) ≡ true
unfolding fresh_nodes every_from
fresh_every n k zero = refl
fresh_every n k (suc count) = and_both (fresh_node_lem n k) (fresh_every n (suc k) count)

fresh_table_lem : (n : ℕ) → sound_table n (fresh_table n) ≡ true
unfolding sound_table fresh_table
fresh_table_lem n = and_both (eq-eqb (length (fresh_nodes n 0 n)) n (fresh_length n 0 n)) (fresh_every n 0 n)

no_node_shaped : Shaped no_node
unfolding no_node blank_node
no_node_shaped = record { rows_length = refl; counted_length = refl; asked_length = refl }

fresh_sound : (n : ℕ) → valid_size n ≡ true → SoundGroup n (fresh_table n) (joined (empty_records record_count n))
unfolding are_sound sound_store
fresh_sound n v =
    let S : Represents n (fresh_table n) (joined (empty_records record_count n)) [] = first_represents n in
    let e : records_of (joined (empty_records record_count n)) ≡ empty_records record_count n
    = records_joined (empty_records record_count n) (length_empty record_count n) (empty_sized record_count n) in
    let most : n ≤ max_nodes = size_fits n v in
    record {
      size = S.store_of.size;
      sound = and_both (and_both S.store_of.right (ap sound_records e ∙ (set_up_done n v).sound.is_sound))
          (subst (λ (i : ℕ). sound_table i (fresh_table n) ≡ true) (sym S.store_of.size) (fresh_table_lem n));
      within = record {
        shaped = each_fresh Shaped n (λ k. fresh_shaped k n) no_node_shaped;
        fit = S.fit;
        bytes = joined_bytes (empty_records record_count n) (empty_records_bytes record_count n (omega arith));
      };
    }

pub set_up_is_sound : SetUpIsSound
unfolding SetUpIsSound
set_up_is_sound n table store ok =
    let U : SetUpTo n (set_up n table store) = set_up_is n table store ok in
    rw (U.table_is, U.store_is) (fresh_sound n U.valid)

-- ---- every operation

pub sound_stays_sound : SoundStaysSound
unfolding SoundStaysSound
sound_stays_sound n table store G e t = performs n table store G e t

-- ---- runs

stays : (n : ℕ) (events : List Event) → TagsFit events → (result : Result) → LeavesSound n result → LeavesSound n (left result events)
unfolding left TagsFit
stays n [] t result G = G
stays n (e ∷ events) t result G =
    stays n events t.1 (perform e result.table result.store) (performs n result.table result.store G e t.0)

pub runs_stay_sound : RunsStaySound
unfolding RunsStaySound SetUpIsSound
runs_stay_sound n table store ok events t = stays n events t (set_up n table store) (set_up_is_sound n table store ok)

module _ (n : ℕ) where
  performed_above : (e : Event) (table : List Node) (store : List ℕ) → SoundGroup n table store → Above (perform e table store)
  performed_above e table store G = subst Above (sym (performed_is n table store G e)) (on_sound_above table store (records_of store) e)

  never : (events : List Event) → TagsFit events → (table : List Node) (store : List ℕ) → SoundGroup n table store → (call : Call)
      → Memᴰ call (calls table store events) → (why : Refusal) → call.answer ≡ answer.Refused why → 4 ≤ refusal_number why
  unfolding calls call_of TagsFit
  never [] t table store G call m = absurd (Memᴰ.not-nil m)
  never (e ∷ events) t table store G call m =
      go
      (never events t.1 (perform e table store).table (perform e table store).store (performs n table store G e t.0) call)
      (Memᴰ.cases_cons m)
    where
      go : (Memᴰ call (calls (perform e table store).table (perform e table store).store events)
          → (why : Refusal) → call.answer ≡ answer.Refused why → 4 ≤ refusal_number why)
          → (call ≡ call_of e table store) ⊎ Memᴰ call (calls (perform e table store).table (perform e table store).store events)
          → (why : Refusal) → call.answer ≡ answer.Refused why → 4 ≤ refusal_number why
      go r (inl z) why q = performed_above e table store G why (sym (ap (λ (c : Call). c.answer) z) ∙ q)
      go r (inr k) why q = r k why q

pub never_unsound : NeverUnsound
unfolding NeverUnsound SetUpIsSound
never_unsound n table store ok events t call m why q =
    let h : 4 ≤ refusal_number why
    = never n events t (set_up n table store).table (set_up n table store).store (set_up_is_sound n table store ok) call m why q in
    ((λ z. omega arith), (λ z. omega arith))
