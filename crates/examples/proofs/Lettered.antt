-- The lettered examples hold: A to D by what Set up looks at, the others followed on the table and the messages sent, by
-- computation.
use mathlib.Core.Path.{◌≡◌, refl}
use native.Mathlib.Omega.{arith}
use mathlib.Core.Bool.{true}
use mathlib.Core.List.{List, [], ◌∷◌}
use lib.ListN.{drop}
use Rattle.item.specs.Maxima.{valid_size}
use Rattle.protocol.specs.Network.{Packet}
use Rattle.protocol.specs.Table.{fresh_table}
use Rattle.protocol.specs.declared.Event.{Event}
use Rattle.examples.specs.Said.{Said, ok, stops_at, gives, w, c, s, d}
use Rattle.examples.specs.Lettered.{Sent, item, store, table, holding, told, lettered, AllHold, LetteredExamples}
use Rattle.examples.proofs.Fits.{fits}
use Rattle.examples.proofs.Followed.{answered}
use Rattle.examples.proofs.Contents.{packet, holds_none, holds_one_more}
use Rattle.examples.proofs.Opened.{following}
use Rattle.examples.proofs.SetUp.{drilled, not_valid, short, one_short}
use Rattle.examples.proofs.Trace.{saying, trace}

-- ---- E to H: after `n 3`

e_says : trace 3 (fresh_table 3) [] (d 1 ∷ []) ≡ saying (gives 8 ∷ [])
unfolding following
e_says = refl

f_says : trace 3 (fresh_table 3) [] (w 0 65 ∷ w 0 65 ∷ []) ≡ saying (ok ∷ gives 5 ∷ [])
unfolding following
f_says = refl

g_says : trace 3 (fresh_table 3) [] (s 0 ∷ []) ≡ saying (gives 5 ∷ [])
unfolding following
g_says = refl

h_says : trace 3 (fresh_table 3) [] (w 0 65 ∷ d 1 ∷ d 3 ∷ d 3 ∷ []) ≡ saying (ok ∷ ok ∷ ok ∷ gives 9 ∷ [])
unfolding following
h_says = refl

-- ---- I and J: the store holds two messages

abbrev both : Sent → Sent → List Packet
both first second = packet 3 second.envelope second.rows ∷ packet 3 first.envelope first.rows ∷ []

module _ (first second : Sent) (fit : fits 3 first.envelope first.rows ≡ true) (fit' : fits 3 second.envelope second.rows ≡ true) where
  told_both : (events : List Event) {l : List Said} → trace 3 (fresh_table 3) (both first second) events ≡ saying l → told first second events ≡ l
  unfolding told holding valid_size
  told_both events e =
      let one = holds_one_more (holds_none 3 refl) first.envelope first.rows fit (omega arith) in
      let two = holds_one_more one second.envelope second.rows fit' (omega arith) in
      answered two (fresh_table 3) events e

i_holds : told (store 1 (item 1 66)) (store 1 (item 1 65)) (d 1 ∷ d 2 ∷ []) ≡ ok ∷ gives 13 ∷ []
unfolding following
i_holds = told_both (store 1 (item 1 66)) (store 1 (item 1 65)) refl refl (d 1 ∷ d 2 ∷ []) refl

j_stops : told (table 1 (item 7 1)) (table 2 (item 7 2)) (c 0 ∷ s 0 ∷ d 1 ∷ d 2 ∷ []) ≡ ok ∷ ok ∷ ok ∷ stops_at 0 ∷ []
unfolding following
j_stops = told_both (table 1 (item 7 1)) (table 2 (item 7 2)) refl refl (c 0 ∷ s 0 ∷ d 1 ∷ d 2 ∷ []) refl

j_goes_on : told (table 1 (item 7 1)) (table 2 (item 6 2)) (c 0 ∷ s 0 ∷ d 1 ∷ d 2 ∷ []) ≡ ok ∷ ok ∷ ok ∷ ok ∷ []
unfolding following
j_goes_on = told_both (table 1 (item 7 1)) (table 2 (item 6 2)) refl refl (c 0 ∷ s 0 ∷ d 1 ∷ d 2 ∷ []) refl

-- ---- the list

pub lettered_examples : LetteredExamples
unfolding LetteredExamples lettered AllHold valid_size trace
lettered_examples nodes bytes many right =
    let a = drilled 3 (nodes 3) bytes (many 3) refl right [] refl in
    let b = not_valid 4 (nodes 4) bytes (many 4) refl in
    let c = drilled 15 (nodes 15) bytes (many 15) refl right [] refl in
    let c' = not_valid 17 (nodes 17) bytes (many 17) refl in
    let d = short 3 (nodes 3) (drop 1 bytes) (many 3) refl (one_short bytes right) in
    let e = drilled 3 (nodes 3) bytes (many 3) refl right _ e_says in
    let f = drilled 3 (nodes 3) bytes (many 3) refl right _ f_says in
    let g = drilled 3 (nodes 3) bytes (many 3) refl right _ g_says in
    let h = drilled 3 (nodes 3) bytes (many 3) refl right _ h_says in
    (a, (b, (c, (c', (d, (e, (f, (g, (h, (i_holds, (j_stops, (j_goes_on, tt))))))))))))
