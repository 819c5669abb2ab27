-- Output lines of document 01, computed from the definitions.
use mathlib.Core.Path.{◌≡◌, refl}
use mathlib.Core.List.{[], ◌∷◌}
use Rattle.script.specs.Digits.{digits_of, decimal_of}
use Rattle.protocol.specs.declared.Answer.TheVariants.{Ok, Settled, Accepted, Refused}
use Rattle.protocol.specs.declared.Refusal.TheVariants.{Stale}
use Rattle.answers.specs.Output.{tag_bytes, item_bytes, answer_bytes, reply_bytes, output_line}
use Rattle.std.specs.Prelude.{Some, None}

-- `6 settled 1 65`, `16 accepted 1 65`
settled : output_line 6 (Some (Settled (record { index = record { 0 = 1 }; tag = record { 0 = 65 } })))
    ≡ 54 ∷ 32 ∷ 115 ∷ 101 ∷ 116 ∷ 116 ∷ 108 ∷ 101 ∷ 100 ∷ 32 ∷ 49 ∷ 32 ∷ 54 ∷ 53 ∷ 10 ∷ []
unfolding output_line reply_bytes answer_bytes item_bytes tag_bytes decimal_of digits_of
settled = refl

accepted : output_line 16 (Some (Accepted (record { index = record { 0 = 1 }; tag = record { 0 = 65 } })))
    ≡ 49 ∷ 54 ∷ 32 ∷ 97 ∷ 99 ∷ 99 ∷ 101 ∷ 112 ∷ 116 ∷ 101 ∷ 100 ∷ 32 ∷ 49 ∷ 32 ∷ 54 ∷ 53 ∷ 10 ∷ []
unfolding output_line reply_bytes answer_bytes item_bytes tag_bytes decimal_of digits_of
accepted = refl

-- `1 ok`, `2 refused 10`, `3 unread`
ok_line : output_line 1 (Some Ok) ≡ 49 ∷ 32 ∷ 111 ∷ 107 ∷ 10 ∷ []
unfolding output_line reply_bytes answer_bytes decimal_of digits_of
ok_line = refl

refused_line : output_line 2 (Some (Refused Stale)) ≡ 50 ∷ 32 ∷ 114 ∷ 101 ∷ 102 ∷ 117 ∷ 115 ∷ 101 ∷ 100 ∷ 32 ∷ 49 ∷ 48 ∷ 10 ∷ []
unfolding output_line reply_bytes answer_bytes decimal_of digits_of
refused_line = refl

unread_line : output_line 3 None ≡ 51 ∷ 32 ∷ 117 ∷ 110 ∷ 114 ∷ 101 ∷ 97 ∷ 100 ∷ 10 ∷ []
unfolding output_line reply_bytes decimal_of digits_of
unread_line = refl
