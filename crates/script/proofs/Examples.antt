-- Lines of document 01 and what they ask for, computed from the definitions; and lines that are unread.
use mathlib.Core.Path.{◌≡◌, refl}
use mathlib.Core.List.{[], ◌∷◌}
use Rattle.script.specs.Number.{is_digit, all_digits, value_from, number_from, leading_zero, number_in}
use Rattle.protocol.specs.declared.Event.TheVariants.{Write, Drop, Deliver}
use Rattle.script.specs.Line.{word, after_word, tag_of, tag_in, write_with, write_of, with_number, one_number, lettered, line_of}
use Rattle.script.specs.declared.Line.TheVariants.{SetUp, Call}
use Rattle.std.specs.Prelude.{Some, None}

-- `n 3`, `w 0 65`, `d 10`, `x 0`
set_up_lem : line_of (110 ∷ 32 ∷ 51 ∷ []) ≡ Some (SetUp 3)
unfolding line_of lettered one_number with_number number_in leading_zero number_from all_digits is_digit value_from
set_up_lem = refl

write : line_of (119 ∷ 32 ∷ 48 ∷ 32 ∷ 54 ∷ 53 ∷ []) ≡ Some (Call (Write 0 (record { 0 = 65 })))
unfolding line_of lettered write_of write_with word after_word tag_in tag_of number_in leading_zero number_from all_digits is_digit value_from
write = refl

deliver : line_of (100 ∷ 32 ∷ 49 ∷ 48 ∷ []) ≡ Some (Call (Deliver 10))
unfolding line_of lettered one_number with_number number_in leading_zero number_from all_digits is_digit value_from
deliver = refl

drop_zero : line_of (120 ∷ 32 ∷ 48 ∷ []) ≡ Some (Call (Drop 0))
unfolding line_of lettered one_number with_number number_in leading_zero number_from all_digits is_digit value_from
drop_zero = refl

-- nothing; `n 03`; `n 3 ` with a space after it; `n 3` with a carriage return; `w 0`; `w 0 65 ` with a space after it
empty : line_of [] ≡ None
unfolding line_of
empty = refl

leading_zero_lem : line_of (110 ∷ 32 ∷ 48 ∷ 51 ∷ []) ≡ None
unfolding line_of lettered one_number with_number number_in leading_zero number_from all_digits is_digit value_from
leading_zero_lem = refl

space_after : line_of (110 ∷ 32 ∷ 51 ∷ 32 ∷ []) ≡ None
unfolding line_of lettered one_number with_number number_in leading_zero number_from all_digits is_digit value_from
space_after = refl

carriage_return : line_of (110 ∷ 32 ∷ 51 ∷ 13 ∷ []) ≡ None
unfolding line_of lettered one_number with_number number_in leading_zero number_from all_digits is_digit value_from
carriage_return = refl

no_second_number : line_of (119 ∷ 32 ∷ 48 ∷ []) ≡ None
unfolding line_of lettered write_of write_with word after_word tag_in tag_of number_in leading_zero number_from all_digits is_digit value_from
no_second_number = refl

space_after_two : line_of (119 ∷ 32 ∷ 48 ∷ 32 ∷ 54 ∷ 53 ∷ 32 ∷ []) ≡ None
unfolding line_of lettered write_of write_with word after_word tag_in tag_of number_in leading_zero number_from all_digits is_digit value_from
space_after_two = refl
