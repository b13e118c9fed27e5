-- The definitions at worked cases of the PHP manual, and at near misses.
use Rattle.std.proofs.Common.{◌≡◌, pos, negsuc, true, false, [], Ok, Err, refl}
use Rattle.std.specs.Prelude.{codes}
use Rattle.std.specs.Fmt.{digits}
use Rattle.plain_values.specs.Plain.{int_key, text_key, null, flag, int, text, array, empty, pair, depth}
use Rattle.plain_values.specs.Numeric.{numeric}
use Rattle.plain_values.specs.Text.{text_of, truth}
use Rattle.plain_values.specs.Keys.{key_of}
use Rattle.plain_values.specs.Compare.{compare, loose_equal, less}
use Rattle.plain_values.specs.Members.{get, put, push}
use Rattle.plain_values.specs.declared.numeric.Numeric.TheVariants.{Integer, Float, Other}
use Rattle.plain_values.specs.declared.fault.Fault.TheVariants as fault

-- numeric texts
blanks_on_both_sides : numeric (codes " 123 ") ≡ Integer (pos 123)
blanks_on_both_sides = refl

leading_zeros_and_a_sign : numeric (codes "-007") ≡ Integer (negsuc 6)
leading_zeros_and_a_sign = refl

a_plus_sign : numeric (codes "+5") ≡ Integer (pos 5)
a_plus_sign = refl

two_signs_are_none : numeric (codes "+-5") ≡ Other
two_signs_are_none = refl

a_blank_behind_the_sign_is_none : numeric (codes "- 5") ≡ Other
a_blank_behind_the_sign_is_none = refl

the_last_integer : numeric (codes "9223372036854775807") ≡ Integer (pos 9223372036854775807)
the_last_integer = refl

one_past_the_last_integer : numeric (codes "9223372036854775808") ≡ Float
one_past_the_last_integer = refl

the_first_integer : numeric (codes "-9223372036854775808") ≡ Integer (negsuc 9223372036854775807)
the_first_integer = refl

an_exponent : numeric (codes "1e3") ≡ Float
an_exponent = refl

a_signed_exponent : numeric (codes "-1.5E+3") ≡ Float
a_signed_exponent = refl

a_dot_behind : numeric (codes "1.") ≡ Float
a_dot_behind = refl

a_dot_before : numeric (codes ".5") ≡ Float
a_dot_before = refl

a_dot_alone_is_none : numeric (codes ".") ≡ Other
a_dot_alone_is_none = refl

two_dots_are_none : numeric (codes "1.2.3") ≡ Other
two_dots_are_none = refl

an_empty_exponent_is_none : numeric (codes "1e") ≡ Other
an_empty_exponent_is_none = refl

a_letter_behind_is_none : numeric (codes "12abc") ≡ Other
a_letter_behind_is_none = refl

hexadecimal_digits_are_none : numeric (codes "0x1A") ≡ Other
hexadecimal_digits_are_none = refl

the_empty_text_is_none : numeric [] ≡ Other
the_empty_text_is_none = refl

-- truth
zero_is_false : truth (text (codes "0")) ≡ false
zero_is_false = refl

two_zeros_are_true : truth (text (codes "00")) ≡ true
two_zeros_are_true = refl

a_blank_is_true : truth (text (codes " ")) ≡ true
a_blank_is_true = refl

no_pair_is_false : truth (array empty) ≡ false
no_pair_is_false = refl

-- text forms
true_is_one : text_of (flag true) ≡ codes "1"
true_is_one = refl

an_integer_is_decimal : text_of (int (negsuc 41)) ≡ codes "-42"
unfolding digits
an_integer_is_decimal = refl

-- keys
a_decimal_text_is_an_integer : key_of (text (codes "8")) ≡ Ok (int_key (pos 8))
unfolding digits
a_decimal_text_is_an_integer = refl

a_leading_zero_stays_a_text : key_of (text (codes "08")) ≡ Ok (text_key (codes "08"))
unfolding digits
a_leading_zero_stays_a_text = refl

a_negative_zero_stays_a_text : key_of (text (codes "-0")) ≡ Ok (text_key (codes "-0"))
unfolding digits
a_negative_zero_stays_a_text = refl

a_plus_stays_a_text : key_of (text (codes "+1")) ≡ Ok (text_key (codes "+1"))
unfolding digits
a_plus_stays_a_text = refl

past_the_range_stays_a_text : key_of (text (codes "9223372036854775808")) ≡ Ok (text_key (codes "9223372036854775808"))
unfolding digits
past_the_range_stays_a_text = refl

null_is_the_empty_text : key_of null ≡ Ok (text_key [])
null_is_the_empty_text = refl

true_is_the_key_one : key_of (flag true) ≡ Ok (int_key (pos 1))
true_is_the_key_one = refl

-- comparison
zero_is_not_a_letter : loose_equal (int (pos 0)) (text (codes "a")) ≡ Ok false
unfolding digits
zero_is_not_a_letter = refl

one_is_a_text_with_zeros : loose_equal (text (codes "1")) (text (codes "01")) ≡ Ok true
one_is_a_text_with_zeros = refl

a_float_text_faults : loose_equal (text (codes "10")) (text (codes "1e1")) ≡ Err fault.Float
a_float_text_faults = refl

a_float_against_a_word_goes_by_bytes : less (text (codes "1e1")) (text (codes "abc")) ≡ Ok true
a_float_against_a_word_goes_by_bytes = refl

null_is_the_empty_text_there : loose_equal null (text []) ≡ Ok true
null_is_the_empty_text_there = refl

null_is_not_the_text_zero : loose_equal null (text (codes "0")) ≡ Ok false
null_is_not_the_text_zero = refl

null_is_below_true : less null (flag true) ≡ Ok true
null_is_below_true = refl

false_is_the_text_zero : loose_equal (flag false) (text (codes "0")) ≡ Ok true
false_is_the_text_zero = refl

no_array_is_compared : compare (array empty) null ≡ Err fault.Compare
no_array_is_compared = refl

-- members
an_absent_key_is_null : get (array (pair (int_key (pos 5)) (int (pos 1)) empty)) (text_key (codes "a")) ≡ Ok null
an_absent_key_is_null = refl

a_text_has_no_members : get (text (codes "abc")) (int_key (pos 0)) ≡ Err fault.BadIndex
a_text_has_no_members = refl

a_put_keeps_the_place : put (array (pair (int_key (pos 5)) null (pair (int_key (pos 6)) null empty))) (int_key (pos 5)) (flag true) ≡ Ok (array (pair (int_key (pos 5)) (flag true) (pair (int_key (pos 6)) null empty)))
a_put_keeps_the_place = refl

a_put_into_null_makes_an_array : put null (text_key (codes "a")) null ≡ Ok (array (pair (text_key (codes "a")) null empty))
a_put_into_null_makes_an_array = refl

a_put_into_false_faults : put (flag false) (int_key (pos 0)) null ≡ Err fault.BadIndex
a_put_into_false_faults = refl

an_append_comes_after_the_largest_key : push (array (pair (int_key (pos 5)) null (pair (int_key (pos 2)) null empty))) null ≡ Ok (array (pair (int_key (pos 5)) null (pair (int_key (pos 2)) null (pair (int_key (pos 6)) null empty))))
an_append_comes_after_the_largest_key = refl

an_append_after_a_negative_key : push (array (pair (int_key (negsuc 4)) null empty)) null ≡ Ok (array (pair (int_key (negsuc 4)) null (pair (int_key (negsuc 3)) null empty)))
an_append_after_a_negative_key = refl

no_append_after_the_last_integer : push (array (pair (int_key (pos 9223372036854775807)) null empty)) null ≡ Err fault.Full
no_append_after_the_last_integer = refl

an_array_in_an_array_is_two_deep : depth (array (pair (int_key (pos 0)) (array empty) empty)) ≡ 2
an_array_in_an_array_is_two_deep = refl
