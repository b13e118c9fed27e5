-- Tokens as they are spelled: where the spelling of a token stands at the head, and behind it nothing that goes on with it, that token is given.
use Rattle.std.proofs.Common.{◌≡◌, ◌≢◌, ◌∙◌, ℕ, suc, ◌+◌, ◌<◌, ◌≤◌, Bool, true, false, List, [], ◌∷◌, ◌++◌, length, refl, ap, arith, Some, None}
use Rattle.std.specs.Prelude.{pos, nat_eq, nat_le, ◌==◌}
use Rattle.std.specs.List.{prefix_len, list_all}
use Rattle.std.proofs.Math.Seq.{take-append_seam, drop-append_seam}
use Rattle.std.proofs.lemmas.Bool.Decides.{nat_tests}
use Rattle.php_syntax.specs.declared.token.Sign.{Sign}
use Rattle.php_syntax.specs.declared.token.Sign.TheVariants as s
use Rattle.php_syntax.specs.Tokens.{name, variable, sign, text, integer}
use Rattle.lexical_grammar.specs.Characters.{is_name_start, is_name_byte, is_digit, head_is, name_length, value_of, largest, digits_length}
use Rattle.lexical_grammar.specs.Steps.{inside, goes, gives}
use Rattle.lexical_grammar.specs.Cuts.{step, lexeme_step, between_step, word_step, text_step, mark_step, blank_step, line_comment_step, block_comment_step, leaving_step}
use Rattle.lexical_grammar.specs.Words.{name_step, variable_step, number_step, has_leading_zero, goes_on_as_float, digits_step}
use Rattle.php_syntax.specs.Spelling.{spelling_of}
use Rattle.lexical_grammar.specs.Signs.{sign_step, cast_step}
use Rattle.lexical_grammar.specs.Texts.{single_step, double_step, single_at}
use Rattle.lexical_grammar.specs.Rows.{row, whole}
use Rattle.lexical_grammar.specs.Spelled.{IsName, IsInteger, EndsName, EndsInteger, quoted}
use Rattle.lexical_grammar.specs.Heredocs.{heredoc_step, nowdoc_step}

-- a letter or an underscore is beyond the signs and blanks
pub name_start_high : (b : ℕ) → is_name_start b ≡ true → 64 < b
name_start_high b e = grind (arith, nat_tests)

pub apart : (a b : ℕ) → a < b → nat_eq a b ≡ false
apart a b h = grind (arith, nat_tests)

pub apart' : (a b : ℕ) → b < a → nat_eq a b ≡ false
apart' a b h = grind (arith, nat_tests)

pub at_most : (a b : ℕ) → a ≤ b → nat_le a b ≡ true
at_most a b h = grind (arith, nat_tests)

pub over : (a b : ℕ) → b < a → nat_le a b ≡ false
over a b h = grind (arith, nat_tests)

-- nothing that stands between tokens begins with such a byte
between_none : (b : ℕ) (rest : List ℕ) → 64 < b → between_step (b ∷ rest) ≡ None
unfolding between_step blank_step line_comment_step block_comment_step leaving_step
between_none b rest h =
    rw (apart' b 32 (omega arith), apart' b 9 (omega arith), apart' b 10 (omega arith), apart' b 13 (omega arith)) (rw (apart 47 b (omega arith), apart 35 b (omega arith)) (rw (apart 63 b (omega arith)) refl))

-- a run of bytes that all pass, before a byte that does not
run_more : (p : ℕ → Bool) (x : ℕ) (xs rest : List ℕ) (v : Bool) → p x ≡ v → list_all p (x ∷ xs) ≡ true → (list_all p xs ≡ true → prefix_len p (xs ++ rest) ≡ length xs) → prefix_len p (x ∷ (xs ++ rest)) ≡ suc (length xs)
run_more p x xs rest true e all more = rw e (omega (arith, more (rw e at all)))
run_more p x xs rest false e all more = absurd (let stop = rw e at all in cc)

pub run_length : (p : ℕ → Bool) (xs rest : List ℕ) → list_all p xs ≡ true → head_is p rest ≡ false → prefix_len p (xs ++ rest) ≡ length xs
run_length p [] [] all none = refl
run_length p [] (b ∷ rest) all none = rw none refl
run_length p (x ∷ xs) rest all none = run_more p x xs rest (p x) refl all (λ more. run_length p xs rest more none)

-- the name that stands at the head is read whole
pub named : (b : ℕ) (more rest : List ℕ) → is_name_start b ≡ true → list_all is_name_byte more ≡ true → head_is is_name_byte rest ≡ false → name_length (b ∷ (more ++ rest)) ≡ suc (length more)
named b more rest start all none = rw start (omega (arith, run_length is_name_byte more rest all none))

-- a name is cut as a name
pub name_spelled : (b : ℕ) (more rest : List ℕ) → is_name_start b ≡ true → list_all is_name_byte more ≡ true → head_is is_name_byte rest ≡ false
    → step inside (b ∷ (more ++ rest)) ≡ goes (Some (name (b ∷ more))) (suc (length more)) inside
unfolding step lexeme_step word_step name_step
name_spelled b more rest start all none =
    rw (between_none b (more ++ rest) (name_start_high b start)) (rw (named b more rest start all none) (rw (apart' (suc (length more)) 0 (omega arith)) (ap (λ w. goes (Some (name w)) (suc (length more)) inside) (take-append_seam (b ∷ more) rest))))

-- `$` and a name are cut as a variable
pub variable_spelled : (b : ℕ) (more rest : List ℕ) → is_name_start b ≡ true → list_all is_name_byte more ≡ true → head_is is_name_byte rest ≡ false
    → step inside (36 ∷ b ∷ (more ++ rest)) ≡ goes (Some (variable (b ∷ more))) (suc (suc (length more))) inside
unfolding step lexeme_step between_step blank_step line_comment_step block_comment_step leaving_step word_step name_step variable_step
variable_spelled b more rest start all none =
    rw (named b more rest start all none) (rw (at_most 1 (suc (length more)) (omega arith)) (ap (λ w. goes (Some (variable w)) (1 + suc (length more)) inside) (take-append_seam (b ∷ more) rest) ∙ ap (λ n. goes (Some (variable (b ∷ more))) n inside) (omega arith)))

quoted_more : (b : ℕ) (bytes rest : List ℕ) (first second : Bool) → (b == 39) ≡ first → (b == 92) ≡ second → row single_at 0 (quoted bytes ++ rest) ≡ whole bytes (length (quoted bytes))
    → row single_at 0 (quoted (b ∷ bytes) ++ rest) ≡ whole (b ∷ bytes) (length (quoted (b ∷ bytes)))
unfolding row
quoted_more b bytes rest true second e f more = rw e (rw e (rw more (ap (whole (b ∷ bytes)) (omega arith))))
quoted_more b bytes rest false true e f more = rw (e, f) (rw (e, f) (rw more (ap (whole (b ∷ bytes)) (omega arith))))
quoted_more b bytes rest false false e f more = rw (e, f) (rw (e, f) (rw more (ap (whole (b ∷ bytes)) (omega arith))))

pub quoted_row : (bytes rest : List ℕ) → row single_at 0 (quoted bytes ++ rest) ≡ whole bytes (length (quoted bytes))
unfolding row
quoted_row [] rest = refl
quoted_row (b ∷ bytes) rest = quoted_more b bytes rest (b == 39) (b == 92) refl refl (quoted_row bytes rest)

-- a single-quoted text is cut as the bytes that it was written for
pub text_spelled : (bytes rest : List ℕ) → step inside (39 ∷ (quoted bytes ++ rest)) ≡ goes (Some (text bytes)) (1 + length (quoted bytes)) inside
unfolding step lexeme_step between_step blank_step line_comment_step block_comment_step leaving_step word_step name_step variable_step number_step text_step single_step
text_spelled bytes rest = rw (quoted_row bytes rest) refl

pub digit_bounds : (b : ℕ) → is_digit b ≡ true → (47 < b) × (b < 58)
digit_bounds b e = (grind (arith, nat_tests), grind (arith, nat_tests))

between_digit : (b : ℕ) (rest : List ℕ) → 47 < b → b < 58 → between_step (b ∷ rest) ≡ None
unfolding between_step blank_step line_comment_step block_comment_step leaving_step
between_digit b rest h k =
    rw (apart' b 32 (omega arith), apart' b 9 (omega arith), apart' b 10 (omega arith), apart' b 13 (omega arith)) (rw (apart 47 b (omega arith), apart 35 b (omega arith)) (rw (apart' 63 b (omega arith)) refl))

no_name : (b : ℕ) (rest : List ℕ) → 47 < b → b < 58 → name_length (b ∷ rest) ≡ 0
no_name b rest h k = rw (over 65 b (omega arith), over 97 b (omega arith), apart b 95 (omega arith)) refl

pub digits_are : (b : ℕ) (more rest : List ℕ) → is_digit b ≡ true → list_all is_digit more ≡ true → head_is is_digit rest ≡ false → digits_length (b ∷ (more ++ rest)) ≡ suc (length more)
digits_are b more rest first all none = rw first (omega (arith, run_length is_digit more rest all none))

digits_given : (digits rest : List ℕ) → has_leading_zero digits ≡ false → value_of digits ≤ largest → head_is is_name_byte rest ≡ false → goes_on_as_float rest ≡ false
    → digits_step digits rest ≡ gives (integer (pos (value_of digits))) (length digits)
digits_given digits rest no_zero small none float = rw float (rw no_zero (rw (over (suc largest) (value_of digits) (omega arith)) (rw none refl)))

number_given : (b : ℕ) (more rest : List ℕ) → is_digit b ≡ true → list_all is_digit more ≡ true → has_leading_zero (b ∷ more) ≡ false → value_of (b ∷ more) ≤ largest
    → head_is is_name_byte rest ≡ false → goes_on_as_float rest ≡ false → head_is is_digit rest ≡ false
    → number_step (b ∷ (more ++ rest)) ≡ gives (integer (pos (value_of (b ∷ more)))) (length (b ∷ more))
unfolding number_step
number_given b more rest first all no_zero small none float none' =
    rw (digits_are b more rest first all none') (rw (at_most 1 (suc (length more)) (omega arith)) (rw (take-append_seam more rest) (rw (drop-append_seam more rest) (digits_given (b ∷ more) rest no_zero small none float))))

-- digits without a leading zero, in range, are cut as their number
pub integer_spelled : (b : ℕ) (more rest : List ℕ) → is_digit b ≡ true → list_all is_digit more ≡ true → has_leading_zero (b ∷ more) ≡ false → value_of (b ∷ more) ≤ largest
    → head_is is_name_byte rest ≡ false → goes_on_as_float rest ≡ false → head_is is_digit rest ≡ false
    → step inside (b ∷ (more ++ rest)) ≡ goes (Some (integer (pos (value_of (b ∷ more))))) (length (b ∷ more)) inside
unfolding step lexeme_step word_step name_step variable_step
integer_spelled b more rest first all no_zero small none float none' =
    let bounds = digit_bounds b first
    in rw (between_digit b (more ++ rest) bounds.0 bounds.1) (rw (no_name b (more ++ rest) bounds.0 bounds.1) (rw (apart 36 b (omega arith)) (rw (number_given b more rest first all no_zero small none float none') refl)))

-- a bracket that begins no cast is cut as a bracket
pub bracket_spelled : (rest : List ℕ) → cast_step (40 ∷ rest) ≡ None → step inside (40 ∷ rest) ≡ goes (Some (sign s.OpenParen)) 1 inside
unfolding step lexeme_step between_step blank_step line_comment_step block_comment_step leaving_step word_step name_step variable_step number_step text_step single_step double_step heredoc_step nowdoc_step mark_step sign_step
bracket_spelled rest h = rw h refl

-- a sign before a blank is cut as that sign
pub sign_spelled : (x : Sign) (rest : List ℕ) → x ≢ s.OpenParen → step inside (spelling_of x ++ 32 ∷ rest) ≡ goes (Some (sign x)) (length (spelling_of x)) inside
unfolding step lexeme_step between_step blank_step line_comment_step block_comment_step leaving_step word_step name_step variable_step number_step text_step single_step double_step heredoc_step nowdoc_step mark_step cast_step sign_step
sign_spelled s.Identical rest other = refl
sign_spelled s.NotIdentical rest other = refl
sign_spelled s.CoalesceAssign rest other = refl
sign_spelled s.Equal rest other = refl
sign_spelled s.NotEqual rest other = refl
sign_spelled s.LessGreater rest other = refl
sign_spelled s.LessEqual rest other = refl
sign_spelled s.GreaterEqual rest other = refl
sign_spelled s.DoubleArrow rest other = refl
sign_spelled s.And rest other = refl
sign_spelled s.Or rest other = refl
sign_spelled s.Coalesce rest other = refl
sign_spelled s.JoinAssign rest other = refl
sign_spelled s.AddAssign rest other = refl
sign_spelled s.SubAssign rest other = refl
sign_spelled s.MulAssign rest other = refl
sign_spelled s.RemAssign rest other = refl
sign_spelled s.Increment rest other = refl
sign_spelled s.Decrement rest other = refl
sign_spelled s.Assign rest other = refl
sign_spelled s.Less rest other = refl
sign_spelled s.Greater rest other = refl
sign_spelled s.Not rest other = refl
sign_spelled s.Dot rest other = refl
sign_spelled s.Plus rest other = refl
sign_spelled s.Minus rest other = refl
sign_spelled s.Star rest other = refl
sign_spelled s.Percent rest other = refl
sign_spelled s.Question rest other = refl
sign_spelled s.Colon rest other = refl
sign_spelled s.Comma rest other = refl
sign_spelled s.Semicolon rest other = refl
sign_spelled s.OpenParen rest other = absurd (other refl)
sign_spelled s.CloseParen rest other = refl
sign_spelled s.OpenBracket rest other = refl
sign_spelled s.CloseBracket rest other = refl
sign_spelled s.OpenBrace rest other = refl
sign_spelled s.CloseBrace rest other = refl
sign_spelled s.CastInt rest other = refl
sign_spelled s.CastString rest other = refl

pub names_are_cut : (word rest : List ℕ) → IsName word → EndsName rest → step inside (word ++ rest) ≡ goes (Some (name word)) (length word) inside
names_are_cut [] rest is_name ends = absurd is_name
names_are_cut (b ∷ more) rest is_name ends = name_spelled b more rest is_name.0 is_name.1 ends

pub variables_are_cut : (word rest : List ℕ) → IsName word → EndsName rest → step inside (36 ∷ (word ++ rest)) ≡ goes (Some (variable word)) (suc (length word)) inside
variables_are_cut [] rest is_name ends = absurd is_name
variables_are_cut (b ∷ more) rest is_name ends = variable_spelled b more rest is_name.0 is_name.1 ends

pub integers_are_cut : (digits rest : List ℕ) → IsInteger digits → EndsInteger rest → step inside (digits ++ rest) ≡ goes (Some (integer (pos (value_of digits)))) (length digits) inside
integers_are_cut [] rest is_integer ends = absurd is_integer
integers_are_cut (b ∷ more) rest is_integer ends = integer_spelled b more rest is_integer.0 is_integer.1 is_integer.2 is_integer.3 ends.0 ends.2 ends.1
