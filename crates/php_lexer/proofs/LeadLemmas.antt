-- What the first byte decides inside PHP.
use Rattle.std.proofs.Common.{◌≡◌, ◌≢◌, ℕ, ◌+◌, ◌<◌, ◌≤◌, Bool, true, false, List, [], ◌∷◌, length, refl, sym, ap, arith, Option, Some, None}
use Rattle.std.specs.Prelude.{nat_eq, nat_le, ◌==◌, if◌then◌else◌, pos, take, drop, nat_lt}
use Rattle.std.specs.List.{prefix_len}
use Rattle.std.proofs.lemmas.Bool.{lt-ltb}
use Rattle.std.proofs.lemmas.Bool.Decides.{nat_tests}
use Rattle.php_syntax.specs.Tokens.{integer}
use Rattle.lexical_grammar.specs.Characters.{is_name_start, is_digit, is_blank, value_of, largest, head_is, is_name_byte, digits_length}
use Rattle.lexical_grammar.specs.Steps.{Step, or_else, passes, gives, faults}
use Rattle.lexical_grammar.specs.declared.fault.LexicalFault.TheVariants.{BadByte, Float, BigInt}
use Rattle.lexical_grammar.specs.Cuts.{lexeme_step, between_step, word_step, text_step, mark_step, blank_step, line_comment_step, block_comment_step, leaving_step}
use Rattle.lexical_grammar.specs.Words.{name_step, variable_step, number_step, digits_step, has_leading_zero, goes_on_as_float}
use Rattle.lexical_grammar.specs.Signs.{sign_step, cast_step, first_sign, all_signs}
use Rattle.lexical_grammar.specs.Texts.{single_step, double_step}
use Rattle.lexical_grammar.specs.Heredocs.{heredoc_step, nowdoc_step}

-- a byte that is not this one
before_is : (n b : ℕ) → b ≢ n → nat_eq n b ≡ false
before_is n b h = grind (arith, nat_tests)

behind_is : (n b : ℕ) → b ≢ n → nat_eq b n ≡ false
behind_is n b h = grind (arith, nat_tests)

-- readings that are none change nothing
or_none : (x : Option Step) → or_else x None ≡ x
or_none None = refl
or_none (Some step) = refl

or_none_twice : (x : Option Step) → or_else (or_else x None) None ≡ x
or_none_twice None = refl
or_none_twice (Some step) = refl

or_none_behind : (x y : Option Step) → or_else (or_else x (or_else y None)) None ≡ or_else x y
or_none_behind None y = or_none_twice y
or_none_behind (Some step) y = refl

or_in_turn : (x y z : Option Step) → or_else (or_else x y) z ≡ or_else x (or_else y z)
or_in_turn None y z = refl
or_in_turn (Some step) y z = refl

-- a letter or an underscore begins a name
name_start_high : (b : ℕ) → is_name_start b ≡ true → 64 < b
name_start_high b e = grind (arith, nat_tests)

between_high : (b : ℕ) (rest : List ℕ) → 64 < b → between_step (b ∷ rest) ≡ None
unfolding between_step blank_step line_comment_step block_comment_step leaving_step
between_high b rest h =
    rw (behind_is 32 b (omega arith), behind_is 9 b (omega arith), behind_is 10 b (omega arith), behind_is 13 b (omega arith)) (rw (before_is 47 b (omega arith), before_is 35 b (omega arith)) (rw (before_is 63 b (omega arith)) refl))

pub led_by_name : (b : ℕ) (rest : List ℕ) → is_name_start b ≡ true → lexeme_step (b ∷ rest) ≡ name_step (b ∷ rest)
unfolding lexeme_step word_step name_step
led_by_name b rest start = rw (between_high b rest (name_start_high b start)) (rw start (rw (behind_is 0 (1 + prefix_len is_name_byte rest) (omega arith)) refl))

pub led_by_blank : (b : ℕ) (rest : List ℕ) → is_blank b ≡ true → lexeme_step (b ∷ rest) ≡ passes 1
unfolding lexeme_step between_step blank_step
led_by_blank b rest e = rw e refl

digit_bounds : (b : ℕ) → is_digit b ≡ true → (47 < b) × (b < 58)
digit_bounds b e = (grind (arith, nat_tests), grind (arith, nat_tests))

between_digit : (b : ℕ) (rest : List ℕ) → 47 < b → b < 58 → between_step (b ∷ rest) ≡ None
unfolding between_step blank_step line_comment_step block_comment_step leaving_step
between_digit b rest h k =
    rw (behind_is 32 b (omega arith), behind_is 9 b (omega arith), behind_is 10 b (omega arith), behind_is 13 b (omega arith)) (rw (before_is 47 b (omega arith), before_is 35 b (omega arith)) (rw (before_is 63 b (omega arith)) refl))

no_name : (b : ℕ) → 47 < b → b < 58 → is_name_start b ≡ false
no_name b h k = grind (arith, nat_tests)

-- digits always give a token or a fault
digits_given : (first second third fourth : Bool) (value n : ℕ) (other : Option Step)
    → or_else (if first then faults Float 0 else if second then faults BadByte 1 else if third then faults BigInt 0 else if fourth then faults BadByte n else gives (integer (pos value)) n) other
    ≡ (if first then faults Float 0 else if second then faults BadByte 1 else if third then faults BigInt 0 else if fourth then faults BadByte n else gives (integer (pos value)) n)
digits_given true second third fourth value n other = refl
digits_given false true third fourth value n other = refl
digits_given false false true fourth value n other = refl
digits_given false false false true value n other = refl
digits_given false false false false value n other = refl

or_digits : (digits rest : List ℕ) (other : Option Step) → or_else (digits_step digits rest) other ≡ digits_step digits rest
or_digits digits rest other = digits_given (goes_on_as_float rest) (has_leading_zero digits) (nat_lt largest (value_of digits)) (head_is is_name_byte rest) (value_of digits) (length digits) other

some_digits : (b : ℕ) (rest : List ℕ) → is_digit b ≡ true → nat_lt 0 (digits_length (b ∷ rest)) ≡ true
some_digits b rest e = lt-ltb 0 (digits_length (b ∷ rest)) (rw e (omega arith))

or_number : (b : ℕ) (rest : List ℕ) (other : Option Step) → is_digit b ≡ true → or_else (number_step (b ∷ rest)) other ≡ number_step (b ∷ rest)
unfolding number_step
or_number b rest other e = rw (some_digits b rest e) (or_digits (take (digits_length (b ∷ rest)) (b ∷ rest)) (drop (digits_length (b ∷ rest)) (b ∷ rest)) other)

pub led_by_digit : (b : ℕ) (rest : List ℕ) → is_digit b ≡ true → lexeme_step (b ∷ rest) ≡ number_step (b ∷ rest)
unfolding lexeme_step word_step name_step variable_step
led_by_digit b rest e =
    let bounds = digit_bounds b e
    in rw (between_digit b rest bounds.0 bounds.1) (rw (no_name b bounds.0 bounds.1) (rw (before_is 36 b (omega arith)) (or_number b rest _ e)))

-- the signs that begin something else than a sign too
pub led_by_dollar : (rest : List ℕ) → lexeme_step (36 ∷ rest) ≡ variable_step (36 ∷ rest)
unfolding lexeme_step between_step blank_step line_comment_step block_comment_step leaving_step word_step name_step number_step text_step single_step double_step heredoc_step nowdoc_step mark_step cast_step sign_step
led_by_dollar rest = or_none_twice (variable_step (36 ∷ rest))

pub led_by_quote : (rest : List ℕ) → lexeme_step (39 ∷ rest) ≡ single_step (39 ∷ rest)
unfolding lexeme_step between_step blank_step line_comment_step block_comment_step leaving_step word_step name_step variable_step number_step text_step double_step heredoc_step nowdoc_step mark_step cast_step sign_step
led_by_quote rest = or_none_twice (single_step (39 ∷ rest))

pub led_by_quotes : (rest : List ℕ) → lexeme_step (34 ∷ rest) ≡ double_step (34 ∷ rest)
unfolding lexeme_step between_step blank_step line_comment_step block_comment_step leaving_step word_step name_step variable_step number_step text_step single_step heredoc_step nowdoc_step mark_step cast_step sign_step
led_by_quotes rest = or_none_twice (double_step (34 ∷ rest))

pub led_by_slash : (rest : List ℕ) → lexeme_step (47 ∷ rest) ≡ or_else (line_comment_step (47 ∷ rest)) (block_comment_step (47 ∷ rest))
unfolding lexeme_step between_step blank_step leaving_step word_step name_step variable_step number_step text_step single_step double_step heredoc_step nowdoc_step mark_step cast_step sign_step
led_by_slash rest = or_none_behind (line_comment_step (47 ∷ rest)) (block_comment_step (47 ∷ rest))

pub led_by_sharp : (rest : List ℕ) → lexeme_step (35 ∷ rest) ≡ line_comment_step (35 ∷ rest)
unfolding lexeme_step between_step blank_step block_comment_step leaving_step word_step name_step variable_step number_step text_step single_step double_step heredoc_step nowdoc_step mark_step cast_step sign_step
led_by_sharp rest = or_none_twice (line_comment_step (35 ∷ rest))

pub led_by_question : (rest : List ℕ) → lexeme_step (63 ∷ rest) ≡ or_else (leaving_step (63 ∷ rest)) (sign_step (63 ∷ rest))
unfolding lexeme_step between_step blank_step line_comment_step block_comment_step word_step name_step variable_step number_step text_step single_step double_step heredoc_step nowdoc_step mark_step cast_step
led_by_question rest = refl

pub led_by_less : (rest : List ℕ) → lexeme_step (60 ∷ rest) ≡ or_else (heredoc_step (60 ∷ rest)) (or_else (nowdoc_step (60 ∷ rest)) (sign_step (60 ∷ rest)))
unfolding lexeme_step between_step blank_step line_comment_step block_comment_step leaving_step word_step name_step variable_step number_step text_step single_step double_step mark_step cast_step
led_by_less rest = or_in_turn (heredoc_step (60 ∷ rest)) (nowdoc_step (60 ∷ rest)) (sign_step (60 ∷ rest))

pub led_by_bracket : (rest : List ℕ) → lexeme_step (40 ∷ rest) ≡ or_else (cast_step (40 ∷ rest)) (sign_step (40 ∷ rest))
unfolding lexeme_step between_step blank_step line_comment_step block_comment_step leaving_step word_step name_step variable_step number_step text_step single_step double_step heredoc_step nowdoc_step mark_step
led_by_bracket rest = refl

pub led_by_point : (rest : List ℕ) → lexeme_step (46 ∷ rest) ≡ or_else (number_step (46 ∷ rest)) (sign_step (46 ∷ rest))
unfolding lexeme_step between_step blank_step line_comment_step block_comment_step leaving_step word_step name_step variable_step text_step single_step double_step heredoc_step nowdoc_step mark_step cast_step
led_by_point rest = refl

-- any other byte begins a sign or nothing
pub led_by_other : (b : ℕ) (rest : List ℕ) → is_name_start b ≡ false → is_blank b ≡ false → is_digit b ≡ false
    → b ≢ 36 → b ≢ 39 → b ≢ 34 → b ≢ 47 → b ≢ 35 → b ≢ 63 → b ≢ 60 → b ≢ 40 → b ≢ 46 → lexeme_step (b ∷ rest) ≡ sign_step (b ∷ rest)
unfolding lexeme_step between_step blank_step line_comment_step block_comment_step leaving_step word_step name_step variable_step number_step text_step single_step double_step heredoc_step nowdoc_step mark_step cast_step
led_by_other b rest name blank digit dollar quote quotes slash sharp question less bracket point =
    rw (name, blank, digit) (rw (before_is 36 b dollar, before_is 39 b quote, before_is 34 b quotes, before_is 47 b slash, before_is 35 b sharp, before_is 63 b question, before_is 60 b less, before_is 40 b bracket, before_is 46 b point) refl)

-- a byte that begins no sign
pub no_sign : (b : ℕ) (rest : List ℕ) → b ≢ 61 → b ≢ 33 → b ≢ 63 → b ≢ 60 → b ≢ 62 → b ≢ 38 → b ≢ 124 → b ≢ 46 → b ≢ 43 → b ≢ 45 → b ≢ 42 → b ≢ 37 → b ≢ 58 → b ≢ 44 → b ≢ 59
    → b ≢ 40 → b ≢ 41 → b ≢ 91 → b ≢ 93 → b ≢ 123 → b ≢ 125 → first_sign all_signs (b ∷ rest) ≡ None
no_sign b rest equals bang question less greater ampersand bar dot plus minus star percent colon comma semicolon round round' square square' brace brace' =
    rw (before_is 61 b equals, before_is 33 b bang, before_is 63 b question, before_is 60 b less, before_is 62 b greater, before_is 38 b ampersand, before_is 124 b bar, before_is 46 b dot, before_is 43 b plus, before_is 45 b minus, before_is 42 b star, before_is 37 b percent)
    (rw (before_is 58 b colon, before_is 44 b comma, before_is 59 b semicolon, before_is 40 b round, before_is 41 b round', before_is 91 b square, before_is 93 b square', before_is 123 b brace, before_is 125 b brace') refl)
