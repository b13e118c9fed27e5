-- Each step takes one byte at least, and the token that it gives is spelled by the bytes that it takes.
use Rattle.std.proofs.Common.{◌≡◌, ◌≢◌, ◌∙◌, ◌⊎◌, inl, inr, ℕ, zero, suc, ◌+◌, ◌<◌, ◌≤◌, Bool, true, false, List, [], ◌∷◌, ◌++◌, length, take, drop, refl, sym, ap, subst, arith, add-one, Option, Some, None, codes}
use Rattle.std.specs.Prelude.{pos, nat_eq, nat_le, nat_lt, ◌==◌, ◌&&◌, ◌||◌, not, if◌then◌else◌, is_some, bytes_eq, map}
use Rattle.std.specs.List.{prefix_len, list_all, starts_with}
use Rattle.std.proofs.lemmas.Bool.{eqb-true, eqb-false, ltb-true, ltb-false, and_parts, or_cases}
use Rattle.std.proofs.lemmas.Bool.Decides.{nat_tests}
use Rattle.std.proofs.lemmas.List.{take-append-drop, drop-drop}
use Rattle.std.proofs.lemmas.List.Folds.{length-prefix_len}
use Rattle.std.proofs.Math.Nat.{add_comm}
use Rattle.php_syntax.specs.declared.token.Sign.{Sign}
use Rattle.php_syntax.specs.declared.token.Sign.TheVariants as s
use Rattle.php_syntax.specs.Tokens.{PlainKind, PlainPart, plain_part, read_part, inline, variable, name, integer, text, template, sign}
use Rattle.lexical_grammar.specs.Characters.{begins, head_is, is_name_start, is_name_byte, is_digit, is_blank, is_gap, before, name_length, digits_length, newline_length, value_of, largest, lower}
use Rattle.lexical_grammar.specs.Steps.{Mode, outside, inside, Step, goes, refuses, gives, passes, faults, or_else}
use Rattle.lexical_grammar.specs.declared.fault.LexicalFault.{LexicalFault}
use Rattle.lexical_grammar.specs.declared.fault.LexicalFault.TheVariants.{BadByte, Unclosed, Float, BigInt, Escape}
use Rattle.lexical_grammar.specs.Rows.{Row, whole, broken, endless, row}
use Rattle.lexical_grammar.specs.Words.{name_step, variable_step, number_step, digits_step, has_leading_zero, goes_on_as_float}
use Rattle.php_syntax.specs.Spelling.{spelling_of}
use Rattle.lexical_grammar.specs.Signs.{all_signs, first_sign, sign_step, cast_of, cast_in, cast_step}
use Rattle.lexical_grammar.specs.Texts.{Unit_of, single_at, single_quoted, single_token, single_step, unit_at, quotes, lines, parts_of, kind_of_parts, double_token, double_step}
use Rattle.lexical_grammar.specs.Heredocs.{Body, of_heredoc, of_nowdoc, other_end_at, heredoc_newline, begins_name, ends_body, heredoc_token, nowdoc_token, body_token, body_step, headed, heredoc_step, nowdoc_step}
use Rattle.lexical_grammar.specs.Cuts.{step, lexeme_step, between_step, word_step, text_step, mark_step, blank_step, ends_line, line_comment_step, block_comment_step, leaving_step, echo_opener, php_opener, blank_behind, opened, opener_step, is_opener, or_inline, or_bad_byte}
use Rattle.lexical_grammar.specs.Spelled.{IsName, IsInteger, EndsName, EndsInteger}
use Rattle.lexical_grammar.specs.Pieces.{IsSpelledBy, IsPiece}

-- what a step takes is a piece
abbrev pub Fits : List ℕ → Step → Type 0
Fits bytes (goes token n next) = (0 < n) × IsPiece token (take n bytes) (drop n bytes)
Fits bytes (refuses fault n) = Unit {0}

abbrev pub MaybeFits : List ℕ → Option Step → Type 0
MaybeFits bytes None = Unit {0}
MaybeFits bytes (Some step) = Fits bytes step

fits_or : (bytes : List ℕ) (x y : Option Step) → MaybeFits bytes x → MaybeFits bytes y → MaybeFits bytes (or_else x y)
fits_or bytes None y first second = second
fits_or bytes (Some step) y first second = first

fits_if : (bytes : List ℕ) (b : Bool) (x y : Option Step) → (b ≡ true → MaybeFits bytes x) → MaybeFits bytes y → MaybeFits bytes (if b then x else y)
fits_if bytes true x y first second = first refl
fits_if bytes false x y first second = second

-- a byte more
front_more : {X : Type 0} (x : X) (xs : List X) (n : ℕ) → take (1 + n) (x ∷ xs) ≡ x ∷ take n xs
front_more x xs n = rw (add_comm 1 n) (rw add-one refl)

rest_more : {X : Type 0} (x : X) (xs : List X) (n : ℕ) → drop (1 + n) (x ∷ xs) ≡ drop n xs
rest_more x xs n = rw (add_comm 1 n) (rw add-one refl)

-- runs of bytes of a class
run_passes : (p : ℕ → Bool) (xs : List ℕ) → list_all p (take (prefix_len p xs) xs) ≡ true
run_passes p [] = refl
run_passes p (x ∷ xs) = decide (p x) refl (run_passes p xs)
  where
    decide : (v : Bool) → p x ≡ v → list_all p (take (prefix_len p xs) xs) ≡ true → list_all p (take (prefix_len p (x ∷ xs)) (x ∷ xs)) ≡ true
    decide true e more = rw e (rw (front_more x xs (prefix_len p xs)) (rw e more))
    decide false e more = rw e refl

run_ends : (p : ℕ → Bool) (xs : List ℕ) → head_is p (drop (prefix_len p xs) xs) ≡ false
run_ends p [] = refl
run_ends p (x ∷ xs) = decide (p x) refl (run_ends p xs)
  where
    decide : (v : Bool) → p x ≡ v → head_is p (drop (prefix_len p xs) xs) ≡ false → head_is p (drop (prefix_len p (x ∷ xs)) (x ∷ xs)) ≡ false
    decide true e more = rw e (rw (rest_more x xs (prefix_len p xs)) more)
    decide false e more = rw e e

-- where a test fails at once, a byte stands before its place
some_before : (test : List ℕ → Bool) (b : ℕ) (bytes : List ℕ) → test (b ∷ bytes) ≡ false → 0 < before test (b ∷ bytes)
some_before test b bytes e = rw e (omega arith)

-- blanks and comments
fits_blank : (bytes : List ℕ) → MaybeFits bytes (blank_step bytes)
unfolding blank_step
fits_blank bytes = fits_if bytes (head_is is_blank bytes) (passes 1) None (λ e. (omega arith, tt)) tt

slash_goes_on : (b : ℕ) (bytes : List ℕ) → nat_eq 47 b ≡ true → ends_line (b ∷ bytes) ≡ false
slash_goes_on b bytes e = subst (λ c. ends_line (c ∷ bytes) ≡ false) (eqb-true 47 b e) refl

sharp_goes_on : (b : ℕ) (bytes : List ℕ) → nat_eq 35 b ≡ true → ends_line (b ∷ bytes) ≡ false
sharp_goes_on b bytes e = subst (λ c. ends_line (c ∷ bytes) ≡ false) (eqb-true 35 b e) refl

comment_goes_on : (bytes : List ℕ) → (begins (codes "//") bytes || (begins (codes "#") bytes && not (begins (codes "#[") bytes))) ≡ true → 0 < before ends_line bytes
comment_goes_on [] e = absurd (cc)
comment_goes_on (b ∷ bytes) e =
    elim (or_cases (begins (codes "//") (b ∷ bytes)) (begins (codes "#") (b ∷ bytes) && not (begins (codes "#[") (b ∷ bytes))) e) [
      | inl slashes ↦ some_before ends_line b bytes (slash_goes_on b bytes (and_parts (nat_eq 47 b) (starts_with nat_eq bytes (47 ∷ [])) slashes).0)
      | inr sharp ↦ some_before ends_line b bytes (sharp_goes_on b bytes (and_parts (nat_eq 35 b) (starts_with nat_eq bytes []) (and_parts (begins (codes "#") (b ∷ bytes)) (not (begins (codes "#[") (b ∷ bytes))) sharp).0).0)
    ]

fits_line_comment : (bytes : List ℕ) → MaybeFits bytes (line_comment_step bytes)
unfolding line_comment_step
fits_line_comment bytes = fits_if bytes (begins (codes "//") bytes || (begins (codes "#") bytes && not (begins (codes "#[") bytes))) (passes (before ends_line bytes)) None (λ e. (comment_goes_on bytes e, tt)) tt

fits_block_comment : (bytes : List ℕ) → MaybeFits bytes (block_comment_step bytes)
unfolding block_comment_step
fits_block_comment bytes =
    let n = before (begins (codes "*/")) (drop 2 bytes)
    in fits_if bytes (begins (codes "/*") bytes) (if nat_lt n (length (drop 2 bytes)) then passes (4 + n) else faults Unclosed 0) None
    (λ e. fits_if bytes (nat_lt n (length (drop 2 bytes))) (passes (4 + n)) (faults Unclosed 0) (λ e'. (omega arith, tt)) tt) tt

fits_leaving : (bytes : List ℕ) → MaybeFits bytes (leaving_step bytes)
unfolding leaving_step
fits_leaving bytes = fits_if bytes (begins (codes "?>") bytes) (Some (goes (Some (sign s.Semicolon)) (2 + newline_length (drop 2 bytes)) outside)) None (λ e. (omega arith, tt)) tt

-- names and variables
name_is : (bytes : List ℕ) → 0 < name_length bytes → IsName (take (name_length bytes) bytes) × EndsName (drop (name_length bytes) bytes)
name_is [] h = absurd (omega arith)
name_is (b ∷ bytes) h = decide (is_name_start b) refl h
  where
    decide : (v : Bool) → is_name_start b ≡ v → 0 < name_length (b ∷ bytes) → IsName (take (name_length (b ∷ bytes)) (b ∷ bytes)) × EndsName (drop (name_length (b ∷ bytes)) (b ∷ bytes))
    decide true e h = rw e (rw (front_more b bytes (prefix_len is_name_byte bytes)) (rw (rest_more b bytes (prefix_len is_name_byte bytes)) ((e, run_passes is_name_byte bytes), run_ends is_name_byte bytes)))
    decide false e h = absurd (let none = rw e at h in omega (arith, none))

fits_name : (bytes : List ℕ) → MaybeFits bytes (name_step bytes)
unfolding name_step
fits_name bytes = decide (name_length bytes == 0) refl
  where
    decide : (v : Bool) → (name_length bytes == 0) ≡ v → MaybeFits bytes (if name_length bytes == 0 then None else gives (name (take (name_length bytes) bytes)) (name_length bytes))
    decide true e = rw e tt
    decide false e =
        let some : 0 < name_length bytes = grind (arith, nat_tests)
        in let is = name_is bytes some
        in rw e (some, inl (refl, is.0, is.1))

dollar_behind : (bytes : List ℕ) (n : ℕ) → begins (codes "$") bytes ≡ true → take (1 + n) bytes ≡ 36 ∷ take n (drop 1 bytes)
dollar_behind [] n e = absurd (cc)
dollar_behind (b ∷ bytes) n e = front_more b bytes n ∙ ap (λ c. c ∷ take n bytes) (sym (eqb-true 36 b (and_parts (nat_eq 36 b) (starts_with nat_eq bytes []) e).0))

drop_behind : (bytes : List ℕ) (n : ℕ) → drop (1 + n) bytes ≡ drop n (drop 1 bytes)
drop_behind bytes n = sym (drop-drop n 1 bytes)

fits_variable : (bytes : List ℕ) → MaybeFits bytes (variable_step bytes)
unfolding variable_step
fits_variable bytes =
    let n = name_length (drop 1 bytes)
    in fits_if bytes (begins (codes "$") bytes && nat_lt 0 n) (gives (variable (take n (drop 1 bytes))) (1 + n)) None
    (λ e.
    let both = and_parts (begins (codes "$") bytes) (nat_lt 0 n) e
    in let is = name_is (drop 1 bytes) (ltb-true 0 n both.1)
    in (omega arith, (dollar_behind bytes n both.0, is.0, subst (λ rest. EndsName rest) (sym (drop_behind bytes n)) is.1))) tt

-- numbers
digits_are : (bytes : List ℕ) → 0 < digits_length bytes → has_leading_zero (take (digits_length bytes) bytes) ≡ false → value_of (take (digits_length bytes) bytes) ≤ largest
    → IsInteger (take (digits_length bytes) bytes)
digits_are [] h = λ zero_first small. absurd (omega arith)
digits_are (b ∷ bytes) h = decide (is_digit b) refl h
  where
    decide : (v : Bool) → is_digit b ≡ v → 0 < digits_length (b ∷ bytes) → has_leading_zero (take (digits_length (b ∷ bytes)) (b ∷ bytes)) ≡ false → value_of (take (digits_length (b ∷ bytes)) (b ∷ bytes)) ≤ largest
        → IsInteger (take (digits_length (b ∷ bytes)) (b ∷ bytes))
    decide true e h = rw e (rw (front_more b bytes (prefix_len is_digit bytes)) (λ zero_first small. (e, run_passes is_digit bytes, zero_first, small)))
    decide false e h = absurd (let none = rw e at h in omega (arith, none))

fits_digits : (bytes digits rest : List ℕ) → digits ≡ take (length digits) bytes → rest ≡ drop (length digits) bytes → 0 < length digits → head_is is_digit rest ≡ false
    → (has_leading_zero digits ≡ false → value_of digits ≤ largest → IsInteger digits) → MaybeFits bytes (digits_step digits rest)
fits_digits bytes digits rest front behind some none is =
    decide (goes_on_as_float rest) (has_leading_zero digits) (nat_lt largest (value_of digits)) (head_is is_name_byte rest) refl refl refl refl
  where
    decide : (float_next zero_first large name_next : Bool) → goes_on_as_float rest ≡ float_next → has_leading_zero digits ≡ zero_first → nat_lt largest (value_of digits) ≡ large → head_is is_name_byte rest ≡ name_next
        → MaybeFits bytes (if goes_on_as_float rest then faults Float 0 else if has_leading_zero digits then faults BadByte 1 else if nat_lt largest (value_of digits) then faults BigInt 0 else if head_is is_name_byte rest then faults BadByte (length digits) else gives (integer (pos (value_of digits))) (length digits))
    decide true z l m e f g h = rw e tt
    decide false true l m e f g h = rw (e, f) tt
    decide false false true m e f g h = rw (e, f, g) tt
    decide false false false true e f g h = rw (e, f, g, h) tt
    decide false false false false e f g h =
        rw (e, f, g, h) (some, subst (λ ds. IsSpelledBy (integer (pos (value_of digits))) ds (drop (length digits) bytes)) front (subst (λ bs. IsSpelledBy (integer (pos (value_of digits))) digits bs) behind (refl, is f (ltb-false largest (value_of digits) g), (h, none, e))))

fits_number : (bytes : List ℕ) → MaybeFits bytes (number_step bytes)
unfolding number_step
fits_number bytes =
    let n = digits_length bytes
    in let len : length (take n bytes) ≡ n = length-prefix_len is_digit bytes
    in fits_if bytes (nat_lt 0 n) (digits_step (take n bytes) (drop n bytes)) (if begins (codes ".") bytes && head_is is_digit (drop 1 bytes) then faults Float 0 else None)
    (λ e.
    let some : 0 < n = ltb-true 0 n e
    in fits_digits bytes (take n bytes) (drop n bytes) (ap (λ m. take m bytes) (sym len)) (ap (λ m. drop m bytes) (sym len)) (omega (arith, len, some)) (run_ends is_digit bytes) (digits_are bytes some))
    (fits_if bytes (begins (codes ".") bytes && head_is is_digit (drop 1 bytes)) (faults Float 0) None (λ e. tt) tt)

-- texts
fits_single_token : (bytes : List ℕ) (r : Row ℕ) → MaybeFits bytes (single_token r)
fits_single_token bytes (whole t n) = (omega arith, tt)
fits_single_token bytes (broken n) = tt
fits_single_token bytes endless = tt

fits_single : (bytes : List ℕ) → MaybeFits bytes (single_step bytes)
unfolding single_step
fits_single bytes = fits_if bytes (begins (codes "'") bytes) (single_token (single_quoted (drop 1 bytes))) None (λ e. fits_single_token bytes (single_quoted (drop 1 bytes))) tt

text_is_piece : (parts : List PlainPart) (bytes rest : List ℕ) → IsSpelledBy (kind_of_parts parts) bytes rest
text_is_piece [] bytes rest = tt
text_is_piece (plain_part t ∷ []) bytes rest = tt
text_is_piece (plain_part t ∷ p ∷ parts) bytes rest = tt
text_is_piece (read_part x keys ∷ []) bytes rest = tt
text_is_piece (read_part x keys ∷ p ∷ parts) bytes rest = tt

fits_double_token : (bytes : List ℕ) (r : Row Unit_of) → MaybeFits bytes (double_token r)
fits_double_token bytes (whole units n) = (omega arith, text_is_piece (parts_of units) (take (1 + n) bytes) (drop (1 + n) bytes))
fits_double_token bytes (broken n) = tt
fits_double_token bytes endless = tt

fits_double : (bytes : List ℕ) → MaybeFits bytes (double_step bytes)
unfolding double_step
fits_double bytes = fits_if bytes (begins (codes "\"") bytes) (double_token (row (unit_at quotes) 0 (drop 1 bytes))) None (λ e. fits_double_token bytes (row (unit_at quotes) 0 (drop 1 bytes))) tt

-- heredocs and nowdocs
fits_heredoc_token : (bytes : List ℕ) (head n : ℕ) (o : Option ℕ) (r : Row Unit_of) → 0 < n → MaybeFits bytes (heredoc_token head n o r)
fits_heredoc_token bytes head n None (whole units m) h = (h, text_is_piece (parts_of units) (take n bytes) (drop n bytes))
fits_heredoc_token bytes head n None (broken m) h = tt
fits_heredoc_token bytes head n None endless h = tt
fits_heredoc_token bytes head n (Some k) (whole units m) h = tt
fits_heredoc_token bytes head n (Some k) (broken m) h = tt
fits_heredoc_token bytes head n (Some k) endless h = tt

fits_nowdoc_token : (bytes : List ℕ) (head n : ℕ) (o : Option ℕ) (body : List ℕ) → 0 < n → MaybeFits bytes (nowdoc_token head n o body)
fits_nowdoc_token bytes head n None body h = (h, tt)
fits_nowdoc_token bytes head n (Some k) body h = tt

fits_body_token : (bytes : List ℕ) (kind : Body) (head n : ℕ) (word body : List ℕ) → 0 < n → MaybeFits bytes (body_token kind head n word body)
fits_body_token bytes of_heredoc head n word body h = fits_heredoc_token bytes head n (other_end_at word body) (row (unit_at lines) 0 body) h
fits_body_token bytes of_nowdoc head n word body h = fits_nowdoc_token bytes head n (other_end_at word body) body h

fits_body : (bytes : List ℕ) (kind : Body) (head : ℕ) (word body : List ℕ) → 0 < head → MaybeFits bytes (body_step kind head word body)
unfolding body_step
fits_body bytes kind head word body h =
    let n = before (ends_body word) body
    in let taken = head + n + heredoc_newline (drop n body) + length word
    in fits_if bytes (begins_name word body) (body_token kind head (head + length word) word []) (if nat_lt n (length body) then body_token kind head taken word (take n body) else faults Unclosed 0)
    (λ e. fits_body_token bytes kind head (head + length word) word [] (omega arith))
    (fits_if bytes (nat_lt n (length body)) (body_token kind head taken word (take n body)) (faults Unclosed 0) (λ e. fits_body_token bytes kind head taken word (take n body) (omega arith)) tt)

fits_headed : (bytes : List ℕ) (kind : Body) (head : ℕ) (word rest : List ℕ) → 0 < head → MaybeFits bytes (headed kind head word rest)
fits_headed bytes kind head word rest h =
    fits_if bytes (nat_lt 0 (length word) && nat_lt 0 (heredoc_newline rest)) (body_step kind (head + heredoc_newline rest) word (drop (heredoc_newline rest) rest)) None
    (λ e. fits_body bytes kind (head + heredoc_newline rest) word (drop (heredoc_newline rest) rest) (omega arith)) tt

fits_heredoc : (bytes : List ℕ) → MaybeFits bytes (heredoc_step bytes)
unfolding heredoc_step
fits_heredoc bytes =
    let n = name_length (drop 3 bytes)
    in fits_if bytes (begins (codes "<<<") bytes) (headed of_heredoc (3 + n) (take n (drop 3 bytes)) (drop n (drop 3 bytes))) None
    (λ e. fits_headed bytes of_heredoc (3 + n) (take n (drop 3 bytes)) (drop n (drop 3 bytes)) (omega arith)) tt

fits_nowdoc : (bytes : List ℕ) → MaybeFits bytes (nowdoc_step bytes)
unfolding nowdoc_step
fits_nowdoc bytes =
    let n = name_length (drop 4 bytes)
    in fits_if bytes (begins (codes "<<<'") bytes && begins (codes "'") (drop n (drop 4 bytes))) (headed of_nowdoc (5 + n) (take n (drop 4 bytes)) (drop 1 (drop n (drop 4 bytes)))) None
    (λ e. fits_headed bytes of_nowdoc (5 + n) (take n (drop 4 bytes)) (drop 1 (drop n (drop 4 bytes))) (omega arith)) tt

-- casts and signs
fits_cast_in : (bytes : List ℕ) (o : Option Sign) (n : ℕ) (rest : List ℕ) → MaybeFits bytes (cast_in o n rest)
fits_cast_in bytes None n rest = tt
fits_cast_in bytes (Some x) n rest = fits_if bytes (begins (codes ")") rest) (gives (sign x) (1 + n)) None (λ e. (omega arith, tt)) tt

fits_cast : (bytes : List ℕ) → MaybeFits bytes (cast_step bytes)
unfolding cast_step
fits_cast bytes =
    let inner = drop 1 bytes
    in let gap = prefix_len is_gap inner
    in let word = prefix_len is_name_byte (drop gap inner)
    in let second = prefix_len is_gap (drop word (drop gap inner))
    in let rest = drop second (drop word (drop gap inner))
    in fits_if bytes (begins (codes "(") bytes) (cast_in (cast_of (take word (drop gap inner))) (1 + gap + word + second) rest) None
    (λ e. fits_cast_in bytes (cast_of (take word (drop gap inner))) (1 + gap + word + second) rest) tt

spelled_some : (x : Sign) → 0 < length (spelling_of x)
spelled_some s.Identical = omega arith
spelled_some s.NotIdentical = omega arith
spelled_some s.CoalesceAssign = omega arith
spelled_some s.Equal = omega arith
spelled_some s.NotEqual = omega arith
spelled_some s.LessGreater = omega arith
spelled_some s.LessEqual = omega arith
spelled_some s.GreaterEqual = omega arith
spelled_some s.DoubleArrow = omega arith
spelled_some s.And = omega arith
spelled_some s.Or = omega arith
spelled_some s.Coalesce = omega arith
spelled_some s.JoinAssign = omega arith
spelled_some s.AddAssign = omega arith
spelled_some s.SubAssign = omega arith
spelled_some s.MulAssign = omega arith
spelled_some s.RemAssign = omega arith
spelled_some s.Increment = omega arith
spelled_some s.Decrement = omega arith
spelled_some s.Assign = omega arith
spelled_some s.Less = omega arith
spelled_some s.Greater = omega arith
spelled_some s.Not = omega arith
spelled_some s.Dot = omega arith
spelled_some s.Plus = omega arith
spelled_some s.Minus = omega arith
spelled_some s.Star = omega arith
spelled_some s.Percent = omega arith
spelled_some s.Question = omega arith
spelled_some s.Colon = omega arith
spelled_some s.Comma = omega arith
spelled_some s.Semicolon = omega arith
spelled_some s.OpenParen = omega arith
spelled_some s.CloseParen = omega arith
spelled_some s.OpenBracket = omega arith
spelled_some s.CloseBracket = omega arith
spelled_some s.OpenBrace = omega arith
spelled_some s.CloseBrace = omega arith
spelled_some s.CastInt = omega arith
spelled_some s.CastString = omega arith

fits_first_sign : (bytes : List ℕ) (xs : List Sign) → MaybeFits bytes (first_sign xs bytes)
fits_first_sign bytes [] = tt
fits_first_sign bytes (x ∷ xs) = fits_if bytes (begins (spelling_of x) bytes) (gives (sign x) (length (spelling_of x))) (first_sign xs bytes) (λ e. (spelled_some x, tt)) (fits_first_sign bytes xs)

fits_sign : (bytes : List ℕ) → MaybeFits bytes (sign_step bytes)
unfolding sign_step
fits_sign bytes = fits_first_sign bytes all_signs

-- inside PHP
fits_lexeme : (bytes : List ℕ) → MaybeFits bytes (lexeme_step bytes)
unfolding lexeme_step between_step word_step text_step mark_step
fits_lexeme bytes =
    fits_or bytes _ _ (fits_or bytes _ _ (fits_blank bytes) (fits_or bytes _ _ (fits_line_comment bytes) (fits_or bytes _ _ (fits_block_comment bytes) (fits_leaving bytes))))
    (fits_or bytes _ _ (fits_or bytes _ _ (fits_name bytes) (fits_or bytes _ _ (fits_variable bytes) (fits_number bytes)))
    (fits_or bytes _ _ (fits_or bytes _ _ (fits_single bytes) (fits_or bytes _ _ (fits_double bytes) (fits_or bytes _ _ (fits_heredoc bytes) (fits_nowdoc bytes)))) (fits_or bytes _ _ (fits_cast bytes) (fits_sign bytes))))

fits_or_bad : (bytes : List ℕ) (o : Option Step) → MaybeFits bytes o → Fits bytes (or_bad_byte o)
fits_or_bad bytes None fits = tt
fits_or_bad bytes (Some step) fits = fits

-- outside PHP
begun : (spelled bytes : List ℕ) → begins spelled bytes ≡ true → take (length spelled) bytes ≡ spelled
begun [] bytes e = refl
begun (c ∷ spelled) [] e = absurd (cc)
begun (c ∷ spelled) (b ∷ bytes) e =
    let both = and_parts (nat_eq c b) (starts_with nat_eq bytes spelled) e
    in ap (λ d. d ∷ take (length spelled) bytes) (sym (eqb-true c b both.0)) ∙ ap (λ bs. c ∷ bs) (begun spelled bytes both.1)

fits_echo : (bytes : List ℕ) → MaybeFits bytes (echo_opener bytes)
fits_echo bytes = fits_if bytes (begins (codes "<?=") bytes) (gives (name (codes "echo")) 3) None (λ e. (omega arith, inr (begun (codes "<?=") bytes e, refl))) tt

fits_opened : (bytes : List ℕ) (o : Option ℕ) → MaybeFits bytes (opened o)
fits_opened bytes None = tt
fits_opened bytes (Some n) = (omega arith, tt)

fits_opener : (bytes : List ℕ) → MaybeFits bytes (opener_step bytes)
unfolding opener_step
fits_opener bytes = fits_or bytes _ _ (fits_echo bytes) (fits_if bytes (bytes_eq (map lower (take 5 bytes)) (codes "<?php")) (opened (blank_behind (drop 5 bytes))) None (λ e. fits_opened bytes (blank_behind (drop 5 bytes))) tt)

-- before the first place where a test holds, it does not
pub fails_before : (test : List ℕ → Bool) (bytes : List ℕ) (n : ℕ) → n < before test bytes → test (drop n bytes) ≡ false
fails_before test [] n h = absurd (omega arith)
fails_before test (b ∷ bytes) n h = decide (test (b ∷ bytes)) refl n h (λ m k. fails_before test bytes m k)
  where
    decide : (v : Bool) → test (b ∷ bytes) ≡ v → (n : ℕ) → n < before test (b ∷ bytes) → ((m : ℕ) → m < before test bytes → test (drop m bytes) ≡ false) → test (drop n (b ∷ bytes)) ≡ false
    decide true e n h more = absurd (let none = rw e at h in omega (arith, none))
    decide false e zero h more = e
    decide false e (suc n) h more = more n (let later = rw e at h in omega (arith, later))

take_within : (n : ℕ) (bytes : List ℕ) → length (take n bytes) ≤ n
take_within zero bytes = omega arith
take_within (suc n) [] = omega arith
take_within (suc n) (b ∷ bytes) = omega (arith, take_within n bytes)

fits_outside : (b : ℕ) (bytes : List ℕ) (o : Option Step) → opener_step (b ∷ bytes) ≡ o → MaybeFits (b ∷ bytes) o → Fits (b ∷ bytes) (or_inline o (b ∷ bytes))
fits_outside b bytes (Some step) e fits = fits
fits_outside b bytes None e fits =
    let n = before is_opener (b ∷ bytes)
    in (some_before is_opener b bytes (ap is_some e), (refl, λ k h. ap is_opener (ap (drop k) (take-append-drop n (b ∷ bytes))) ∙ fails_before is_opener (b ∷ bytes) k (omega (arith, h, take_within n (b ∷ bytes)))))

-- what stands at the head is a piece
pub fits : (mode : Mode) (b : ℕ) (bytes : List ℕ) → Fits (b ∷ bytes) (step mode (b ∷ bytes))
unfolding step
fits outside b bytes = fits_outside b bytes (opener_step (b ∷ bytes)) refl (fits_opener (b ∷ bytes))
fits inside b bytes = fits_or_bad (b ∷ bytes) (lexeme_step (b ∷ bytes)) (fits_lexeme (b ∷ bytes))
