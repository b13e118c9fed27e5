-- Comments, texts and files without an opener.
use Rattle.std.proofs.Common.{◌≡◌, ◌≢◌, ◌∙◌, ◌⊎◌, inl, inr, ℕ, zero, suc, ◌+◌, ◌<◌, ◌≤◌, Bool, true, false, List, [], ◌∷◌, ◌++◌, map, length, take, drop, refl, sym, ap, subst, arith, Option, Some, None, codes}
use Rattle.std.specs.Prelude.{nat_eq, nat_lt, ◌==◌, is_some}
use Rattle.std.proofs.lemmas.Bool.{lt-ltb}
use Rattle.std.proofs.lemmas.Bool.Decides.{nat_tests}
use Rattle.std.proofs.lemmas.List.{length-append, append-nil, take_all}
use Rattle.std.proofs.Math.ListN.{drop_of_length-le}
use Rattle.php_syntax.specs.Tokens.{PlainPart, plain_part, text, inline, sign}
use Rattle.php_syntax.specs.declared.token.Sign.TheVariants as s
use Rattle.lexical_grammar.specs.Characters.{begins, before}
use Rattle.lexical_grammar.specs.Steps.{Step, inside, outside, goes}
use Rattle.lexical_grammar.specs.Rows.{row, whole}
use Rattle.lexical_grammar.specs.Words.{name_step, variable_step, number_step}
use Rattle.lexical_grammar.specs.Texts.{single_at, single_step, double_step, Unit_of, byte, unit_at, quotes, parts_of, kind_of_parts}
use Rattle.lexical_grammar.specs.Cuts.{step, lexeme_step, between_step, word_step, text_step, blank_step, line_comment_step, block_comment_step, leaving_step, ends_line, opener_step, is_opener, or_inline, CutsFrom, at_end, after_token, Cuts}
use Rattle.lexical_grammar.specs.Pieces.{BeginsNot}
use Rattle.lexical_grammar.specs.Quoting.{Quotes, nothing, plain, quote, backslash, lone, HasNoMark}

-- the first place at which a test holds
before_first : (test : List ℕ → Bool) (inner rest : List ℕ) → BeginsNot test inner rest → (rest ≡ []) ⊎ (test rest ≡ true) → before test (inner ++ rest) ≡ length inner
before_first test [] [] h end = refl
before_first test [] (b ∷ rest) h (inl e) = absurd (cc)
before_first test [] (b ∷ rest) h (inr e) = rw e refl
before_first test (b ∷ inner) rest h end = rw (h 0 (omega arith)) (ap suc (before_first test inner rest (λ n k. h (suc n) (omega arith)) end))

pub comment_ends : (inner rest : List ℕ) → BeginsNot (begins (codes "*/")) inner (codes "*/" ++ rest) → step inside (codes "/*" ++ (inner ++ (codes "*/" ++ rest))) ≡ goes None (4 + length inner) inside
unfolding step lexeme_step between_step blank_step line_comment_step block_comment_step
comment_ends inner rest h =
    rw (before_first (begins (codes "*/")) inner (codes "*/" ++ rest) h (inr refl)) (rw (lt-ltb (length inner) (length (inner ++ (codes "*/" ++ rest))) (omega (arith, length-append inner (codes "*/" ++ rest)))) refl)

pub line_comment_ends : (inner rest : List ℕ) → BeginsNot ends_line inner rest → (rest ≡ []) ⊎ (ends_line rest ≡ true) → step inside (codes "//" ++ (inner ++ rest)) ≡ goes None (2 + length inner) inside
unfolding step lexeme_step between_step blank_step line_comment_step
line_comment_ends inner rest h end = ap (λ n. goes None n inside) (omega (arith, before_first ends_line inner rest h end))

-- a byte that is not this one
is_not : (n b : ℕ) → b ≢ n → (b == n) ≡ false
is_not n b h = grind (arith, nat_tests)

-- single quotes
quoted_row : (t bytes rest : List ℕ) → Quotes t bytes → row single_at 0 (bytes ++ (39 ∷ rest)) ≡ whole t (1 + length bytes)
unfolding row
quoted_row [] [] rest nothing = refl
quoted_row [] (_ ∷ bytes) rest quoting = elim quoting [ ]
quoted_row (b ∷ t) [] rest quoting = elim quoting [ ]
quoted_row (b ∷ t) (_ ∷ bytes) rest (plain no_quote no_backslash more) = rw (is_not 39 b no_quote, is_not 92 b no_backslash) (rw (quoted_row t bytes rest more) (ap (whole (b ∷ t)) (omega arith)))
quoted_row (_ ∷ t) (_ ∷ _ ∷ bytes) rest (quote more) = rw (quoted_row t bytes rest more) (ap (whole (39 ∷ t)) (omega arith))
quoted_row (_ ∷ t) (_ ∷ _ ∷ bytes) rest (backslash more) = rw (quoted_row t bytes rest more) (ap (whole (92 ∷ t)) (omega arith))
quoted_row (_ ∷ b ∷ t) (_ ∷ _ ∷ bytes) rest (lone no_quote no_backslash more) =
    rw (is_not 39 b no_quote, is_not 92 b no_backslash) (rw (quoted_row (b ∷ t) (b ∷ bytes) rest more) (ap (whole (92 ∷ b ∷ t)) (omega arith)))

pub quoted_text : (t bytes rest : List ℕ) → Quotes t bytes → step inside (39 ∷ (bytes ++ (39 ∷ rest))) ≡ goes (Some (text t)) (2 + length bytes) inside
unfolding step lexeme_step between_step blank_step line_comment_step block_comment_step leaving_step word_step name_step variable_step number_step text_step single_step
quoted_text t bytes rest quoting = rw (quoted_row t bytes rest quoting) (ap (λ n. goes (Some (text t)) n inside) (omega arith))

-- double quotes
plain_row : (bytes rest : List ℕ) → HasNoMark bytes → row (unit_at quotes) 0 (bytes ++ (34 ∷ rest)) ≡ whole (map byte bytes) (1 + length bytes)
unfolding row unit_at
plain_row [] rest h = refl
plain_row (b ∷ bytes) rest (no_quote, no_backslash, no_dollar, no_brace, more) =
    rw (is_not 34 b no_quote, is_not 92 b no_backslash, is_not 36 b no_dollar, is_not 123 b no_brace) (rw (plain_row bytes rest more) (ap (whole (byte b ∷ map byte bytes)) (omega arith)))

bytes_are_one_part : (b : ℕ) (bytes : List ℕ) → parts_of (map byte (b ∷ bytes)) ≡ plain_part (b ∷ bytes) ∷ []
bytes_are_one_part b [] = refl
bytes_are_one_part b (c ∷ bytes) = rw (bytes_are_one_part c bytes) refl

bytes_are_text : (bytes : List ℕ) → kind_of_parts (parts_of (map byte bytes)) ≡ text bytes
bytes_are_text [] = refl
bytes_are_text (b ∷ bytes) = ap kind_of_parts (bytes_are_one_part b bytes)

pub plain_text : (bytes rest : List ℕ) → HasNoMark bytes → step inside (34 ∷ (bytes ++ (34 ∷ rest))) ≡ goes (Some (text bytes)) (2 + length bytes) inside
unfolding step lexeme_step between_step blank_step line_comment_step block_comment_step leaving_step word_step name_step variable_step number_step text_step single_step double_step
plain_text bytes rest h = rw (plain_row bytes rest h) (ap (λ kind. goes (Some kind) (1 + (1 + length bytes)) inside) (bytes_are_text bytes) ∙ ap (λ n. goes (Some (text bytes)) n inside) (omega arith))

-- outside PHP
no_opener : (o : Option Step) → is_some o ≡ false → o ≡ None
no_opener None e = refl
no_opener (Some step) e = absurd (cc)

pub without_opener : (b : ℕ) (file : List ℕ) → BeginsNot is_opener (b ∷ file) [] → Cuts (b ∷ file) (record { kind = inline (b ∷ file); at = 0 } ∷ [])
unfolding step
without_opener b file h =
    let whole_file : (b ∷ file) ++ [] ≡ b ∷ file = append-nil (b ∷ file)
    in let all : before is_opener (b ∷ file) ≡ length (b ∷ file) = ap (before is_opener) (sym whole_file) ∙ before_first is_opener (b ∷ file) [] h (inl refl)
    in let none : opener_step (b ∷ file) ≡ None = no_opener (opener_step (b ∷ file)) (ap is_opener (sym whole_file) ∙ h 0 (omega arith))
    in let taken : or_inline (opener_step (b ∷ file)) (b ∷ file) ≡ goes (Some (inline (b ∷ file))) (length (b ∷ file)) outside =
    ap (λ o. or_inline o (b ∷ file)) none ∙ ap (λ n. goes (Some (inline (take n (b ∷ file)))) n outside) all ∙ ap (λ t. goes (Some (inline t)) (length (b ∷ file)) outside) (take_all (length (b ∷ file)) (b ∷ file) (omega arith))
    in after_token taken (subst (λ bytes. CutsFrom outside (0 + length (b ∷ file)) bytes []) (sym (drop_of_length-le (b ∷ file) {i = length (b ∷ file)} (omega arith))) at_end)

-- the tag that leaves PHP
pub leaving_lf : (rest : List ℕ) → step inside (codes "?>\n" ++ rest) ≡ goes (Some (sign s.Semicolon)) 3 outside
unfolding step lexeme_step between_step blank_step line_comment_step block_comment_step leaving_step
leaving_lf rest = refl

pub leaving_crlf : (rest : List ℕ) → step inside (codes "?>\r\n" ++ rest) ≡ goes (Some (sign s.Semicolon)) 4 outside
unfolding step lexeme_step between_step blank_step line_comment_step block_comment_step leaving_step
leaving_crlf rest = refl
