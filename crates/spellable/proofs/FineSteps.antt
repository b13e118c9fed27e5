-- Each token that the lexical grammar gives is one that can be written.
use Rattle.std.proofs.Common.{◌≡◌, ℕ, ◌+◌, ◌&&◌, if◌then◌else◌, List, [], ◌∷◌, length, take, drop, refl, ap, subst, Option, Some, None}
use Rattle.std.specs.Prelude.{nat_lt, is_some, codes, map, bytes_eq}
use Rattle.std.specs.List.{prefix_len}
use Rattle.php_syntax.specs.declared.token.Sign.{Sign}
use Rattle.php_syntax.specs.declared.token.Sign.TheVariants as signs
use Rattle.php_syntax.specs.Tokens.{PlainToken, name, sign}
use Rattle.lexical_grammar.specs.Characters.{begins, before, head_is, is_blank, is_gap, is_name_byte, lower, newline_length, name_length}
use Rattle.lexical_grammar.specs.Steps.{Mode, outside, inside, Step, goes, gives, passes, faults, or_else}
use Rattle.lexical_grammar.specs.declared.fault.LexicalFault.TheVariants.{Unclosed}
use Rattle.lexical_grammar.specs.Rows.{Row, whole, broken, endless, row}
use Rattle.lexical_grammar.specs.Words.{name_step, variable_step, number_step}
use Rattle.lexical_grammar.specs.Texts.{Unit_of, unit_at, quotes, lines, single_step, single_token, single_quoted, double_step, double_token}
use Rattle.lexical_grammar.specs.Heredocs.{Body, of_heredoc, of_nowdoc, heredoc_newline, begins_name, ends_body, other_end_at, heredoc_token, nowdoc_token, body_token, body_step, headed, heredoc_step, nowdoc_step}
use Rattle.php_syntax.specs.Spelling.{spelling_of}
use Rattle.lexical_grammar.specs.Signs.{all_signs, first_sign, sign_step, cast_of, cast_in, cast_step}
use Rattle.lexical_grammar.specs.Cuts.{echo_opener, blank_behind, opened, php_opener, opener_step, or_inline, blank_step, ends_line, line_comment_step, block_comment_step, leaving_step, between_step, word_step, text_step, mark_step, lexeme_step, or_bad_byte, step, CutsFrom, at_end, after_token, after_blank}
use Rattle.spellable.proofs.FineNames.{IsKind, IsStep, IsMaybeStep, either_step, step_by, is_name_step, is_variable_step, is_number_step}
use Rattle.spellable.proofs.FineUnits.{IsTemplate, template_is}
use Rattle.spellable.proofs.FineInline.{front_is_inline}

-- what stands between tokens gives none, or a semicolon
is_between_step : (bytes : List ℕ) → IsMaybeStep (between_step bytes)
unfolding between_step blank_step line_comment_step block_comment_step leaving_step
is_between_step bytes =
    either_step (blank_step bytes) _ (step_by (head_is is_blank bytes) (passes 1) None (λ h. tt) (λ h. tt))
    (either_step (line_comment_step bytes) _ (step_by _ (passes (before ends_line bytes)) None (λ h. tt) (λ h. tt))
    (either_step (block_comment_step bytes) (leaving_step bytes)
    (step_by (begins (codes "/*") bytes) _ None (λ h. step_by _ (passes _) (faults Unclosed 0) (λ k. tt) (λ k. tt)) (λ h. tt))
    (step_by (begins (codes "?>") bytes) (Some (goes (Some (sign signs.Semicolon)) (2 + newline_length (drop 2 bytes)) outside)) None (λ h. tt) (λ h. tt))))

is_word_step : (bytes : List ℕ) → IsMaybeStep (word_step bytes)
unfolding word_step
is_word_step bytes = either_step (name_step bytes) (or_else (variable_step bytes) (number_step bytes)) (is_name_step bytes) (either_step (variable_step bytes) (number_step bytes) (is_variable_step bytes) (is_number_step bytes))

is_single_token : (r : Row ℕ) → IsMaybeStep (single_token r)
is_single_token (whole bytes n) = tt
is_single_token (broken n) = tt
is_single_token endless = tt

is_double_token : (r : Row Unit_of) → IsTemplate r → IsMaybeStep (double_token r)
is_double_token (whole us n) h = h
is_double_token (broken n) h = tt
is_double_token endless h = tt

is_heredoc_token : (head n : ℕ) (o : Option ℕ) (r : Row Unit_of) → IsTemplate r → IsMaybeStep (heredoc_token head n o r)
is_heredoc_token head n None (whole us m) h = h
is_heredoc_token head n None (broken m) h = tt
is_heredoc_token head n None endless h = tt
is_heredoc_token head n (Some k) (whole us m) h = tt
is_heredoc_token head n (Some k) (broken m) h = tt
is_heredoc_token head n (Some k) endless h = tt

is_nowdoc_token : (head n : ℕ) (o : Option ℕ) (body : List ℕ) → IsMaybeStep (nowdoc_token head n o body)
is_nowdoc_token head n None body = tt
is_nowdoc_token head n (Some k) body = tt

is_body_token : (kind : Body) (head n : ℕ) (w body : List ℕ) → IsMaybeStep (body_token kind head n w body)
is_body_token of_heredoc head n w body = is_heredoc_token head n (other_end_at w body) (row (unit_at lines) 0 body) (template_is lines body)
is_body_token of_nowdoc head n w body = is_nowdoc_token head n (other_end_at w body) body

is_body_step : (kind : Body) (head : ℕ) (w bytes : List ℕ) → IsMaybeStep (body_step kind head w bytes)
unfolding body_step
is_body_step kind head w bytes =
    let n = before (ends_body w) bytes
    in step_by (begins_name w bytes) (body_token kind head (head + length w) w []) (if nat_lt n (length bytes) then body_token kind head (head + n + heredoc_newline (drop n bytes) + length w) w (take n bytes) else faults Unclosed 0)
    (λ h. is_body_token kind head (head + length w) w [])
    (λ h. step_by (nat_lt n (length bytes)) (body_token kind head (head + n + heredoc_newline (drop n bytes) + length w) w (take n bytes)) (faults Unclosed 0) (λ k. is_body_token kind head (head + n + heredoc_newline (drop n bytes) + length w) w (take n bytes)) (λ k. tt))

is_headed : (kind : Body) (head : ℕ) (w rest : List ℕ) → IsMaybeStep (headed kind head w rest)
is_headed kind head w rest =
    step_by (nat_lt 0 (length w) && nat_lt 0 (heredoc_newline rest)) (body_step kind (head + heredoc_newline rest) w (drop (heredoc_newline rest) rest)) None (λ h. is_body_step kind (head + heredoc_newline rest) w (drop (heredoc_newline rest) rest)) (λ h. tt)

is_text_step : (bytes : List ℕ) → IsMaybeStep (text_step bytes)
unfolding text_step single_step double_step heredoc_step nowdoc_step
is_text_step bytes =
    let n = name_length (drop 3 bytes) in let m = name_length (drop 4 bytes)
    in either_step (single_step bytes) _ (step_by (begins (codes "'") bytes) (single_token (single_quoted (drop 1 bytes))) None (λ h. is_single_token (single_quoted (drop 1 bytes))) (λ h. tt))
    (either_step (double_step bytes) _ (step_by (begins (codes "\"") bytes) (double_token (row (unit_at quotes) 0 (drop 1 bytes))) None (λ h. is_double_token (row (unit_at quotes) 0 (drop 1 bytes)) (template_is quotes (drop 1 bytes))) (λ h. tt))
    (either_step (heredoc_step bytes) (nowdoc_step bytes)
    (step_by (begins (codes "<<<") bytes) (headed of_heredoc (3 + n) (take n (drop 3 bytes)) (drop n (drop 3 bytes))) None (λ h. is_headed of_heredoc (3 + n) (take n (drop 3 bytes)) (drop n (drop 3 bytes))) (λ h. tt))
    (step_by (begins (codes "<<<'") bytes && begins (codes "'") (drop m (drop 4 bytes))) (headed of_nowdoc (5 + m) (take m (drop 4 bytes)) (drop 1 (drop m (drop 4 bytes)))) None (λ h. is_headed of_nowdoc (5 + m) (take m (drop 4 bytes)) (drop 1 (drop m (drop 4 bytes)))) (λ h. tt))))

is_first_sign : (xs : List Sign) (bytes : List ℕ) → IsMaybeStep (first_sign xs bytes)
is_first_sign [] bytes = tt
is_first_sign (x ∷ xs) bytes = step_by (begins (spelling_of x) bytes) (gives (sign x) (length (spelling_of x))) (first_sign xs bytes) (λ h. tt) (λ h. is_first_sign xs bytes)

is_cast_in : (o : Option Sign) (n : ℕ) (rest : List ℕ) → IsMaybeStep (cast_in o n rest)
is_cast_in None n rest = tt
is_cast_in (Some x) n rest = step_by (begins (codes ")") rest) (gives (sign x) (1 + n)) None (λ h. tt) (λ h. tt)

is_cast_step : (bytes : List ℕ) → IsMaybeStep (cast_step bytes)
unfolding cast_step
is_cast_step bytes =
    let inner = drop 1 bytes
    in let gap = prefix_len is_gap inner
    in let word = prefix_len is_name_byte (drop gap inner)
    in let second = prefix_len is_gap (drop word (drop gap inner))
    in step_by (begins (codes "(") bytes) (cast_in (cast_of (take word (drop gap inner))) (1 + gap + word + second) (drop second (drop word (drop gap inner)))) None
    (λ h. is_cast_in (cast_of (take word (drop gap inner))) (1 + gap + word + second) (drop second (drop word (drop gap inner)))) (λ h. tt)

is_mark_step : (bytes : List ℕ) → IsMaybeStep (mark_step bytes)
unfolding mark_step sign_step
is_mark_step bytes = either_step (cast_step bytes) (sign_step bytes) (is_cast_step bytes) (is_first_sign all_signs bytes)

is_lexeme_step : (bytes : List ℕ) → IsMaybeStep (lexeme_step bytes)
unfolding lexeme_step
is_lexeme_step bytes =
    either_step (between_step bytes) (or_else (word_step bytes) (or_else (text_step bytes) (mark_step bytes))) (is_between_step bytes)
    (either_step (word_step bytes) (or_else (text_step bytes) (mark_step bytes)) (is_word_step bytes) (either_step (text_step bytes) (mark_step bytes) (is_text_step bytes) (is_mark_step bytes)))

is_opened : (o : Option ℕ) → IsMaybeStep (opened o)
is_opened None = tt
is_opened (Some n) = tt

is_opener_step : (bytes : List ℕ) → IsMaybeStep (opener_step bytes)
unfolding opener_step
is_opener_step bytes =
    either_step (echo_opener bytes) (php_opener bytes) (step_by (begins (codes "<?=") bytes) (gives (name (codes "echo")) 3) None (λ h. (refl, refl)) (λ h. tt))
    (step_by (bytes_eq (map lower (take 5 bytes)) (codes "<?php")) (opened (blank_behind (drop 5 bytes))) None (λ h. is_opened (blank_behind (drop 5 bytes))) (λ h. tt))

is_or_bad_byte : (o : Option Step) → IsMaybeStep o → IsStep (or_bad_byte o)
is_or_bad_byte None h = tt
is_or_bad_byte (Some s) h = h

is_or_inline : (b : ℕ) (bytes : List ℕ) (o : Option Step) → opener_step (b ∷ bytes) ≡ o → IsMaybeStep o → IsStep (or_inline o (b ∷ bytes))
is_or_inline b bytes None e h = front_is_inline b bytes (ap is_some e)
is_or_inline b bytes (Some s) e h = h

-- what stands at the head
is_step : (mode : Mode) (b : ℕ) (bytes : List ℕ) → IsStep (step mode (b ∷ bytes))
unfolding step
is_step outside b bytes = is_or_inline b bytes (opener_step (b ∷ bytes)) refl (is_opener_step (b ∷ bytes))
is_step inside b bytes = is_or_bad_byte (lexeme_step (b ∷ bytes)) (is_lexeme_step (b ∷ bytes))

abbrev pub EachKind : List PlainToken → Type 0
EachKind [] = Unit {0}
EachKind (t ∷ ts) = IsKind t.kind × EachKind ts

-- each token of a file is one that can be written
pub each_kind : {mode : Mode} {at : ℕ} {bytes : List ℕ} {tokens : List PlainToken} → CutsFrom mode at bytes tokens → EachKind tokens
each_kind at_end = tt
each_kind (after_token {mode = mode} {b = b} {bytes = bytes} e rest) = (subst IsStep e (is_step mode b bytes), each_kind rest)
each_kind (after_blank e rest) = each_kind rest
