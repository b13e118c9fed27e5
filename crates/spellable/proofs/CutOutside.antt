-- Bytes outside PHP, between the tag that leaves it and the one that opens it, are cut as they are.
use Rattle.std.proofs.Common.{◌≡◌, ◌∙◌, ℕ, suc, ◌+◌, ◌≤◌, Bool, true, false, ◌&&◌, ◌||◌, if◌then◌else◌, List, [], ◌∷◌, ◌++◌, length, drop, take, refl, sym, ap, subst, arith, Option, Some, None, append_assoc, length-append}
use Rattle.std.specs.Prelude.{is_some, codes, bytes_eq}
use Rattle.std.proofs.lemmas.Bool.Decides.{nat_tests}
use Rattle.std.proofs.Math.Seq.{drop-append_seam, take-append_seam}
use Rattle.php_syntax.specs.declared.token.Sign.TheVariants as signs
use Rattle.php_syntax.specs.Tokens.{inline, name, sign}
use Rattle.lexical_grammar.specs.Characters.{before, begins, is_gap, is_line_end, lower, newline_length}
use Rattle.lexical_grammar.specs.Steps.{outside, inside, Step, goes, or_else}
use Rattle.lexical_grammar.specs.Cuts.{step, or_inline, opened, opener_step, is_opener, lexeme_step, between_step, blank_step, line_comment_step, block_comment_step, leaving_step, CutsFrom, after_token, after_blank}
use Rattle.script_grammar.specs.Terminals.{Terminal, inline_terminal, sign_terminal}
use Rattle.spellable.specs.Spellable.{is_inline}
use Rattle.spellable.proofs.Cutting.{IsCutInto}

-- whether an opener stands at the head, by four tests of it
four_tests : (p q g l : Bool) (echo : Step) (n : ℕ) → is_some (or_else (if p then Some echo else None) (if q then opened (if g then Some 1 else if l then Some n else None) else None)) ≡ (p || (q && (g || l)))
four_tests true q g l echo n = refl
four_tests false true true l echo n = refl
four_tests false true false true echo n = refl
four_tests false true false false echo n = refl
four_tests false false g l echo n = refl

-- `<?php` in any case
abbrev pub is_php : ℕ → ℕ → ℕ → ℕ → ℕ → Bool
is_php a b c d e = bytes_eq (lower a ∷ lower b ∷ lower c ∷ lower d ∷ lower e ∷ []) (codes "<?php")

-- six bytes say whether an opener stands at the head
pub six_bytes : (a b c d e f : ℕ) (rest : List ℕ) → is_opener (a ∷ b ∷ c ∷ d ∷ e ∷ f ∷ rest) ≡ (begins (codes "<?=") (a ∷ b ∷ c ∷ []) || (is_php a b c d e && (is_gap f || is_line_end f)))
unfolding opener_step
six_bytes a b c d e f rest = four_tests (begins (codes "<?=") (a ∷ b ∷ c ∷ [])) (is_php a b c d e) (is_gap f) (is_line_end f) (goes (Some (name (codes "echo"))) 3 inside) (newline_length (f ∷ rest))

pub opener_more : (x rest : List ℕ) → 6 ≤ length x → is_opener (x ++ rest) ≡ is_opener x
opener_more (a ∷ b ∷ c ∷ d ∷ e ∷ f ∷ x) rest h = six_bytes a b c d e f (x ++ rest) ∙ sym (six_bytes a b c d e f x)
opener_more _ rest h = absurd (omega arith)

abbrev pub opener : List ℕ
opener = 60 ∷ 63 ∷ 112 ∷ 104 ∷ 112 ∷ 32 ∷ []

at_opener : (rest : List ℕ) → before is_opener (opener ++ rest) ≡ 0
unfolding opener_step
at_opener rest = refl

one_more_byte : (b : ℕ) (t rest : List ℕ) (v : Bool) → is_opener (b ∷ (t ++ opener)) ≡ v → is_opener (b ∷ (t ++ (opener ++ rest))) ≡ is_opener (b ∷ (t ++ opener)) → before is_opener (b ∷ (t ++ opener)) ≡ suc (length t)
    → (before is_opener (t ++ opener) ≡ length t → before is_opener (t ++ (opener ++ rest)) ≡ length t) → before is_opener (b ∷ (t ++ (opener ++ rest))) ≡ suc (length t)
one_more_byte b t rest true e same h more = absurd (let zero_is = rw e at h in omega arith)
one_more_byte b t rest false e same h more = rw (same ∙ e) (let n = rw e at h in omega (arith, more (omega arith)))

long : (b : ℕ) (t : List ℕ) → 6 ≤ length (b ∷ (t ++ opener))
long b t = omega (arith, length-append t opener)

inline_before : (t rest : List ℕ) → before is_opener (t ++ opener) ≡ length t → before is_opener (t ++ (opener ++ rest)) ≡ length t
inline_before [] rest h = at_opener rest
inline_before (b ∷ t) rest h =
    let P : List ℕ → Type 0 = λ x. is_opener (b ∷ x) ≡ is_opener (b ∷ (t ++ opener))
    in let same : is_opener (b ∷ (t ++ (opener ++ rest))) ≡ is_opener (b ∷ (t ++ opener)) = subst P (append_assoc t opener rest) (opener_more (b ∷ (t ++ opener)) rest (long b t))
    in one_more_byte b t rest (is_opener (b ∷ (t ++ opener))) refl same h (inline_before t rest)

none_of : (o : Option Step) → is_some o ≡ false → o ≡ None
none_of None h = refl
none_of (Some a) h = absurd (cc)

no_opener : (b : ℕ) (t : List ℕ) (n : ℕ) (v : Bool) → is_opener (b ∷ t) ≡ v → before is_opener (b ∷ t) ≡ suc n → is_opener (b ∷ t) ≡ false
no_opener b t n true e h = absurd (let zero_is = rw e at h in omega arith)
no_opener b t n false e h = e

-- the bytes, up to the opener
inline_step : (b : ℕ) (t rest : List ℕ) → before is_opener (b ∷ (t ++ (opener ++ rest))) ≡ suc (length t)
    → step outside (b ∷ (t ++ (opener ++ rest))) ≡ goes (Some (inline (b ∷ t))) (suc (length t)) outside
unfolding step
inline_step b t rest h =
    let bytes : List ℕ = b ∷ (t ++ (opener ++ rest))
    in let none : opener_step bytes ≡ None = none_of (opener_step bytes) (no_opener b (t ++ (opener ++ rest)) (length t) (is_opener bytes) refl h)
    in ap (λ o. or_inline o bytes) none ∙ ap (λ n. goes (Some (inline (take n bytes))) n outside) h ∙ ap (λ w. goes (Some (inline w)) (suc (length t)) outside) (take-append_seam (b ∷ t) (opener ++ rest))

leaving : (rest : List ℕ) → step inside (63 ∷ 62 ∷ 10 ∷ rest) ≡ goes (Some (sign signs.Semicolon)) 3 outside
unfolding step lexeme_step between_step blank_step line_comment_step block_comment_step leaving_step
leaving rest = refl

pub opening : (rest : List ℕ) → step outside (opener ++ rest) ≡ goes None 6 inside
unfolding step opener_step
opening rest = refl

inline_is : (b : ℕ) (t : List ℕ) → is_inline (b ∷ t) ≡ true → before is_opener (b ∷ (t ++ opener)) ≡ suc (length t)
inline_is b t h = grind (arith, nat_tests)

pub outside_cut : (t rest : List ℕ) (ts : List Terminal) → is_inline t ≡ true → IsCutInto rest ts → IsCutInto (63 ∷ 62 ∷ 10 ∷ (t ++ (opener ++ rest))) (sign_terminal signs.Semicolon ∷ inline_terminal t ∷ ts)
outside_cut [] rest ts h next at = absurd (cc)
outside_cut (b ∷ t) rest ts h next at =
    let behind = next (((at + 3) + suc (length t)) + 6)
    in let opens : CutsFrom outside ((at + 3) + suc (length t)) (opener ++ rest) behind.tokens = after_blank (opening rest) behind.cut
    in let P : List ℕ → Type 0 = λ bytes. CutsFrom outside ((at + 3) + suc (length t)) bytes behind.tokens
    in let seam : drop (suc (length t)) (b ∷ (t ++ (opener ++ rest))) ≡ opener ++ rest = drop-append_seam (b ∷ t) (opener ++ rest)
    in let text : CutsFrom outside (at + 3) (b ∷ (t ++ (opener ++ rest))) (record { kind = inline (b ∷ t); at = at + 3 } ∷ behind.tokens) = after_token (inline_step b t rest (inline_before (b ∷ t) rest (inline_is b t h))) (subst P (sym seam) opens)
    in record {
      tokens = record { kind = sign signs.Semicolon; at = at } ∷ record { kind = inline (b ∷ t); at = at + 3 } ∷ behind.tokens;
      cut = after_token (leaving (b ∷ (t ++ (opener ++ rest)))) text;
      are = ap (λ x. sign_terminal signs.Semicolon ∷ inline_terminal (b ∷ t) ∷ x) behind.are;
    }
