-- A template that reads a variable by its keys is cut as it is.
use Rattle.std.proofs.Common.{◌≡◌, ◌∙◌, ℕ, suc, ◌+◌, ◌≤◌, false, List, [], ◌∷◌, ◌++◌, length, take, refl, sym, ap, subst, arith, Some, None, append_assoc, length-append}
use Rattle.std.specs.Prelude.{pos, negsuc, nat_lt, ◌==◌, ◌||◌, if◌then◌else◌}
use Rattle.std.specs.Fmt.{decimal}
use Rattle.std.proofs.Math.Seq.{drop-append_seam, take-append_seam}
use Rattle.php_syntax.specs.Tokens.{PlainKey, text_key, int_key, var_key, read_part, template}
use Rattle.lexical_grammar.specs.Characters.{head_is, is_name_byte, value_of, largest}
use Rattle.lexical_grammar.specs.Steps.{inside, goes}
use Rattle.lexical_grammar.specs.Rows.{Found, item, whole, row, then_row}
use Rattle.lexical_grammar.specs.Words.{name_step, variable_step, number_step, has_leading_zero}
use Rattle.lexical_grammar.specs.Texts.{KeyAt, braced_key, subscript_at, subscripts, reads, quotes, unit_at, brace_at, single_step, double_step, or_key, integer_key, variable_key}
use Rattle.lexical_grammar.specs.Cuts.{step, lexeme_step, between_step, blank_step, line_comment_step, block_comment_step, leaving_step, word_step, text_step}
use Rattle.script_grammar.specs.Terminals.{Terminal, template_terminal}
use Rattle.lexical_grammar.specs.Spelled.{IsName, IsInteger, quoted}
use Rattle.lexical_grammar.proofs.SpelledLemmas.{quoted_row, digits_are, named, at_most, apart, apart', over, digit_bounds}
use Rattle.spellable.specs.Marks.{keys_spelling}
use Rattle.spellable.proofs.Cutting.{IsCutInto, token_cut}
use Rattle.spellable.proofs.Decimals.{decimal_integer, decimal_value}

-- a key that can be written
abbrev pub IsKey : PlainKey → Type 0
IsKey (text_key t) = Unit {0}
IsKey (int_key (pos n)) = n ≤ largest
IsKey (int_key (negsuc n)) = ⊥
IsKey (var_key x) = IsName x

abbrev pub AreKeys : List PlainKey → Type 0
AreKeys [] = Unit {0}
AreKeys (k ∷ ks) = IsKey k × AreKeys ks

-- the bytes of an item are passed over
skipped : {X : Type 0} (find : List ℕ → Found X) (word rest : List ℕ) → row find (length word) (word ++ rest) ≡ row find 0 rest
unfolding row
skipped find [] rest = refl
skipped find (b ∷ word) rest = skipped find word rest

-- what is found at the head, and then the row behind its bytes
row_then : {X : Type 0} (find : List ℕ → Found X) (b : ℕ) (word rest : List ℕ) (x : X) → find (b ∷ (word ++ rest)) ≡ item x (suc (length word)) → row find 0 (b ∷ (word ++ rest)) ≡ then_row (item x (suc (length word))) (row find 0 rest)
unfolding row
row_then find b word rest x e = rw e (ap (then_row (item x (suc (length word)))) (skipped find word rest))

-- a key in brackets
key_found : (key : PlainKey) (word more : List ℕ) → braced_key (word ++ 93 ∷ more) ≡ Some (key, length word) → subscript_at (91 ∷ (word ++ 93 ∷ more)) ≡ item key (length word + 2)
unfolding subscript_at
key_found key word more e = rw e (rw (drop-append_seam word (93 ∷ more)) refl)

text_found : (t more : List ℕ) → braced_key (39 ∷ (quoted t ++ 93 ∷ more)) ≡ Some (text_key t, suc (length (quoted t)))
unfolding braced_key
text_found t more = rw (quoted_row t (93 ∷ more)) (ap (λ n. Some (text_key t, n)) (omega arith))

variable_found : (x more : List ℕ) → IsName x → braced_key (36 ∷ (x ++ 93 ∷ more)) ≡ Some (var_key x, suc (length x))
unfolding braced_key
variable_found [] more is = absurd is
variable_found (b ∷ x) more is =
    rw (named b x (93 ∷ more) is.0 is.1 refl) (rw (at_most 1 (suc (length x)) (omega arith)) (rw (take-append_seam (b ∷ x) (93 ∷ more)) (ap (λ n. Some (var_key (b ∷ x), n)) (omega arith))))

abbrev key_by : ℕ → List ℕ → KeyAt
key_by n digits = if n == 0 || has_leading_zero digits || nat_lt largest (value_of digits) then None else Some (int_key (pos (value_of digits)), n)

key_by_is : (n : ℕ) (digits : List ℕ) → (n == 0) ≡ false → has_leading_zero digits ≡ false → nat_lt largest (value_of digits) ≡ false → key_by n digits ≡ Some (int_key (pos (value_of digits)), n)
key_by_is n digits some lead small = rw (some, lead, small) refl

integer_read : (b : ℕ) (ds more : List ℕ) → IsInteger (b ∷ ds) → integer_key (b ∷ (ds ++ 93 ∷ more)) ≡ Some (int_key (pos (value_of (b ∷ ds))), suc (length ds))
integer_read b ds more is =
    ap (λ n. key_by n (take n (b ∷ (ds ++ 93 ∷ more)))) (digits_are b ds (93 ∷ more) is.0 is.1 refl) ∙ ap (key_by (suc (length ds))) (take-append_seam (b ∷ ds) (93 ∷ more))
    ∙ key_by_is (suc (length ds)) (b ∷ ds) (apart' (suc (length ds)) 0 (omega arith)) is.2 (over (suc largest) (value_of (b ∷ ds)) (omega (arith, is.3)))

integer_found : (ds more : List ℕ) → IsInteger ds → braced_key (ds ++ 93 ∷ more) ≡ Some (int_key (pos (value_of ds)), length ds)
unfolding braced_key
integer_found [] more is = absurd is
integer_found (b ∷ ds) more is =
    let bounds = digit_bounds b is.0
    in rw (apart 39 b (omega arith)) (ap (λ k. or_key k (variable_key (b ∷ (ds ++ 93 ∷ more)))) (integer_read b ds more is))

abbrev AllRow : List PlainKey → List ℕ → Type 0
AllRow ks rest = row subscript_at 0 (keys_spelling ks ++ rest) ≡ whole ks (length (keys_spelling ks))

-- a key, and the keys behind it
one_more_key : (key : PlainKey) (ks : List PlainKey) (word rest : List ℕ) → ((more : List ℕ) → braced_key (word ++ 93 ∷ more) ≡ Some (key, length word)) → AllRow ks rest
    → row subscript_at 0 (91 ∷ ((word ++ 93 ∷ keys_spelling ks) ++ rest)) ≡ whole (key ∷ ks) (suc (length (word ++ 93 ∷ keys_spelling ks)))
one_more_key key ks word rest e more =
    let behind : List ℕ = keys_spelling ks ++ rest
    in let here : subscript_at (91 ∷ ((word ++ 93 ∷ []) ++ behind)) ≡ item key (suc (length (word ++ 93 ∷ []))) =
    ap (λ w. subscript_at (91 ∷ w)) (append_assoc word (93 ∷ []) behind) ∙ key_found key word behind (e behind) ∙ ap (item key) (omega (arith, length-append word (93 ∷ [])))
    in ap (λ w. row subscript_at 0 (91 ∷ w)) (append_assoc word (93 ∷ keys_spelling ks) rest ∙ sym (append_assoc word (93 ∷ []) behind))
    ∙ row_then subscript_at 91 (word ++ 93 ∷ []) behind key here
    ∙ ap (then_row (item key (suc (length (word ++ 93 ∷ []))))) more
    ∙ ap (whole (key ∷ ks)) (omega (arith, length-append word (93 ∷ []), length-append word (93 ∷ keys_spelling ks)))

int_found : (n : ℕ) → n ≤ largest → (more : List ℕ) → braced_key (decimal n ++ 93 ∷ more) ≡ Some (int_key (pos n), length (decimal n))
int_found n h more = integer_found (decimal n) more (decimal_integer n h) ∙ ap (λ m. Some (int_key (pos m), length (decimal n))) (decimal_value n h)

keys_row : (ks : List PlainKey) (rest : List ℕ) → AreKeys ks → AllRow ks rest
unfolding row subscript_at keys_spelling
keys_row [] rest are = refl
keys_row (text_key t ∷ ks) rest are = one_more_key (text_key t) ks (39 ∷ quoted t) rest (λ more. text_found t more) (keys_row ks rest are.1)
keys_row (int_key (pos n) ∷ ks) rest are = one_more_key (int_key (pos n)) ks (decimal n) rest (λ more. int_found n are.0 more) (keys_row ks rest are.1)
keys_row (int_key (negsuc n) ∷ ks) rest are = absurd are.0
keys_row (var_key x ∷ ks) rest are = one_more_key (var_key x) ks (36 ∷ x) rest (λ more. variable_found x more are.0) (keys_row ks rest are.1)

no_name_byte : (ks : List PlainKey) (rest : List ℕ) → head_is is_name_byte (keys_spelling ks ++ rest) ≡ false
unfolding keys_spelling
no_name_byte [] rest = refl
no_name_byte (text_key t ∷ ks) rest = refl
no_name_byte (int_key z ∷ ks) rest = refl
no_name_byte (var_key x ∷ ks) rest = refl

-- the variable and its keys in braces
braces_found : (x : List ℕ) (ks : List PlainKey) (rest : List ℕ) → IsName x → AreKeys ks → brace_at (36 ∷ (x ++ (keys_spelling ks ++ rest))) ≡ item (reads x ks) ((2 + length x) + length (keys_spelling ks))
unfolding brace_at subscripts
braces_found [] ks rest is are = absurd is
braces_found (b ∷ x) ks rest is are =
    rw (named b x (keys_spelling ks ++ rest) is.0 is.1 (no_name_byte ks rest)) (rw (at_most 1 (suc (length x)) (omega arith)) (rw (drop-append_seam (b ∷ x) (keys_spelling ks ++ rest)) (rw (take-append_seam (b ∷ x) (keys_spelling ks ++ rest)) (rw (keys_row ks rest are) refl))))

-- one place of a template: braces
abbrev inner : List ℕ → List PlainKey → List ℕ
inner x ks = 36 ∷ (x ++ keys_spelling ks)

unit_found : (x : List ℕ) (ks : List PlainKey) (rest : List ℕ) → IsName x → AreKeys ks → unit_at quotes (123 ∷ (inner x ks ++ rest)) ≡ item (reads x ks) (suc (length (inner x ks)))
unfolding unit_at
unit_found x ks rest is are =
    ap (λ w. brace_at (36 ∷ w)) (append_assoc x (keys_spelling ks) rest) ∙ braces_found x ks rest is are ∙ ap (item (reads x ks)) (omega (arith, length-append x (keys_spelling ks)))

ends : (rest : List ℕ) → row (unit_at quotes) 0 (34 ∷ rest) ≡ whole [] 1
unfolding row unit_at
ends rest = refl

units_row : (x : List ℕ) (ks : List PlainKey) (rest : List ℕ) → IsName x → AreKeys ks → row (unit_at quotes) 0 (123 ∷ (inner x ks ++ 34 ∷ rest)) ≡ whole (reads x ks ∷ []) (suc (length (inner x ks)) + 1)
units_row x ks rest is are =
    row_then (unit_at quotes) 123 (inner x ks) (34 ∷ rest) (reads x ks) (unit_found x ks (34 ∷ rest) is are) ∙ ap (then_row (item (reads x ks) (suc (length (inner x ks))))) (ends rest)

read_step : (x : List ℕ) (ks : List PlainKey) (rest : List ℕ) → IsName x → AreKeys ks
    → step inside (34 ∷ 123 ∷ (inner x ks ++ 34 ∷ rest)) ≡ goes (Some (template (read_part x ks ∷ []))) (1 + (suc (length (inner x ks)) + 1)) inside
unfolding step lexeme_step between_step blank_step line_comment_step block_comment_step leaving_step word_step name_step variable_step number_step text_step single_step double_step
read_step x ks rest is are = rw (units_row x ks rest is are) refl

pub read_cut : (x : List ℕ) (ks : List PlainKey) (rest : List ℕ) (ts : List Terminal) → IsName x → AreKeys ks → IsCutInto rest ts
    → IsCutInto (34 ∷ 123 ∷ 36 ∷ (x ++ (keys_spelling ks ++ 34 ∷ 32 ∷ rest))) (template_terminal (read_part x ks ∷ []) ∷ ts)
read_cut x ks rest ts is are next =
    let word : List ℕ = 123 ∷ (inner x ks ++ 34 ∷ [])
    in let same : word ++ 32 ∷ rest ≡ 123 ∷ (inner x ks ++ 34 ∷ 32 ∷ rest) = ap (λ w. 123 ∷ w) (append_assoc (inner x ks) (34 ∷ []) (32 ∷ rest))
    in let long : suc (length word) ≡ 1 + (suc (length (inner x ks)) + 1) = omega (arith, length-append (inner x ks) (34 ∷ []))
    in let cut : step inside (34 ∷ (word ++ 32 ∷ rest)) ≡ goes (Some (template (read_part x ks ∷ []))) (suc (length word)) inside =
    ap (λ w. step inside (34 ∷ w)) same ∙ read_step x ks (32 ∷ rest) is are ∙ ap (λ n. goes (Some (template (read_part x ks ∷ []))) n inside) (sym long)
    in let P : List ℕ → Type 0 = λ w. IsCutInto (34 ∷ w) (template_terminal (read_part x ks ∷ []) ∷ ts)
    in subst P (same ∙ ap (λ w. 123 ∷ 36 ∷ w) (append_assoc x (keys_spelling ks) (34 ∷ 32 ∷ rest))) (token_cut 34 word rest (template (read_part x ks ∷ [])) ts cut next)
