-- Marks that can be written: their bytes are cut as their tokens. A name stands before a bracket, so that no bracket before it begins a cast.
use Rattle.std.proofs.Common.{◌≡◌, ◌∙◌, ℕ, suc, ◌+◌, ◌<◌, ◌≤◌, Bool, true, false, List, [], ◌∷◌, ◌++◌, length, drop, refl, sym, ap, subst, arith, Option, Some, None}
use Rattle.std.specs.Prelude.{◌||◌}
use Rattle.std.specs.List.{prefix_len, list_all}
use Rattle.std.specs.Fmt.{decimal}
use Rattle.std.proofs.Math.Seq.{take-append_seam, drop-append_seam}
use Rattle.php_syntax.specs.declared.token.Sign.{Sign}
use Rattle.php_syntax.specs.declared.token.Sign.TheVariants as signs
use Rattle.script_grammar.specs.declared.keyword.Keyword.{Keyword}
use Rattle.script_grammar.specs.declared.keyword.Keyword.TheVariants as word
use Rattle.lexical_grammar.specs.Characters.{is_name_byte, is_name_start, is_digit, is_gap, lower, largest, head_is}
use Rattle.lexical_grammar.specs.Signs.{cast_step, cast_of, cast_in}
use Rattle.script_grammar.specs.Terminals.{keyword_of}
use Rattle.lexical_grammar.specs.Steps.{Step}
use Rattle.lexical_grammar.specs.Spelled.{IsName, IsInteger}
use Rattle.lexical_grammar.proofs.SpelledLemmas.{run_length, apart, apart', over, digit_bounds, name_start_high}
use Rattle.spellable.specs.Marks.{Mark, keyword, name, variable, integer, text, read, sign, outside, keyword_spelling, written, all_written}
use Rattle.spellable.specs.Spellable.{is_inline}
use Rattle.spellable.proofs.CutRead.{AreKeys}
use Rattle.spellable.proofs.FineNames.{start_passes}
use Rattle.spellable.proofs.Halves.{halves}
use Rattle.spellable.proofs.Decimals.{decimal_integer}

-- a bracket stands first
abbrev pub BeginsOpen : List Mark → Type 0
BeginsOpen ms = (rest : List Mark) × (ms ≡ sign signs.OpenParen ∷ rest)

abbrev pub AllWritable : List Mark → Type 0
AllWritable [] = Unit {0}
AllWritable (keyword k ∷ ms) = AllWritable ms
AllWritable (name w ∷ ms) = IsName w × (keyword_of w ≡ None) × BeginsOpen ms × AllWritable ms
AllWritable (variable x ∷ ms) = IsName x × AllWritable ms
AllWritable (integer n ∷ ms) = (n ≤ largest) × AllWritable ms
AllWritable (text t ∷ ms) = AllWritable ms
AllWritable (read x ks ∷ ms) = IsName x × AreKeys ks × AllWritable ms
AllWritable (sign s ∷ ms) = AllWritable ms
AllWritable (outside t ∷ ms) = (is_inline t ≡ true) × AllWritable ms

-- no cast stands where these bytes follow a bracket and a space
abbrev NoCast : List ℕ → Type 0
NoCast bytes = cast_step (40 ∷ 32 ∷ bytes) ≡ None

keyword_no_cast : (k : Keyword) (rest : List ℕ) → NoCast (keyword_spelling k ++ 32 ∷ rest)
unfolding cast_step
keyword_no_cast word.Function rest = refl
keyword_no_cast word.True rest = refl
keyword_no_cast word.False rest = refl
keyword_no_cast word.Null rest = refl
keyword_no_cast word.Echo rest = refl
keyword_no_cast word.Print rest = refl
keyword_no_cast word.If rest = refl
keyword_no_cast word.ElseIf rest = refl
keyword_no_cast word.Else rest = refl
keyword_no_cast word.EndIf rest = refl
keyword_no_cast word.While rest = refl
keyword_no_cast word.EndWhile rest = refl
keyword_no_cast word.Do rest = refl
keyword_no_cast word.For rest = refl
keyword_no_cast word.EndFor rest = refl
keyword_no_cast word.Foreach rest = refl
keyword_no_cast word.As rest = refl
keyword_no_cast word.EndForeach rest = refl
keyword_no_cast word.Break rest = refl
keyword_no_cast word.Continue rest = refl
keyword_no_cast word.Return rest = refl
keyword_no_cast word.Include rest = refl
keyword_no_cast word.Require rest = refl
keyword_no_cast word.Exit rest = refl
keyword_no_cast word.Isset rest = refl
keyword_no_cast word.Empty rest = refl
keyword_no_cast word.Array rest = refl
keyword_no_cast word.PhpEol rest = refl
keyword_no_cast word.PhpIntMax rest = refl
keyword_no_cast word.PhpIntMin rest = refl
keyword_no_cast word.Miscased rest = refl

sign_no_cast : (x : Sign) (rest : List ℕ) → NoCast (written (sign x) rest)
unfolding cast_step
sign_no_cast signs.Identical rest = refl
sign_no_cast signs.NotIdentical rest = refl
sign_no_cast signs.CoalesceAssign rest = refl
sign_no_cast signs.Equal rest = refl
sign_no_cast signs.NotEqual rest = refl
sign_no_cast signs.LessGreater rest = refl
sign_no_cast signs.LessEqual rest = refl
sign_no_cast signs.GreaterEqual rest = refl
sign_no_cast signs.DoubleArrow rest = refl
sign_no_cast signs.And rest = refl
sign_no_cast signs.Or rest = refl
sign_no_cast signs.Coalesce rest = refl
sign_no_cast signs.JoinAssign rest = refl
sign_no_cast signs.AddAssign rest = refl
sign_no_cast signs.SubAssign rest = refl
sign_no_cast signs.MulAssign rest = refl
sign_no_cast signs.RemAssign rest = refl
sign_no_cast signs.Increment rest = refl
sign_no_cast signs.Decrement rest = refl
sign_no_cast signs.Assign rest = refl
sign_no_cast signs.Less rest = refl
sign_no_cast signs.Greater rest = refl
sign_no_cast signs.Not rest = refl
sign_no_cast signs.Dot rest = refl
sign_no_cast signs.Plus rest = refl
sign_no_cast signs.Minus rest = refl
sign_no_cast signs.Star rest = refl
sign_no_cast signs.Percent rest = refl
sign_no_cast signs.Question rest = refl
sign_no_cast signs.Colon rest = refl
sign_no_cast signs.Comma rest = refl
sign_no_cast signs.Semicolon rest = refl
sign_no_cast signs.OpenParen rest = refl
sign_no_cast signs.CloseParen rest = refl
sign_no_cast signs.OpenBracket rest = refl
sign_no_cast signs.CloseBracket rest = refl
sign_no_cast signs.OpenBrace rest = refl
sign_no_cast signs.CloseBrace rest = refl
sign_no_cast signs.CastInt rest = refl
sign_no_cast signs.CastString rest = refl

-- what is left of a cast behind its word
abbrev after_word : List ℕ → ℕ → List ℕ → Option Step
after_word w n rest = cast_in (cast_of w) (1 + 1 + n + prefix_len is_gap rest) (drop (prefix_len is_gap rest) rest)

-- a word of name bytes
word_cast : (b : ℕ) (more rest : List ℕ) → is_gap b ≡ false → list_all is_name_byte (b ∷ more) ≡ true → head_is is_name_byte rest ≡ false → cast_step (40 ∷ 32 ∷ b ∷ (more ++ rest)) ≡ after_word (b ∷ more) (suc (length more)) rest
unfolding cast_step
word_cast b more rest gap all none =
    rw gap (rw (run_length is_name_byte (b ∷ more) rest all none) (rw (take-append_seam more rest) (rw (drop-append_seam more rest) refl)))

-- a bracket behind the word is no end of a cast
open_in : (o : Option Sign) (n : ℕ) (rest : List ℕ) → cast_in o n (40 ∷ rest) ≡ None
open_in None n rest = refl
open_in (Some x) n rest = refl

start_no_gap : (b : ℕ) → 32 < b → is_gap b ≡ false
start_no_gap b h = rw (apart' b 32 h, apart' b 9 (omega arith)) refl

name_no_cast : (f rest : List ℕ) → IsName f → NoCast (f ++ 32 ∷ 40 ∷ rest)
name_no_cast [] rest is = absurd is
name_no_cast (b ∷ more) rest is =
    let high = name_start_high b is.0
    in word_cast b more (32 ∷ 40 ∷ rest) (start_no_gap b (omega arith)) (rw (start_passes b is.0) is.1) refl ∙ open_in (cast_of (b ∷ more)) (1 + 1 + suc (length more) + 1) rest

digit_lower : (b : ℕ) → b < 58 → lower b ≡ b
digit_lower b h = rw (over 65 b (omega arith)) refl

digit_no_cast : (b : ℕ) (more : List ℕ) → b < 58 → cast_of (b ∷ more) ≡ None
digit_no_cast b more h = rw (digit_lower b h) (rw (apart b 105 (omega arith), apart b 115 (omega arith)) refl)

digit_is_byte : (b : ℕ) → is_digit b ≡ true → is_name_byte b ≡ true
digit_is_byte b h = by (is_name_start b)
  where
    by : (v : Bool) → (v || is_digit b) ≡ true
    by true = refl
    by false = h

digits_are_bytes : (ds : List ℕ) → list_all is_digit ds ≡ true → list_all is_name_byte ds ≡ true
digits_are_bytes [] h = refl
digits_are_bytes (b ∷ ds) h = let both = halves (is_digit b) (list_all is_digit ds) h in rw (digit_is_byte b both.0) (digits_are_bytes ds both.1)

integer_no_cast : (ds rest : List ℕ) → IsInteger ds → NoCast (ds ++ 32 ∷ rest)
integer_no_cast [] rest is = absurd is
integer_no_cast (b ∷ more) rest is =
    let bounds = digit_bounds b is.0
    in word_cast b more (32 ∷ rest) (start_no_gap b (omega arith)) (digits_are_bytes (b ∷ more) (rw is.0 is.1)) refl
    ∙ ap (λ o. cast_in o (1 + 1 + suc (length more) + prefix_len is_gap (32 ∷ rest)) (drop (prefix_len is_gap (32 ∷ rest)) (32 ∷ rest))) (digit_no_cast b more bounds.1)

pub no_cast : (ms : List Mark) → AllWritable ms → cast_step (40 ∷ 32 ∷ all_written ms) ≡ None
unfolding cast_step all_written
no_cast [] all = refl
no_cast (keyword k ∷ ms) all = keyword_no_cast k (all_written ms)
no_cast (name w ∷ ms) all =
    let P : List Mark → Type 0 = λ x. cast_step (40 ∷ 32 ∷ (w ++ 32 ∷ all_written x)) ≡ None
    in subst P (sym all.2.1) (name_no_cast w (32 ∷ all_written all.2.0) all.0)
no_cast (variable x ∷ ms) all = refl
no_cast (integer n ∷ ms) all = integer_no_cast (decimal n) (all_written ms) (decimal_integer n all.0)
no_cast (text t ∷ ms) all = refl
no_cast (read x ks ∷ ms) all = refl
no_cast (sign s ∷ ms) all = sign_no_cast s (all_written ms)
no_cast (outside t ∷ ms) all = refl
