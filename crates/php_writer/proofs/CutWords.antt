-- Keywords and signs are cut as they are spelled.
use Rattle.std.proofs.Common.{◌≡◌, ℕ, List, [], ◌∷◌, refl, subst, None}
use Rattle.php_syntax.specs.declared.token.Sign.{Sign}
use Rattle.php_syntax.specs.declared.token.Sign.TheVariants as signs
use Rattle.script_grammar.specs.declared.keyword.Keyword.{Keyword}
use Rattle.script_grammar.specs.declared.keyword.Keyword.TheVariants as word
use Rattle.php_syntax.specs.Tokens.{name, sign}
use Rattle.lexical_grammar.specs.Signs.{cast_step}
use Rattle.script_grammar.specs.Terminals.{Terminal, terminal_of, word_terminal, sign_terminal}
use Rattle.lexical_grammar.specs.Spelled.{IsName}
use Rattle.lexical_grammar.proofs.SpelledLemmas.{sign_spelled}
use Rattle.spellable.specs.Marks.{keyword_spelling, written}
use Rattle.spellable.specs.Marks as mark
use Rattle.spellable.proofs.Cutting.{IsCutInto, token_cut, name_cut, bracket_cut}

keyword_name : (k : Keyword) → IsName (keyword_spelling k)
keyword_name word.Function = (refl, refl)
keyword_name word.True = (refl, refl)
keyword_name word.False = (refl, refl)
keyword_name word.Null = (refl, refl)
keyword_name word.Echo = (refl, refl)
keyword_name word.Print = (refl, refl)
keyword_name word.If = (refl, refl)
keyword_name word.ElseIf = (refl, refl)
keyword_name word.Else = (refl, refl)
keyword_name word.EndIf = (refl, refl)
keyword_name word.While = (refl, refl)
keyword_name word.EndWhile = (refl, refl)
keyword_name word.Do = (refl, refl)
keyword_name word.For = (refl, refl)
keyword_name word.EndFor = (refl, refl)
keyword_name word.Foreach = (refl, refl)
keyword_name word.As = (refl, refl)
keyword_name word.EndForeach = (refl, refl)
keyword_name word.Break = (refl, refl)
keyword_name word.Continue = (refl, refl)
keyword_name word.Return = (refl, refl)
keyword_name word.Include = (refl, refl)
keyword_name word.Require = (refl, refl)
keyword_name word.Exit = (refl, refl)
keyword_name word.Isset = (refl, refl)
keyword_name word.Empty = (refl, refl)
keyword_name word.Array = (refl, refl)
keyword_name word.PhpEol = (refl, refl)
keyword_name word.PhpIntMax = (refl, refl)
keyword_name word.PhpIntMin = (refl, refl)
keyword_name word.Miscased = (refl, refl)

keyword_is : (k : Keyword) → terminal_of (name (keyword_spelling k)) ≡ word_terminal k
keyword_is word.Function = refl
keyword_is word.True = refl
keyword_is word.False = refl
keyword_is word.Null = refl
keyword_is word.Echo = refl
keyword_is word.Print = refl
keyword_is word.If = refl
keyword_is word.ElseIf = refl
keyword_is word.Else = refl
keyword_is word.EndIf = refl
keyword_is word.While = refl
keyword_is word.EndWhile = refl
keyword_is word.Do = refl
keyword_is word.For = refl
keyword_is word.EndFor = refl
keyword_is word.Foreach = refl
keyword_is word.As = refl
keyword_is word.EndForeach = refl
keyword_is word.Break = refl
keyword_is word.Continue = refl
keyword_is word.Return = refl
keyword_is word.Include = refl
keyword_is word.Require = refl
keyword_is word.Exit = refl
keyword_is word.Isset = refl
keyword_is word.Empty = refl
keyword_is word.Array = refl
keyword_is word.PhpEol = refl
keyword_is word.PhpIntMax = refl
keyword_is word.PhpIntMin = refl
keyword_is word.Miscased = refl

pub keyword_cut : (k : Keyword) (rest : List ℕ) (ts : List Terminal) → IsCutInto rest ts → IsCutInto (written (mark.keyword k) rest) (word_terminal k ∷ ts)
keyword_cut k rest ts next =
    let P : Terminal → Type 0 = λ t. IsCutInto (written (mark.keyword k) rest) (t ∷ ts)
    in subst P (keyword_is k) (name_cut (keyword_spelling k) rest ts (keyword_name k) next)

pub sign_cut : (x : Sign) (rest : List ℕ) (ts : List Terminal) → cast_step (40 ∷ 32 ∷ rest) ≡ None → IsCutInto rest ts → IsCutInto (written (mark.sign x) rest) (sign_terminal x ∷ ts)
sign_cut signs.Identical rest ts h next = token_cut 61 (61 ∷ 61 ∷ []) rest (sign signs.Identical) ts (sign_spelled signs.Identical rest (λ e. cc)) next
sign_cut signs.NotIdentical rest ts h next = token_cut 33 (61 ∷ 61 ∷ []) rest (sign signs.NotIdentical) ts (sign_spelled signs.NotIdentical rest (λ e. cc)) next
sign_cut signs.CoalesceAssign rest ts h next = token_cut 63 (63 ∷ 61 ∷ []) rest (sign signs.CoalesceAssign) ts (sign_spelled signs.CoalesceAssign rest (λ e. cc)) next
sign_cut signs.Equal rest ts h next = token_cut 61 (61 ∷ []) rest (sign signs.Equal) ts (sign_spelled signs.Equal rest (λ e. cc)) next
sign_cut signs.NotEqual rest ts h next = token_cut 33 (61 ∷ []) rest (sign signs.NotEqual) ts (sign_spelled signs.NotEqual rest (λ e. cc)) next
sign_cut signs.LessGreater rest ts h next = token_cut 60 (62 ∷ []) rest (sign signs.LessGreater) ts (sign_spelled signs.LessGreater rest (λ e. cc)) next
sign_cut signs.LessEqual rest ts h next = token_cut 60 (61 ∷ []) rest (sign signs.LessEqual) ts (sign_spelled signs.LessEqual rest (λ e. cc)) next
sign_cut signs.GreaterEqual rest ts h next = token_cut 62 (61 ∷ []) rest (sign signs.GreaterEqual) ts (sign_spelled signs.GreaterEqual rest (λ e. cc)) next
sign_cut signs.DoubleArrow rest ts h next = token_cut 61 (62 ∷ []) rest (sign signs.DoubleArrow) ts (sign_spelled signs.DoubleArrow rest (λ e. cc)) next
sign_cut signs.And rest ts h next = token_cut 38 (38 ∷ []) rest (sign signs.And) ts (sign_spelled signs.And rest (λ e. cc)) next
sign_cut signs.Or rest ts h next = token_cut 124 (124 ∷ []) rest (sign signs.Or) ts (sign_spelled signs.Or rest (λ e. cc)) next
sign_cut signs.Coalesce rest ts h next = token_cut 63 (63 ∷ []) rest (sign signs.Coalesce) ts (sign_spelled signs.Coalesce rest (λ e. cc)) next
sign_cut signs.JoinAssign rest ts h next = token_cut 46 (61 ∷ []) rest (sign signs.JoinAssign) ts (sign_spelled signs.JoinAssign rest (λ e. cc)) next
sign_cut signs.AddAssign rest ts h next = token_cut 43 (61 ∷ []) rest (sign signs.AddAssign) ts (sign_spelled signs.AddAssign rest (λ e. cc)) next
sign_cut signs.SubAssign rest ts h next = token_cut 45 (61 ∷ []) rest (sign signs.SubAssign) ts (sign_spelled signs.SubAssign rest (λ e. cc)) next
sign_cut signs.MulAssign rest ts h next = token_cut 42 (61 ∷ []) rest (sign signs.MulAssign) ts (sign_spelled signs.MulAssign rest (λ e. cc)) next
sign_cut signs.RemAssign rest ts h next = token_cut 37 (61 ∷ []) rest (sign signs.RemAssign) ts (sign_spelled signs.RemAssign rest (λ e. cc)) next
sign_cut signs.Increment rest ts h next = token_cut 43 (43 ∷ []) rest (sign signs.Increment) ts (sign_spelled signs.Increment rest (λ e. cc)) next
sign_cut signs.Decrement rest ts h next = token_cut 45 (45 ∷ []) rest (sign signs.Decrement) ts (sign_spelled signs.Decrement rest (λ e. cc)) next
sign_cut signs.Assign rest ts h next = token_cut 61 ([]) rest (sign signs.Assign) ts (sign_spelled signs.Assign rest (λ e. cc)) next
sign_cut signs.Less rest ts h next = token_cut 60 ([]) rest (sign signs.Less) ts (sign_spelled signs.Less rest (λ e. cc)) next
sign_cut signs.Greater rest ts h next = token_cut 62 ([]) rest (sign signs.Greater) ts (sign_spelled signs.Greater rest (λ e. cc)) next
sign_cut signs.Not rest ts h next = token_cut 33 ([]) rest (sign signs.Not) ts (sign_spelled signs.Not rest (λ e. cc)) next
sign_cut signs.Dot rest ts h next = token_cut 46 ([]) rest (sign signs.Dot) ts (sign_spelled signs.Dot rest (λ e. cc)) next
sign_cut signs.Plus rest ts h next = token_cut 43 ([]) rest (sign signs.Plus) ts (sign_spelled signs.Plus rest (λ e. cc)) next
sign_cut signs.Minus rest ts h next = token_cut 45 ([]) rest (sign signs.Minus) ts (sign_spelled signs.Minus rest (λ e. cc)) next
sign_cut signs.Star rest ts h next = token_cut 42 ([]) rest (sign signs.Star) ts (sign_spelled signs.Star rest (λ e. cc)) next
sign_cut signs.Percent rest ts h next = token_cut 37 ([]) rest (sign signs.Percent) ts (sign_spelled signs.Percent rest (λ e. cc)) next
sign_cut signs.Question rest ts h next = token_cut 63 ([]) rest (sign signs.Question) ts (sign_spelled signs.Question rest (λ e. cc)) next
sign_cut signs.Colon rest ts h next = token_cut 58 ([]) rest (sign signs.Colon) ts (sign_spelled signs.Colon rest (λ e. cc)) next
sign_cut signs.Comma rest ts h next = token_cut 44 ([]) rest (sign signs.Comma) ts (sign_spelled signs.Comma rest (λ e. cc)) next
sign_cut signs.Semicolon rest ts h next = token_cut 59 ([]) rest (sign signs.Semicolon) ts (sign_spelled signs.Semicolon rest (λ e. cc)) next
sign_cut signs.OpenParen rest ts h next = bracket_cut rest ts h next
sign_cut signs.CloseParen rest ts h next = token_cut 41 ([]) rest (sign signs.CloseParen) ts (sign_spelled signs.CloseParen rest (λ e. cc)) next
sign_cut signs.OpenBracket rest ts h next = token_cut 91 ([]) rest (sign signs.OpenBracket) ts (sign_spelled signs.OpenBracket rest (λ e. cc)) next
sign_cut signs.CloseBracket rest ts h next = token_cut 93 ([]) rest (sign signs.CloseBracket) ts (sign_spelled signs.CloseBracket rest (λ e. cc)) next
sign_cut signs.OpenBrace rest ts h next = token_cut 123 ([]) rest (sign signs.OpenBrace) ts (sign_spelled signs.OpenBrace rest (λ e. cc)) next
sign_cut signs.CloseBrace rest ts h next = token_cut 125 ([]) rest (sign signs.CloseBrace) ts (sign_spelled signs.CloseBrace rest (λ e. cc)) next
sign_cut signs.CastInt rest ts h next = token_cut 40 (105 ∷ 110 ∷ 116 ∷ 41 ∷ []) rest (sign signs.CastInt) ts (sign_spelled signs.CastInt rest (λ e. cc)) next
sign_cut signs.CastString rest ts h next = token_cut 40 (115 ∷ 116 ∷ 114 ∷ 105 ∷ 110 ∷ 103 ∷ 41 ∷ []) rest (sign signs.CastString) ts (sign_spelled signs.CastString rest (λ e. cc)) next
