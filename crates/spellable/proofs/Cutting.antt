-- Marks of one token are cut into the token of their terminal.
use Rattle.std.proofs.Common.{◌≡◌, ◌∙◌, ℕ, suc, ◌+◌, List, [], ◌∷◌, ◌++◌, length, drop, refl, sym, ap, subst, arith, Some, None}
use Rattle.std.specs.Prelude.{pos}
use Rattle.std.proofs.Math.Seq.{drop-append_seam}
use Rattle.php_syntax.specs.declared.token.Sign.TheVariants as signs
use Rattle.lexical_grammar.specs.Characters.{value_of}
use Rattle.php_syntax.specs.Tokens.{PlainKind, PlainToken, name, variable, integer, text, sign}
use Rattle.lexical_grammar.specs.Steps.{inside, goes}
use Rattle.lexical_grammar.specs.Signs.{cast_step}
use Rattle.lexical_grammar.specs.Cuts.{step, lexeme_step, between_step, blank_step, CutsFrom, after_token, after_blank}
use Rattle.script_grammar.specs.Terminals.{Terminal, terminal_of, terminals, variable_terminal, int_terminal, text_terminal, sign_terminal}
use Rattle.lexical_grammar.specs.Spelled.{IsName, IsInteger, quoted}
use Rattle.lexical_grammar.proofs.SpelledLemmas.{names_are_cut, variables_are_cut, integers_are_cut, text_spelled, bracket_spelled}

-- in PHP the bytes are cut into tokens of these terminals, wherever they stand
pub record IsCut (at : ℕ) (bytes : List ℕ) (ts : List Terminal) : Type 0 where
  pub tokens : List PlainToken
  pub cut : CutsFrom inside at bytes tokens
  pub are : terminals tokens ≡ ts

abbrev pub IsCutInto : List ℕ → List Terminal → Type 0
IsCutInto bytes ts = (at : ℕ) → IsCut at bytes ts

blank_cut : (rest : List ℕ) → step inside (32 ∷ rest) ≡ goes None 1 inside
unfolding step lexeme_step between_step blank_step
blank_cut rest = refl

-- a token and the blank behind it
pub token_cut : (b : ℕ) (word rest : List ℕ) (kind : PlainKind) (ts : List Terminal) → step inside (b ∷ (word ++ 32 ∷ rest)) ≡ goes (Some kind) (suc (length word)) inside
    → IsCutInto rest ts → IsCutInto (b ∷ (word ++ 32 ∷ rest)) (terminal_of kind ∷ ts)
token_cut b word rest kind ts e next at =
    let behind = next ((at + suc (length word)) + 1)
    in let after : CutsFrom inside (at + suc (length word)) (32 ∷ rest) behind.tokens = after_blank (blank_cut rest) behind.cut
    in let seam : drop (suc (length word)) (b ∷ (word ++ 32 ∷ rest)) ≡ 32 ∷ rest = drop-append_seam (b ∷ word) (32 ∷ rest)
    in let P : List ℕ → Type 0 = λ bytes. CutsFrom inside (at + suc (length word)) bytes behind.tokens
    in record { tokens = record { kind = kind; at = at } ∷ behind.tokens; cut = after_token e (subst P (sym seam) after); are = ap (λ x. terminal_of kind ∷ x) behind.are }

pub bracket_cut : (rest : List ℕ) (ts : List Terminal) → cast_step (40 ∷ 32 ∷ rest) ≡ None → IsCutInto rest ts → IsCutInto (40 ∷ 32 ∷ rest) (sign_terminal signs.OpenParen ∷ ts)
bracket_cut rest ts h next = token_cut 40 [] rest (sign signs.OpenParen) ts (bracket_spelled (32 ∷ rest) h) next

pub name_cut : (w rest : List ℕ) (ts : List Terminal) → IsName w → IsCutInto rest ts → IsCutInto (w ++ 32 ∷ rest) (terminal_of (name w) ∷ ts)
name_cut [] rest ts is next = absurd is
name_cut (b ∷ more) rest ts is next = token_cut b more rest (name (b ∷ more)) ts (names_are_cut (b ∷ more) (32 ∷ rest) is refl) next

pub variable_cut : (x rest : List ℕ) (ts : List Terminal) → IsName x → IsCutInto rest ts → IsCutInto (36 ∷ (x ++ 32 ∷ rest)) (variable_terminal x ∷ ts)
variable_cut x rest ts is next = token_cut 36 x rest (variable x) ts (variables_are_cut x (32 ∷ rest) is refl) next

pub integer_cut : (digits rest : List ℕ) (n : ℕ) (ts : List Terminal) → IsInteger digits → value_of digits ≡ n → IsCutInto rest ts → IsCutInto (digits ++ 32 ∷ rest) (int_terminal (pos n) ∷ ts)
integer_cut [] rest n ts is same next = absurd is
integer_cut (b ∷ more) rest n ts is same next =
    let P : ℕ → Type 0 = λ m. IsCutInto (b ∷ (more ++ 32 ∷ rest)) (int_terminal (pos m) ∷ ts)
    in subst P same (token_cut b more rest (integer (pos (value_of (b ∷ more)))) ts (integers_are_cut (b ∷ more) (32 ∷ rest) is (refl, refl, refl)) next)

pub text_cut : (t rest : List ℕ) (ts : List Terminal) → IsCutInto rest ts → IsCutInto (39 ∷ (quoted t ++ 32 ∷ rest)) (text_terminal t ∷ ts)
text_cut t rest ts next = token_cut 39 (quoted t) rest (text t) ts (text_spelled t (32 ∷ rest) ∙ ap (λ n. goes (Some (text t)) n inside) (omega arith)) next
