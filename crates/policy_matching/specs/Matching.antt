-- What an answer says: whether each text that a grammar derives matches an expression.
use Rattle.std.specs.Prelude.{◌≡◌, ◌<◌, ℕ, List, [], ◌∷◌}
use Rattle.text_base.specs.declared.letter.Letter.{Letter}
use Rattle.text_base.specs.declared.letter.Letter.TheVariants.{OfByte}
use Rattle.cfg_grammar.specs.declared.symbol.Symbol.TheVariants.{Nt}
use Rattle.cfg_grammar.specs.declared.grammar.Grammar.{Grammar}
use Rattle.derivations.specs.declared.derivation.Derivation.{Derivation}
use Rattle.derivatives.specs.Expressions.{Expr, Matches}
use Rattle.derivatives.specs.Derivatives.{after}
use Rattle.fst_core.specs.Outputs.{DerivesText}
use Rattle.fst_core.specs.Items.{HasItems}
use Rattle.page_decision.specs.TextVerdicts.{IsDerivationOf}
use Rattle.policy_matching.specs.declared.answer.Match.{Match}
use Rattle.policy_matching.specs.declared.answer.Match.TheVariants.{All, Miss, Items, States}
use Rattle.policy_matching.specs.declared.refusal.TheConstants.{STATE_LIMIT}
use Rattle.policy_matching.specs.Outside.{HasDerivatives}

-- the grammar derives the text
abbrev pub IsTextOf : Grammar → List ℕ → Type 0
IsTextOf grammar text = DerivesText grammar.productions.items (Nt grammar.start) text

-- the derivation is one by the grammar of a text that does not match
pub record IsMiss (e : Expr) (grammar : Grammar) (derivation : Derivation) : Type 0 where
  pub text : List ℕ
  pub is_text : IsTextOf grammar text
  pub derives : IsDerivationOf grammar derivation text
  pub misses : Matches e text → ⊥

-- the machine of derivatives: by a byte it goes from an expression to the derivative, and puts out the byte; of numbers that are no bytes,
-- which no grammar derives, nothing is asked
abbrev pub DerivativeStep : Expr → ℕ → Expr → List Letter → Type 0
DerivativeStep e b d letters = (b < 256 → d ≡ after b e) × (letters ≡ OfByte b ∷ [])

-- what each answer says; a limit is passed by the items of the image under the machine that begins in the expression, or by its derivatives
abbrev pub IsAnswer : Expr → Grammar → ℕ → Match → Type 0
IsAnswer e grammar items All = (text : List ℕ) → IsTextOf grammar text → Matches e text
IsAnswer e grammar items (Miss derivation) = IsMiss e grammar derivation
IsAnswer e grammar items (Items count) = (items < count) × HasItems grammar.productions.items DerivativeStep grammar.start e count
IsAnswer e grammar items (States count) = (STATE_LIMIT < count) × HasDerivatives e count
