-- Grammars of the token lists of texts: a grammar of the texts with their tokens, in which no byte is left (Hopcroft and Ullman, Introduction
-- to Automata Theory, 6.3: context-free languages are closed under homomorphism).
use Rattle.std.specs.Prelude.{◌≡◌, ◌↔◌, ℕ, Bool, true, false, if◌then◌else◌, List, map}
use Rattle.text_base.specs.declared.letter.Letter.{Letter}
use Rattle.text_base.specs.declared.letter.Letter.TheVariants.{OfToken}
use Rattle.text_base.specs.declared.numbers.Nt as nt
use Rattle.text_base.specs.declared.page_token.PageToken.{PageToken}
use Rattle.cfg_grammar.specs.declared.grammar.Grammar.{Grammar}
use Rattle.cfg_grammar.specs.declared.production.Production.{Production}
use Rattle.cfg_grammar.specs.declared.production.Right.{Right}
use Rattle.cfg_grammar.specs.declared.production.Right.TheVariants.{Empty, One, Two}
use Rattle.cfg_grammar.specs.declared.symbol.Symbol.{Symbol}
use Rattle.cfg_grammar.specs.declared.symbol.Symbol.TheVariants.{Range, Token, Nt}
use Rattle.cfg_grammar.specs.Derives.{Derives}
use Rattle.grammar_image.specs.Echoes.{IsSourcedImage}
use Rattle.page_decision.specs.Echoes.{IsMachineImage}
use Rattle.page_decision.specs.declared.token_grammar.TokenGrammar.{TokenGrammar}

-- the symbol is no byte
abbrev pub is_no_byte : Symbol → Bool
is_no_byte (Range range) = false
is_no_byte (Token token) = true
is_no_byte (Nt a) = true

-- a right side without its bytes
abbrev pub without_bytes : Right → Right
without_bytes Empty = Empty
without_bytes (One a) = if is_no_byte a then One a else Empty
without_bytes (Two a b) =
    if is_no_byte a then (if is_no_byte b then Two a b else One a) else (if is_no_byte b then One b else Empty)

-- a production without the bytes on its right
abbrev pub production_without_bytes : Production → Production
production_without_bytes p = record { left = p.left; right = without_bytes p.right }

-- the sentences of the productions are the token lists of the texts, and nothing else
abbrev pub DeriveTokenLists : (List ℕ → Type 0) → (List ℕ → List PageToken → Type 0) → List Production → nt.Nt → Type 0
DeriveTokenLists IsText HasTokens productions start = (letters : List Letter) → Derives productions (Nt start) letters
    ↔ ((text : List ℕ) × (tokens : List PageToken) × IsText text × HasTokens text tokens × (letters ≡ map OfToken tokens))

-- what is kept with a grammar of token lists: the grammar of the texts with their tokens, of whose productions its own are, one by one
pub record IsTokenGrammar {S : Type 0} (source : Grammar) (first : S) (steps : S → ℕ → S → List Letter → Type 0)
    (ends : S → List Letter → Type 0) (made : TokenGrammar) : Type 0 where
  pub image : IsMachineImage source first steps ends made.echo.grammar
  pub sources : IsSourcedImage source.productions.items source.start made.echo.sources.items made.echo.grammar.productions.items
  pub begins : made.echo.grammar.start ≡ record { 0 = 0 }
  pub start : made.grammar.start ≡ made.echo.grammar.start
  pub count : made.grammar.count ≡ made.echo.grammar.count
  pub productions : made.grammar.productions.items ≡ map production_without_bytes made.echo.grammar.productions.items
