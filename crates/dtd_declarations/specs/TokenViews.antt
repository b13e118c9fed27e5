-- What the tokens of the code stand for.
use Rattle.std.specs.Prelude.{ℕ, List, map, Option, Some, None}
use Rattle.std.specs.Borrow.{Bor}
use Rattle.dtd_texts.specs.Tokens.{Token, gap, word, literal, opening, closing, bar, comma, question, star, plus, hash, percent, equals, other}
use Rattle.dtd_declarations.specs.declared.token.Token.{Token as CodeToken}
use Rattle.dtd_declarations.specs.declared.token.Token.TheVariants.{Gap, Word, Literal, Opening, Closing, Bar, Comma, Question, Star, Plus, Hash, Percent, Equals, Other}

-- the plain form of a token
abbrev pub token_of : CodeToken → Token
token_of Gap = gap
token_of (Word w) = word w.now
token_of (Literal text) = literal text.now
token_of Opening = opening
token_of Closing = closing
token_of Bar = bar
token_of Comma = comma
token_of Question = question
token_of Star = star
token_of Plus = plus
token_of Hash = hash
token_of Percent = percent
token_of Equals = equals
token_of Other = other

-- the plain form of tokens in their order
abbrev pub tokens_of : List CodeToken → List Token
tokens_of ts = map token_of ts

-- the plain form of a text, if there is one
abbrev pub maybe_text : Option (Bor (List ℕ)) → Option (List ℕ)
maybe_text None = None
maybe_text (Some text) = Some text.now

-- the plain form of tokens, if there are some
abbrev pub maybe_tokens : Option (Bor (List CodeToken)) → Option (List Token)
maybe_tokens None = None
maybe_tokens (Some ts) = Some (tokens_of ts.now)

-- a text and what stands behind it
abbrev pub found : Option (Bor (List ℕ) × Bor (List CodeToken)) → Option (List ℕ × List Token)
found None = None
found (Some x) = Some (x.0.now, tokens_of x.1.now)
