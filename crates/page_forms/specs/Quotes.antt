-- Texts in quotes, and attributes by what stands in their quotes (XML 1.0, 2.3 and 3.1).
use Rattle.std.specs.Prelude.{ℕ, List, codes}
use Rattle.derivatives.specs.Expressions.{Expr, range}
use Rattle.derivatives.specs.Derivatives.{chain_of, either_of}
use Rattle.page_forms.specs.Words.{word, blanks, gap}

-- a text in either quote, by what may stand between two such quotes
abbrev pub quoted : (ℕ → Expr) → Expr
quoted between = either_of (chain_of (range 34 34) (chain_of (between 34) (range 34 34))) (chain_of (range 39 39) (chain_of (between 39) (range 39 39)))

-- white space, this name, `=` with white space round it, and a text in either quote
abbrev pub attribute_of : List ℕ → (ℕ → Expr) → Expr
attribute_of name between = chain_of gap (chain_of (word name) (chain_of blanks (chain_of (word (codes "=")) (chain_of blanks (quoted between)))))
