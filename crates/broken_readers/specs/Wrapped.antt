-- Expressions with a word before or behind them.
use Rattle.std.specs.Prelude.{ℕ, List}
use Rattle.derivatives.specs.Expressions.{Expr}
use Rattle.derivatives.specs.Derivatives.{chain_of}
use Rattle.page_forms.specs.Words.{word}

-- this word behind it
abbrev pub closed_by : List ℕ → Expr → Expr
closed_by w e = chain_of e (word w)

-- this word before it
abbrev pub opened_by : List ℕ → Expr → Expr
opened_by w e = chain_of (word w) e
