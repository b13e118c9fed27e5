-- What stands before the value of an attribute.
use Rattle.std.specs.Prelude.{ℕ, List, codes}
use Rattle.derivatives.specs.Expressions.{Expr}
use Rattle.derivatives.specs.Derivatives.{chain_of, either_of}
use Rattle.page_forms.specs.Words.{word, gap}

-- white space and a name
abbrev pub behind_name : List ℕ → Expr → Expr
behind_name name e = chain_of gap (chain_of (word name) e)

-- `yes` or `no`
abbrev pub yes_or_no : Expr
yes_or_no = either_of (word (codes "yes")) (word (codes "no"))
