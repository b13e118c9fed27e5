-- Systems that take no text from outside: what comes from there stands in a system as a range of several bytes, and an operation with a
-- text of it as `Any`. No public clause cites this.
use Rattle.std.specs.Prelude.{Bool, true, false, nat_eq}
use Rattle.std.specs.List.{list_all}
use Rattle.cfg_grammar.specs.declared.symbol.Symbol.{Symbol}
use Rattle.cfg_grammar.specs.declared.symbol.Symbol.TheVariants.{Range, Token, Nt}
use Rattle.cfg_grammar.specs.declared.production.Production.{Production}
use Rattle.cfg_grammar.specs.Below.{symbols_of}
use Rattle.op_system.specs.declared.op.Op.{Op}
use Rattle.op_system.specs.declared.op.Op.TheVariants.{Same, Any, Html, Replace, Cut, Factor, Lower, Upper, First, Trim, Breaks, Url, RawUrl, Slashes, Piece}
use Rattle.op_system.specs.declared.system.OpRule.{OpRule}

-- the symbol is no range of several bytes
abbrev pub is_single : Symbol → Bool
is_single (Range range) = nat_eq range.lo range.hi
is_single (Token token) = true
is_single (Nt a) = true

-- no symbol on the right of the production is one
abbrev pub is_of_single_bytes : Production → Bool
is_of_single_bytes p = list_all is_single (symbols_of p.right)

-- the operation is not that which gives any text over its bytes
abbrev pub is_known : Op → Bool
is_known Same = true
is_known Any = false
is_known Html = true
is_known (Replace search with) = true
is_known (Cut start len) = true
is_known Factor = true
is_known Lower = true
is_known Upper = true
is_known First = true
is_known (Trim left right) = true
is_known Breaks = true
is_known Url = true
is_known RawUrl = true
is_known Slashes = true
is_known (Piece sep) = true

-- that of the rule is not
abbrev pub is_by_known : OpRule → Bool
is_by_known rule = is_known rule.op
