use Rattle.std.proofs.Common.{◌≡◌, ◌++◌, take, map}
use Rattle.given_texts.specs.Rows.{end_production}
use Rattle.given_texts.specs.declared.text_rows.TheConstants.{ENDS}
use Rattle.given_texts.proofs.given_grammar.add_ends.Given as goal

abbrev pub invariant-loop-n : goal.invariant-loop-n
invariant-loop-n l = l.productions.items ≡ l.initial.productions.items ++ map end_production (take l.n-index ENDS)
