use Rattle.std.proofs.Common.{◌≡◌, ◌++◌, length}
use Rattle.dtd_texts.specs.Tokens.{tokens}
use Rattle.dtd_declarations.specs.TokenViews.{tokens_of}
use Rattle.dtd_declarations.proofs.tokens.tokens_of.Given as goal

abbrev pub invariant-loop-first : goal.invariant-loop-first
invariant-loop-first l = tokens_of l.tokens.items ++ tokens l.rest ≡ tokens l.fn.text

abbrev pub decreases-loop-first : goal.decreases-loop-first
decreases-loop-first l = length l.rest
