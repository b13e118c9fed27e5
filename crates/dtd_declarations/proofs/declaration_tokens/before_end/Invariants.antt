use Rattle.std.proofs.Common.{◌≡◌, ◌+◌, length}
use Rattle.dtd_texts.specs.Tokens.{before_end}
use Rattle.dtd_declarations.proofs.declaration_tokens.before_end.Given as goal

abbrev pub invariant-loop-others : goal.invariant-loop-others
invariant-loop-others l = (l.n + before_end l.rest ≡ before_end l.fn.bytes) × (l.n + length l.rest ≡ length l.fn.bytes)

abbrev pub decreases-loop-others : goal.decreases-loop-others
decreases-loop-others l = length l.rest
