use Rattle.std.proofs.Common.{◌-◌, ◌≤◌, length}
use Rattle.text_base.specs.declared.limits.TheConstants.{FILE_LIMIT}
use Rattle.php_syntax.specs.Tokens.{plain_tokens}
use Rattle.php_lexer.specs.View.{mode_of}
use Rattle.php_lexer.proofs.SoFarLemmas.{SoFar}
use Rattle.php_lexer.proofs.lexer.lex.Given as goal

abbrev pub invariant-steps : goal.invariant-steps
invariant-steps l = (SoFar l.file (mode_of l.mode) l.at (plain_tokens l.tokens.items)) × (length l.file ≤ FILE_LIMIT)

abbrev pub decreases-steps : goal.decreases-steps
decreases-steps l = length l.file - l.at
