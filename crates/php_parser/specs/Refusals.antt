-- Why tokens are refused.
use Rattle.std.specs.Prelude.{List, ⊤}
use Rattle.php_syntax.specs.Tokens.{PlainToken}
use Rattle.php_syntax.specs.Trees.{PlainFile}
use Rattle.script_grammar.specs.Grammar.{SpellsTree, IsTooDeep}
use Rattle.php_parser.specs.declared.refusal.ParseRefusal.{ParseRefusal}
use Rattle.php_parser.specs.declared.refusal.ParseRefusal.TheVariants as refusals

-- the tokens spell no tree and are not too deep, or they are too deep; want of memory has no cause
abbrev pub IsCauseOf : List PlainToken → ParseRefusal → Type 0
IsCauseOf tokens (refusals.NotInSubset at) = (IsTooDeep tokens → ⊥) × ((tree : PlainFile) → SpellsTree tokens tree → ⊥)
IsCauseOf tokens (refusals.TooDeep at) = IsTooDeep tokens
IsCauseOf tokens refusals.Memory = ⊤
