use Rattle.std.proofs.Common.{◌≡◌, drop}
use Rattle.script_grammar.specs.Rules.{all_keyed}
use Rattle.php_syntax.specs.Trees.{path_of}
use Rattle.php_writer.proofs.shapes.all_keyed.Given as goal

-- what is left to test decides
abbrev pub invariant-loop-key : goal.invariant-loop-key
invariant-loop-key l = all_keyed (path_of (drop l.key-index l.keys)) ≡ all_keyed (path_of l.keys)
