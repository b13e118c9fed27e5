use Rattle.std.proofs.Common.{◌≡◌, drop}
use Rattle.script_grammar.specs.Rules.{is_new_name}
use Rattle.php_syntax.specs.Trees.{params_of_list}
use Rattle.php_writer.proofs.file_tests.is_new_name.Given as goal

-- what is left to test decides
abbrev pub invariant-loop-param : goal.invariant-loop-param
invariant-loop-param l = is_new_name l.name (params_of_list (drop l.param-index l.params)) ≡ is_new_name l.name (params_of_list l.params)
