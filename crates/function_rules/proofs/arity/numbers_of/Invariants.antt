use Rattle.std.proofs.Common.{◌≡◌, ◌≤◌, true, drop, length}
use Rattle.php_syntax.specs.Trees.{params_of_list}
use Rattle.program_rules.specs.Rules.{have_defaults}
use Rattle.function_rules.proofs.arity.numbers_of.Given as goal

abbrev pub decreases-defaults : goal.decreases-defaults
decreases-defaults l = l.least

abbrev pub invariant-defaults : goal.invariant-defaults
invariant-defaults l = record {
  have : have_defaults (params_of_list (drop l.least l.params)) ≡ true;
  within : l.least ≤ length l.params;
}
