use Rattle.std.proofs.Common.{◌≡◌, map, drop}
use Rattle.php_syntax.specs.Trees.{params_of_list}
use Rattle.flow_code.specs.Variables.{name_of_param}
use Rattle.program_lowering.specs.Added.{added}
use Rattle.program_lowering.proofs.function_variables.in_params.Given as goal

abbrev pub invariant-loop-param : goal.invariant-loop-param
invariant-loop-param l = added l.names.known.keys (map name_of_param (params_of_list (drop l.param-index l.params))) ≡ added l.initial.names.known.keys (map name_of_param (params_of_list l.params))
