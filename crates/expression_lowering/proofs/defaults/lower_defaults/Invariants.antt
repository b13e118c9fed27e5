use Rattle.std.proofs.Common.{◌++◌, drop, map, List, ℕ}
use Rattle.php_syntax.specs.Trees.{params_of_list}
use Rattle.flow_code.specs.View.{slot_number}
use Rattle.flow_code.specs.Expressions.{default_codes}
use Rattle.flow_lowering.specs.View.{progress}
use Rattle.flow_lowering.specs.Emits.{Progress, Emits}
use Rattle.expression_lowering.proofs.defaults.lower_defaults.Given as goal

-- what emits the rest emits all
abbrev pub invariant-loop-param : goal.invariant-loop-param
invariant-loop-param l = (s : Progress) (ys : List ℕ) → Emits (progress l.points) s (default_codes (params_of_list (drop l.param-index l.params))) ys
    → Emits (progress l.initial.points) s (default_codes (params_of_list l.params)) (map slot_number l.slots.items ++ ys)
