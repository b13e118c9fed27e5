use Rattle.op_bytes.specs.Fitting.{AreFittingRules}
use Rattle.op_bytes.proofs.fitting.rules_fit.Given as goal

abbrev pub invariant-loop-rule : goal.invariant-loop-rule
invariant-loop-rule l = AreFittingRules l.rules l.rule-index
