use Rattle.std.proofs.Common.{◌≡◌, drop}
use Rattle.page_steps.specs.DoctypeSteps as steps
use Rattle.state_testing.proofs.beginnings.begins.Given as goal

abbrev pub invariant-loop-c : goal.invariant-loop-c
invariant-loop-c l = steps.begins l.rest (drop l.c-index l.front) ≡ steps.begins l.whole l.front
