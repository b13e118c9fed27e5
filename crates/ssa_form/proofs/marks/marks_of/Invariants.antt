use Rattle.std.proofs.Common.{ℕ, List}
use Rattle.flow_code.specs.Points.{PlainFlow}
use Rattle.flow_graph.specs.declared.arrivals.Arrival.{Arrival}
use Rattle.flow_graph.specs.Steps.{steps_seen}
use Rattle.ssa_form.specs.Marks.{IsGraph, AreMarked}
use Rattle.ssa_form.proofs.marks.marks_of.Given as goal

abbrev pub invariant-loop-point : goal.invariant-loop-point
invariant-loop-point l = (flow : PlainFlow) (all : List (ℕ × Arrival)) → IsGraph flow (steps_seen l.steps) all l.heads → AreMarked flow l.heads l.marks l.point
