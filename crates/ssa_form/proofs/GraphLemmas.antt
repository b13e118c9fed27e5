-- The steps, the arrivals and the first points of rows of a program are its graph.
use Rattle.std.proofs.Common.{◌≡◌, ◌++◌, ℕ, List, map, length, sym, ap, ◌∙◌}
use Rattle.std.proofs.lemmas.List.{length-map}
use Rattle.flow_code.specs.Points.{PlainFlowFunction, PlainFlow, points_in}
use Rattle.flow_code.specs.View.{plain_flow_function}
use Rattle.flow_code.specs.declared.program.FlowFunction.{FlowFunction}
use Rattle.flow_graph.specs.declared.arrivals.Arrival.{Arrival}
use Rattle.flow_graph.specs.declared.step.Step.{Step}
use Rattle.flow_graph.specs.Steps.{step_seen, steps_seen, steps_of_points}
use Rattle.flow_graph.specs.Arrivals.{from_steps, from_functions}
use Rattle.flow_graph.specs.Heads.{AreHeads, RowsGoOn}
use Rattle.ssa_form.specs.Marks.{IsGraph}

pub is_graph : (flow : PlainFlow) (fs : List FlowFunction) (xs : List Step) (all : List (ℕ × Arrival)) (heads : List ℕ) → map plain_flow_function fs ≡ flow.functions_of → steps_seen xs ≡ steps_of_points (points_in flow.functions_of)
    → all ≡ from_steps (length xs) 0 (steps_seen xs) ++ from_functions (length xs) 0 (map plain_flow_function fs) → AreHeads (steps_seen xs) all heads → RowsGoOn (steps_seen xs) all heads → length heads ≡ length xs → IsGraph flow (steps_seen xs) all heads
is_graph flow fs xs all heads same steps arrivals are go_on long = record {
  steps_are = steps;
  all_are = arrivals ∙ ap (λ (n : ℕ). from_steps n 0 (steps_seen xs) ++ from_functions n 0 (map plain_flow_function fs)) count
      ∙ ap (λ (gs : List PlainFlowFunction). from_steps (length (steps_seen xs)) 0 (steps_seen xs) ++ from_functions (length (steps_seen xs)) 0 gs) same;
  heads_are = are;
  go_on = go_on;
  long = long ∙ count;
}
  where
    count : length xs ≡ length (steps_seen xs)
    count = sym (length-map xs step_seen)
