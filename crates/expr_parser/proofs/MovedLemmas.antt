-- What a call answered, passed on where the move is the same.
use Rattle.std.proofs.Common.{◌≡◌, List, ◌∙◌}
use Rattle.std.specs.Prelude.{Result, Ok, Err}
use Rattle.expr_machine.specs.declared.frame.Frame.{Frame}
use Rattle.expr_machine.specs.Machine.{Move}
use Rattle.expr_parser.specs.declared.step.Step.{Step}
use Rattle.expr_parser.specs.Outcomes.{Moves}

pub moved : {E : Type 0} (result : Result Step E) (fs : List Frame) (m n : Move) → m ≡ n → Moves result fs n → Moves result fs m
moved (Ok s) fs m n e h = e ∙ h
moved (Err x) fs m n e h = tt
