-- What the code does, as a move of the machine.
use Rattle.std.specs.Prelude.{◌≡◌, List, Result, Ok, Err}
use Rattle.expr_machine.specs.declared.frame.Frame.{Frame}
use Rattle.expr_machine.specs.Machine.{Move, moves, finished, stuck}
use Rattle.expr_builder.specs.Outcomes.{plain_actions}
use Rattle.expr_parser.specs.declared.step.Step.{Step}
use Rattle.expr_parser.specs.declared.step.Step.TheVariants as step
use Rattle.expr_parser.specs.Heads.{terminals_of}

-- the move that the code answers, with what is begun afterwards
abbrev pub seen : Step → List Frame → Move
seen (step.Go f r acts) fs = moves f fs (terminals_of r.now) (plain_actions acts)
seen step.Finished fs = finished
seen (step.Stuck r) fs = stuck

-- the code does this move of the machine, where there is memory
abbrev pub Moves : {E : Type 0} → Result Step E → List Frame → Move → Type 0
Moves (Ok s) fs m = m ≡ seen s fs
Moves (Err e) fs m = Unit {0}
