use Rattle.script_meaning.specs.Statements.{nothing}
use Rattle.script_meaning.specs.Runs.{◌then_do◌}
use Rattle.script_meaning.proofs.Loops.{loop_turns, for_turns}
use Rattle.script_meaning.proofs.laws.for_goes_by_turns.Goals as goal

pub returns : goal.returns
unfolding nothing ◌then_do◌
returns c r fs room e next body s = loop_turns _ _ _ (for_turns r fs room e next body) s
