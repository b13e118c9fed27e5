use Rattle.std.proofs.Common.{subst}
use Rattle.grammar_chart.specs.declared.turns.Turn.{Turn}
use Rattle.grammar_chart.specs.Kept.{IsTurn}
use Rattle.grammar_image.proofs.WorkLemmas.{worked_goes}
use Rattle.grammar_image.proofs.work.work.Goals as goal

pub returns-in-Went-clause-worked : goal.returns-in-Went-clause-worked
returns-in-Went-clause-worked g c =
    let m = c.args.machine.now in
    let goes = subst (λ (t : Turn). IsTurn c.args.productions.now c.args.chart.now c.turn.new.chart t) c.in-Went.is c.in_ok-turn.ensures.turn in
    worked_goes (g.M.Machine.steps m) (g.M.Machine.gives m) (g.M.Machine.first m) c.args.productions.now c.args.states.now.keys c.args.chart.now c.turn.new.chart c.requires.worked goes
