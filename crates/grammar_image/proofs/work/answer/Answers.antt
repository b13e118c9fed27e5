use Rattle.std.proofs.Common.{◌∙◌}
use Rattle.grammar_image.proofs.WorkLemmas.{known_state, worked_asks}
use Rattle.grammar_image.proofs.work.answer.Goals as goal

pub ask-requires-clause-known : goal.ask-requires-clause-known
ask-requires-clause-known g c =
    let m = c.args.machine.now in
    known_state (g.M.Machine.steps m) (g.M.Machine.gives m) (g.M.Machine.first m) c.args.productions.now c.args.states.now.keys c.args.chart.now _ c.args.chart.now.opened c.requires.worked c.requires.next

pub returns-clause-worked : goal.returns-clause-worked
returns-clause-worked g c =
    let m = c.args.machine.now in
    worked_asks (g.M.Machine.steps m) (g.M.Machine.gives m) (g.M.Machine.first m) c.args.productions.now c.args.states.now.keys c.ask.new.states.keys c.args.chart.now c.ask.new.chart c.pass.new.chart c.args.range c.args.state c.requires.worked c.requires.next c.in_ok-ask.ensures c.pass.ensures.chart c.pass.ensures.goes_on c.pass.ensures.step

pub returns-clause-from : goal.returns-clause-from
returns-clause-from g c = c.pass.ensures.goes_on.from ∙ c.in_ok-ask.ensures.notes.from_kept
