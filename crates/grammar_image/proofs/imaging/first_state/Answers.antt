use Rattle.std.proofs.Common.{Some, ◌∙◌, ap}
use Rattle.grammar_image.proofs.BeginLemmas.{only_first, only_given}
use Rattle.grammar_image.proofs.imaging.first_state.Goals as goal

pub returns-clause-first : goal.returns-clause-first
returns-clause-first g c =
    only_first c.new-states.result.keys c.number.new.keys.keys c.in_ok-number.field-0-0 c.in_ok-first.first c.new-states.ensures.empty c.in_ok-number.ensures.number c.in_ok-number.ensures.adds ∙ ap Some c.in_ok-first.ensures.first

pub returns-clause-given : goal.returns-clause-given
returns-clause-given g c =
    only_given (g.M.Machine.gives c.args.machine.now) c.new-states.result.keys c.number.new.keys.keys c.in_ok-first.first c.new-states.ensures.empty c.in_ok-number.ensures.adds c.in_ok-first.ensures.given
