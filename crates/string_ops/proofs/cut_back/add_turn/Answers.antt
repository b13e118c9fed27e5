use Rattle.std.proofs.Common.{◌∙◌, ℕ, List, [], ◌∷◌, if◌then◌else◌, sym, ap, arith}
use Rattle.std.specs.Prelude.{slice_get}
use Rattle.fst_core.specs.declared.out.Out.{Out}
use Rattle.fst_core.specs.declared.out.Out.TheVariants.{Same}
use Rattle.string_ops.specs.CutBack.{phase_of, step_in, back_choices, back_row}
use Rattle.string_ops.proofs.CutBackLemmas.{turn_some, turn_none, leads_inside}
use Rattle.string_ops.proofs.cut_back.add_turn.Goals as goal

pub add_step-requires-clause-to : goal.add_step-requires-clause-to
add_step-requires-clause-to c =
    let cut = c.args.cut in
    let step = c.in-Some.step in
    let row = λ (p k : ℕ). slice_get (back_choices cut.last cut.len p k) c.args.turn in
    let made = c.chosen-choice.ensures ∙ ap (λ p. row p c.number.result) c.phase.ensures ∙ ap (λ k. row (phase_of cut.last cut.len c.args.state) k) c.number.ensures.value in
    let put : List Out = (if step.copied then Same ∷ [] else []) in
    let to = leads_inside cut.states cut.last cut.len c.args.state c.args.turn step.to put cut.some (omega (arith, cut.exact)) c.requires.state (ap step_in (sym c.in-Some.is) ∙ made) in
    omega (arith, to, c.requires.all)

pub returns-clause-moves : goal.returns-clause-moves
returns-clause-moves c =
    let cut = c.args.cut in
    let step = c.in-Some.step in
    let row = λ (p k : ℕ). slice_get (back_choices cut.last cut.len p k) c.args.turn in
    let made = c.chosen-choice.ensures ∙ ap (λ p. row p c.number.result) c.phase.ensures ∙ ap (λ k. row (phase_of cut.last cut.len c.args.state) k) c.number.ensures.value in
    turn_some c.args.table.now.moves.items c.add_step.new.table.moves.items c.args.state (step.to, if step.copied then Same ∷ [] else []) (slice_get (back_row cut.last cut.len c.args.state 0) c.args.turn) (ap step_in (sym c.in-Some.is) ∙ made) c.in_ok-add_step.ensures.moves

pub returns-in_default-clause-moves : goal.returns-in_default-clause-moves
returns-in_default-clause-moves c =
    let cut = c.args.cut in
    let row = λ (p k : ℕ). slice_get (back_choices cut.last cut.len p k) c.args.turn in
    let made = c.chosen-choice.ensures ∙ ap (λ p. row p c.number.result) c.phase.ensures ∙ ap (λ k. row (phase_of cut.last cut.len c.args.state) k) c.number.ensures.value in
    turn_none c.args.table.now.moves.items c.args.state (slice_get (back_row cut.last cut.len c.args.state 0) c.args.turn) (ap step_in (sym c.in_default.is) ∙ made)
