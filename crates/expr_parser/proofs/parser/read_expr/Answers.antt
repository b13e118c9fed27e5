use Rattle.std.proofs.Common.{ap, sym, ◌∙◌, arith}
use Rattle.std.specs.Prelude.{Some}
use Rattle.expr_machine.specs.declared.frame.Focus.TheVariants as focus
use Rattle.expr_machine.specs.Machine as machine
use Rattle.expr_machine.specs.Reading.{reads_on, reads_next}
use Rattle.expr_builder.specs.Views.{plain_values}
use Rattle.expr_parser.specs.Heads.{terminals_of}
use Rattle.expr_parser.proofs.ReaderLemmas as rl
use Rattle.expr_parser.proofs.parser.read_expr.Goals as goal

pub moves-init : goal.moves-init
moves-init c = ap (λ fs. reads_on focus.Begin fs (terminals_of c.args.rest.now) (plain_values c.args.values.now)) (sym c.new-reader.ensures)

pub moves-preserved : goal.moves-preserved
moves-preserved c = c.moves.invariant ∙ c.passed-place.ensures.0 (plain_values c.moves.values) ∙ c.runs_go_on.ensures c.passed-place.result c.moves.reader (terminals_of c.moves.left.now) (plain_values c.moves.values) ∙ rl.read_goes c.in_ok-fine-in-Go.fine (machine.move c.passed-place.result c.moves.reader (terminals_of c.moves.left.now)) _ _ _ _ _ _ _ c.if-not-fine.false (rw c.in-Go.is at c.in_ok-from.ensures) c.in_ok-fine-in-Go.ensures

pub moves-smaller : goal.moves-smaller
moves-smaller c =
    let lighter = c.moves_get_lighter.ensures c.passed-place.result c.moves.reader (terminals_of c.moves.left.now) _ _ _ _ (rw c.in-Go.is at c.in_ok-from.ensures)
    in omega (arith, lighter, c.passed-place.ensures.1)

pub returns-in-Stuck : goal.returns-in-Stuck
returns-in-Stuck c = c.moves.invariant ∙ c.passed-place.ensures.0 (plain_values c.moves.values) ∙ c.runs_go_on.ensures c.passed-place.result c.moves.reader (terminals_of c.moves.left.now) (plain_values c.moves.values) ∙ ap (reads_next (terminals_of c.moves.left.now) (plain_values c.moves.values)) (rw c.in-Stuck.is at c.in_ok-from.ensures)

pub returns-in-Finished : goal.returns-in-Finished
returns-in-Finished c = c.moves.invariant ∙ c.passed-place.ensures.0 (plain_values c.moves.values) ∙ c.runs_go_on.ensures c.passed-place.result c.moves.reader (terminals_of c.moves.left.now) (plain_values c.moves.values) ∙ ap (reads_next (terminals_of c.moves.left.now) (plain_values c.moves.values)) (rw c.in-Finished.is at c.in_ok-from.ensures) ∙ ap (λ vs. Some (plain_values vs, terminals_of c.moves.left.now)) (sym c.reach-in-Finished.ensures)
