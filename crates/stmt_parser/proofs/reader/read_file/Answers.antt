use Rattle.std.proofs.Common.{[], ap, sym, ◌∙◌, subst}
use Rattle.std.specs.Prelude.{Option}
use Rattle.expr_parser.specs.Heads.{terminals_of}
use Rattle.stmt_machine.specs.declared.frame.Focus.TheVariants as focus
use Rattle.stmt_machine.specs.Machine.{move}
use Rattle.stmt_machine.specs.Made.{Made}
use Rattle.stmt_machine.specs.Reading.{weight, makes_on}
use Rattle.stmt_builder.specs.Views.{made_of}
use Rattle.stmt_parser.specs.Readings.{IsReading}
use Rattle.stmt_parser.proofs.ReaderLemmas.{goes_to, lighter_there, ends_so, stops_so}
use Rattle.stmt_parser.proofs.reader.read_file.Goals as goal

pub moves-init : goal.moves-init
moves-init c = ap (λ m. makes_on focus.Behind [] (terminals_of c.args.tokens.now) m) (sym c.in_ok-reader.ensures.1) ∙ ap (λ fs. makes_on focus.Behind fs (terminals_of c.args.tokens.now) (made_of c.in_ok-reader.reader.maker)) (sym c.in_ok-reader.ensures.0)

pub moves-preserved : goal.moves-preserved
moves-preserved c =
    let h = rw c.in-Go.is at c.in_ok-next.ensures in
    c.moves.invariant
    ∙ c.runs_go_on.ensures c.moves.focus c.moves.reader.frames (terminals_of c.moves.rest.now) (made_of c.moves.reader.maker)
    ∙ goes_to (move c.moves.focus c.moves.reader.frames (terminals_of c.moves.rest.now)) (made_of c.moves.reader.maker) c.in-Go.next c.step.new.self.frames (terminals_of c.in-Go.left.now) (made_of c.step.new.self.maker) h

pub moves-smaller : goal.moves-smaller
moves-smaller c =
    let h = rw c.in-Go.is at c.in_ok-next.ensures in
    lighter_there (move c.moves.focus c.moves.reader.frames (terminals_of c.moves.rest.now)) (made_of c.moves.reader.maker) (weight c.moves.focus c.moves.reader.frames (terminals_of c.moves.rest.now)) c.in-Go.next c.step.new.self.frames (terminals_of c.in-Go.left.now) (made_of c.step.new.self.maker) (c.moves_get_lighter.ensures c.moves.focus c.moves.reader.frames (terminals_of c.moves.rest.now) c.in-Go.next c.step.new.self.frames (terminals_of c.in-Go.left.now)) h

pub returns-in-Finished : goal.returns-in-Finished
returns-in-Finished c =
    let h = rw c.in-Finished.is at c.in_ok-next.ensures in
    let P : Option Made → Type 0 = λ x. IsReading x c.finish.result in
    subst P (sym (c.moves.invariant ∙ c.runs_go_on.ensures c.moves.focus c.moves.reader.frames (terminals_of c.moves.rest.now) (made_of c.moves.reader.maker) ∙ ends_so (move c.moves.focus c.moves.reader.frames (terminals_of c.moves.rest.now)) (made_of c.moves.reader.maker) (made_of c.step.new.self.maker) h)) c.finish.ensures

pub returns-in-Stuck : goal.returns-in-Stuck
returns-in-Stuck c =
    let h = rw c.in-Stuck.is at c.in_ok-next.ensures in
    c.moves.invariant ∙ c.runs_go_on.ensures c.moves.focus c.moves.reader.frames (terminals_of c.moves.rest.now) (made_of c.moves.reader.maker) ∙ stops_so (move c.moves.focus c.moves.reader.frames (terminals_of c.moves.rest.now)) (made_of c.moves.reader.maker) h
