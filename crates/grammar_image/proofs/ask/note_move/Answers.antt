use Rattle.std.proofs.Common.{refl}
use Rattle.grammar_image.proofs.NoteLemmas.{note_one}
use Rattle.grammar_image.proofs.ask.note_move.Goals as goal

pub returns : goal.returns
returns g c =
    let e = c.in_ok-read.ensures in
    note_one c.args.states.now.keys c.number.new.keys.keys c.args.chart.now c.read.new.chart c.args.range c.args.from c.args.step c.in_ok-number.number c.in_ok-number.ensures.number c.in_ok-number.ensures.keeps c.in_ok-number.ensures.adds _ refl refl refl refl refl e.chart e.from e.entries e.step e.passages e.passage e.readings
