use Rattle.std.proofs.Common.{◌≡◌, ◌≤◌, true, refl, arith}
use Rattle.chart_grammar.proofs.OutputLemmas.{byte_of_part}
use Rattle.chart_grammar.proofs.outputs.write_byte.Goals as goal

pub returns-clause-has : goal.returns-clause-has
returns-clause-has c = λ within.
    let done : c.in_ok-write_part.field-0 ≡ true = c.in_ok-write_part.ensures.single refl in
    let here : c.args.byte ≤ c.args.byte = omega arith in
    byte_of_part c.args.passages.now.keys c.args.base c.args.reading.now c.write_part.new.outputs.fronts.keys _ c.args.byte c.write_part.new.outputs.out.items (c.in_ok-write_part.ensures.has done) here here
