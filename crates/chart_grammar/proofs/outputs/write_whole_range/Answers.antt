use Rattle.std.proofs.Common.{◌<◌, List, length, subst}
use Rattle.fst_core.specs.declared.out.Out.{Out}
use Rattle.chart_grammar.specs.Outs.{AreFixed}
use Rattle.chart_grammar.proofs.outputs.write_whole_range.Goals as goal

pub write_part-requires-then-are_fixed-clause-one : goal.write_part-requires-then-are_fixed-clause-one
write_part-requires-then-are_fixed-clause-one c = λ b d hb hd.
    let fixed = subst (λ (os : List Out). AreFixed os) c.as_slice.ensures.value (c.are_fixed.ensures.fixed c.if-are_fixed.true) in
    fixed b d

pub write_wide-requires-clause-some : goal.write_wide-requires-clause-some
write_wide-requires-clause-some c = subst (λ (os : List Out). 0 < length os) c.as_slice.ensures.value (c.are_fixed.ensures.some c.if-are_fixed.false)
