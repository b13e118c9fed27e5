use Rattle.std.proofs.Common.{sym, ◌∙◌, refl, true, false}
use Rattle.std.proofs.lemmas.Bool.{not-false}
use Rattle.chart_grammar.proofs.OutLemmas.{fixed_upto, fixed_all}
use Rattle.chart_grammar.proofs.symbols.are_fixed.Goals as goal

pub loop-one-init : goal.loop-one-init
loop-one-init c = λ a b. refl

pub loop-one-preserved : goal.loop-one-preserved
loop-one-preserved c = fixed_upto c.args.out.now c.loop-one.one-index _ _ c.loop-one-test.true refl c.loop-one.invariant (not-false _ (sym c.is_dependent.ensures ∙ c.if-is_dependent.false))

pub returns-clause-fixed : goal.returns-clause-fixed
returns-clause-fixed c = λ t. fixed_all c.args.out.now c.loop-one.one-index c.loop-one-test.false c.loop-one.invariant
