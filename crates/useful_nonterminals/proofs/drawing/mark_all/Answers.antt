use Rattle.std.proofs.Common.{◌∙◌}
use Rattle.std.proofs.lemmas.Option.{slice_get-get_or}
use Rattle.useful_nonterminals.proofs.DrawLemmas.{facts_more, facts_all}
use Rattle.useful_nonterminals.proofs.drawing.mark_all.Goals as goal

pub loop-fact-preserved : goal.loop-fact-preserved
loop-fact-preserved c =
    let n = c.loop-fact.fact-index in
    let at = slice_get-get_or c.args.facts.now n 0 c.loop-fact-test.true in
    let e = c.in_ok-mark.ensures in
    record {
      long = e.long ∙ c.loop-fact.invariant.long;
      noted = e.noted;
      exact = facts_more c.args.facts.now n _ _ _ at c.loop-fact.invariant.exact e.keeps e.adds e.listed;
    }

pub returns-clause-exact : goal.returns-clause-exact
returns-clause-exact c = facts_all c.args.facts.now c.loop-fact.fact-index _ c.loop-fact-test.false c.loop-fact.invariant.exact
