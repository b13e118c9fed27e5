use Rattle.std.proofs.Common.{Option, subst}
use Rattle.derivations.specs.declared.node.Parts.{Parts}
use Rattle.summary_decision.specs.Beginning.{IsMadeOf}
use Rattle.summary_decision.proofs.BeginLemmas.{begins_made, begins_unmade}
use Rattle.summary_decision.proofs.beginning.begin_at.Goals as goal

pub returns-in_default-clause-ok : goal.returns-in_default-clause-ok
returns-in_default-clause-ok g c =
    let q = c.args.question.now in
    let is = subst (λ (o : Option (Parts × g.row.S-Sum.Denot)). IsMadeOf (g.S.Summary.sum_of q.summary.now) (g.S.Summary.composed q.summary.now) (g.S.Summary.is_whole q.summary.now) q.grammar.now.productions.items q.grammar.now.start c.args.right o) c.in_default.is c.in_ok-parts.ensures in
    begins_unmade (g.S.Summary.sum_of q.summary.now) (g.S.Summary.composed q.summary.now) (g.S.Summary.is_whole q.summary.now) q.grammar.now.productions.items q.grammar.now.start q.grammar.now.count c.args.table.now c.args.place c.args.right c.requires.table is c.requires.stands

pub returns-clause-ok : goal.returns-clause-ok
returns-clause-ok g c =
    let q = c.args.question.now in
    let is = subst (λ (o : Option (Parts × g.row.S-Sum.Denot)). IsMadeOf (g.S.Summary.sum_of q.summary.now) (g.S.Summary.composed q.summary.now) (g.S.Summary.is_whole q.summary.now) q.grammar.now.productions.items q.grammar.now.start c.args.right o) c.in-Some.is c.in_ok-parts.ensures in
    begins_made (g.S.Summary.sum_of q.summary.now) (g.S.Summary.composed q.summary.now) (g.S.Summary.is_whole q.summary.now) q.grammar.now.productions.items q.grammar.now.start q.grammar.now.count c.add.result c.args.table.now c.add.new.table c.args.place c.args.right (c.in-Some.parts, c.in-Some.sum) is c.requires.stands c.add.ensures.ok
