use Rattle.std.proofs.Common.{◌≡◌, List, Some, slice_get, length, refl, ap, subst, arith}
use Rattle.std.proofs.lemmas.Option.{slice_get_read}
use Rattle.cfg_grammar.specs.declared.production.Production.{Production}
use Rattle.short_sentences.proofs.BeginLemmas.{begins_none, begins_more, begins_along}
use Rattle.short_sentences.proofs.step.Step.begin.Goals as goal

pub loop-place-init : goal.loop-place-init
loop-place-init g c = begins_none (g.S.Summary.sum_of c.args.self.now.question.now.summary.now) (g.S.Summary.composed c.args.self.now.question.now.summary.now) (g.S.Summary.is_whole c.args.self.now.question.now.summary.now) c.args.self.now.question.now.grammar.now.productions.items c.args.self.now.question.now.grammar.now.start c.args.self.now.question.now.grammar.now.count c.args.self.now.taken.now c.args.table.now c.requires.table

pub begin_useful-requires-clause-table : goal.begin_useful-requires-clause-table
begin_useful-requires-clause-table g c = c.loop-place.invariant.goes.table

pub begin_useful-requires-clause-placed : goal.begin_useful-requires-clause-placed
begin_useful-requires-clause-placed g c =
    let at = slice_get_read c.deref-production-items.result.now (length c.deref-production-items.result.now) c.loop-place.place c.production-item.result refl c.loop-place-test.true c.production-item.is in
    subst (λ (xs : List Production). slice_get xs c.loop-place.place ≡ Some c.production-item.result) c.deref-production-items.ensures.value at

pub loop-place-preserved : goal.loop-place-preserved
loop-place-preserved g c =
    begins_more (g.S.Summary.sum_of c.args.self.now.question.now.summary.now) (g.S.Summary.composed c.args.self.now.question.now.summary.now) (g.S.Summary.is_whole c.args.self.now.question.now.summary.now) c.args.self.now.question.now.grammar.now.productions.items c.args.self.now.question.now.grammar.now.start c.args.self.now.question.now.grammar.now.count c.args.self.now.taken.now c.args.table.now c.loop-place.table c.begin_useful.new.table c.loop-place.place c.loop-place.invariant c.in_ok-begin_useful.ensures

pub returns : goal.returns
returns g c =
    begins_along (g.S.Summary.sum_of c.args.self.now.question.now.summary.now) (g.S.Summary.composed c.args.self.now.question.now.summary.now) (g.S.Summary.is_whole c.args.self.now.question.now.summary.now) c.args.self.now.question.now.grammar.now.productions.items c.args.self.now.question.now.grammar.now.start c.args.self.now.question.now.grammar.now.count c.args.self.now.taken.now c.args.table.now c.loop-place.table c.loop-place.place (length c.args.self.now.question.now.grammar.now.productions.items) (omega (arith, ap length c.deref-production-items.ensures.value, c.loop-place-test.false)) c.loop-place.invariant
