use Rattle.std.proofs.Common.{ap}
use Rattle.summary_decision.proofs.TableLemmas.{joins_kept}
use Rattle.short_sentences.proofs.NoteLemmas.{added_code}
use Rattle.short_sentences.proofs.TableLemmas.{sums_more}
use Rattle.short_sentences.proofs.step.Step.add.Goals as goal

pub add_known-requires-clause-table : goal.add_known-requires-clause-table
add_known-requires-clause-table g c =
    let old = c.args.table.now.sums in
    let new = c.number_of.new.self in
    let e = c.in_ok-number.ensures in
    (sums_more (g.S.Summary.sum_of c.args.self.now.question.now.summary.now) (g.S.Summary.composed c.args.self.now.question.now.summary.now) (g.S.Summary.is_whole c.args.self.now.question.now.summary.now) c.args.self.now.question.now.grammar.now.productions.items c.args.self.now.question.now.grammar.now.start c.args.self.now.question.now.grammar.now.count c.args.self.now.taken.now c.args.table.now new c.requires.table e.keeps
    (joins_kept (g.S.Summary.composed c.args.self.now.question.now.summary.now) old.numbered.keys new.numbered.keys old.joins.keys new.joins.keys old.joined.items new.joined.items e.keeps (ap (λ (j : _). j.keys) e.joins) (ap (λ (v : _). v.items) e.joined) c.requires.table.joined)).table

pub returns : goal.returns
returns g c =
    let old = c.args.table.now.sums in
    let new = c.number_of.new.self in
    let e = c.in_ok-number.ensures in
    added_code (g.S.Summary.sum_of c.args.self.now.question.now.summary.now) (g.S.Summary.composed c.args.self.now.question.now.summary.now) (g.S.Summary.is_whole c.args.self.now.question.now.summary.now) c.args.self.now.question.now.grammar.now.productions.items c.args.self.now.question.now.grammar.now.start c.args.self.now.question.now.grammar.now.count c.args.self.now.taken.now c.add_known.result c.args.table.now (record c.args.table.now { sums = new }) c.add_known.new.table c.args.place c.in_ok-number.number c.args.parts c.args.sum
    (sums_more (g.S.Summary.sum_of c.args.self.now.question.now.summary.now) (g.S.Summary.composed c.args.self.now.question.now.summary.now) (g.S.Summary.is_whole c.args.self.now.question.now.summary.now) c.args.self.now.question.now.grammar.now.productions.items c.args.self.now.question.now.grammar.now.start c.args.self.now.question.now.grammar.now.count c.args.self.now.taken.now c.args.table.now new c.requires.table e.keeps
    (joins_kept (g.S.Summary.composed c.args.self.now.question.now.summary.now) old.numbered.keys new.numbered.keys old.joins.keys new.joins.keys old.joined.items new.joined.items e.keeps (ap (λ (j : _). j.keys) e.joins) (ap (λ (v : _). v.items) e.joined) c.requires.table.joined))
    e.sum c.add_known.ensures
