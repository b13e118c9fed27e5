use Rattle.std.proofs.Common.{sym, ◌∙◌, true≢false}
use Rattle.summary_decision.proofs.UsingLemmas.{test_marked, marked_test}
use Rattle.short_sentences.proofs.BeginLemmas.{begins_useless}
use Rattle.short_sentences.proofs.step.Step.begin_useful.Goals as goal

pub returns-then-not-is_marked : goal.returns-then-not-is_marked
returns-then-not-is_marked g c =
    begins_useless (g.S.Summary.sum_of c.args.self.now.question.now.summary.now) (g.S.Summary.composed c.args.self.now.question.now.summary.now) (g.S.Summary.is_whole c.args.self.now.question.now.summary.now) c.args.self.now.question.now.grammar.now.productions.items c.args.self.now.question.now.grammar.now.start c.args.self.now.question.now.grammar.now.count c.args.self.now.taken.now c.args.table.now c.args.place c.args.production c.requires.table c.requires.placed
    (λ u. true≢false (sym (marked_test c.args.useful.now c.args.production.left.0 ((c.requires.useful c.args.production.left).1 u)) ∙ (sym c.is_marked.ensures ∙ c.if-not-is_marked.true)))

pub begin_at-requires-clause-stands : goal.begin_at-requires-clause-stands
begin_at-requires-clause-stands g c =
    record {
      left = c.args.production.left;
      at = c.requires.placed;
      useful = (c.requires.useful c.args.production.left).0 (test_marked c.args.useful.now c.args.production.left.0 (sym c.is_marked.ensures ∙ c.if-not-is_marked.false));
    }
