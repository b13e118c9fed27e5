use Rattle.std.proofs.Common.{sym, ◌∙◌, true≢false}
use Rattle.summary_decision.proofs.UsingLemmas.{test_marked, marked_test}
use Rattle.summary_decision.proofs.BeginLemmas.{begins_useless}
use Rattle.summary_decision.proofs.beginning.begin_useful.Goals as goal

pub returns-then-not-is_marked-clause-ok : goal.returns-then-not-is_marked-clause-ok
returns-then-not-is_marked-clause-ok g c =
    let q = c.args.question.now in
    begins_useless (g.S.Summary.sum_of q.summary.now) (g.S.Summary.composed q.summary.now) (g.S.Summary.is_whole q.summary.now) q.grammar.now.productions.items q.grammar.now.start q.grammar.now.count c.args.table.now c.args.place c.args.production c.requires.table c.requires.placed
    (λ u. true≢false (sym (marked_test c.args.useful.now c.args.production.left.0 ((c.requires.useful c.args.production.left).1 u)) ∙ (sym c.is_marked.ensures ∙ c.if-not-is_marked.true)))

pub begin_at-requires-clause-stands : goal.begin_at-requires-clause-stands
begin_at-requires-clause-stands g c =
    record {
      left = c.args.production.left;
      at = c.requires.placed;
      useful = (c.requires.useful c.args.production.left).0 (test_marked c.args.useful.now c.args.production.left.0 (sym c.is_marked.ensures ∙ c.if-not-is_marked.false));
    }
