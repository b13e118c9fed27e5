use Rattle.short_sentences.proofs.RunLemmas.{up_begun}
use Rattle.short_sentences.proofs.running.work.Goals as goal

pub run-requires-clause-up : goal.run-requires-clause-up
run-requires-clause-up g c =
    up_begun (g.S.Summary.sum_of c.args.question.now.summary.now) (g.S.Summary.composed c.args.question.now.summary.now) (g.S.Summary.is_whole c.args.question.now.summary.now) c.args.question.now.grammar.now.productions.items c.args.question.now.grammar.now.start c.args.question.now.grammar.now.count c.args.table.now c.begin.new.table c.args.taken.now c.args.chains.now c.requires.none c.requires.chains c.requires.spread c.in_ok-begin.ensures
