use Rattle.cut_grammars.proofs.CountLemmas.{texts_cut}
use Rattle.cut_grammars.proofs.cutting.cut.Goals as goal

pub returns-in-Ok-clause-texts : goal.returns-in-Ok-clause-texts
returns-in-Ok-clause-texts c =
    texts_cut c.args.most c.args.grammar.now c.into_grammar.result
    (rw c.into_grammar.ensures c.in-Ok.ensures.sentences)
