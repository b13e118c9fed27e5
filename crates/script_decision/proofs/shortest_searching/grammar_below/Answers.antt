use Rattle.std.proofs.lemmas.Result.{IfOk-weaker}
use Rattle.script_decision.proofs.shortest_searching.grammar_below.Goals as goal

pub returns-in-Ok : goal.returns-in-Ok
returns-in-Ok c =
    IfOk-weaker c.cut_below.result _ _ (λ b f program is_grammar. f program c.args.grammar.now c.args.most is_grammar c.in-Ok.ensures.texts) c.cut_below.ensures
