use Rattle.std.proofs.lemmas.Result.{IfOk-weaker}
use Rattle.dtd_model.specs.TableOf.{table_of}
use Rattle.script_decision.proofs.shortest_searching.cut_below.Goals as goal

pub returns-in-Ok : goal.returns-in-Ok
returns-in-Ok c =
    IfOk-weaker c.show_below.result _ _
    (λ b f program grammar most is_grammar is_cut. f c.args.goal (table_of c.args.pages.now.dtd.now) program c.args.pages.now.ways.now grammar c.args.cut.now most c.args.pairs c.requires.ways is_grammar is_cut
    c.in-Ok.ensures.answer) c.show_below.ensures
