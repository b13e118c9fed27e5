use Rattle.std.proofs.Common.{◌≡◌, ◌+◌, ap, sym, ◌∙◌}
use Rattle.cfg_grammar.specs.declared.production.Right.{Right}
use Rattle.cfg_grammar.specs.declared.production.Production.{Production}
use Rattle.chart_grammar.specs.Lifts.{front_production}
use Rattle.chart_grammar.proofs.OutputLemmas.{front_pushed}
use Rattle.chart_grammar.proofs.outputs.write_front.Goals as goal

pub returns-clause-adds : goal.returns-clause-adds
returns-clause-adds c =
    let p : Production = record { left = record { 0 = c.args.base + c.args.number }; right = c.right_of_front.result } in
    let e : p ≡ front_production c.args.base c.args.number c.args.front =
    ap (λ (r : Right). let q : Production = record { left = record { 0 = c.args.base + c.args.number }; right = r } in q) c.right_of_front.ensures in
    front_pushed c.args.base c.args.count c.args.number c.args.front p c.args.out.now.items c.push.new.self.items e (sym c.is_below.ensures ∙ c.if-not-is_below.false) c.in_ok-push.ensures.items
