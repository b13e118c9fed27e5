use Rattle.std.proofs.lemmas.Result.{on_ok_weaker}
use Rattle.op_bytes.proofs.EdgeLemmas.{empty_adds, one_adds, two_adds}
use Rattle.op_bytes.proofs.steps.add_production.Goals as goal

pub returns-in-Empty-clause-adds : goal.returns-in-Empty-clause-adds
returns-in-Empty-clause-adds c = empty_adds c.args.edges.now.items c.args.p.left.0 c.args.p.right c.in-Empty.is

pub returns-in-One-clause-adds : goal.returns-in-One-clause-adds
returns-in-One-clause-adds c =
    on_ok_weaker c.add_symbol.result (one_adds c.args.edges.now.items c.add_symbol.new.edges.items c.args.p.left.0 c.args.p.right c.in-One.a c.in-One.is) c.add_symbol.ensures.adds

pub returns-in_ok-add_symbol-in-Two-clause-adds : goal.returns-in_ok-add_symbol-in-Two-clause-adds
returns-in_ok-add_symbol-in-Two-clause-adds c =
    on_ok_weaker c.add_symbol-in-Two-2.result
    (two_adds c.args.edges.now.items c.add_symbol-in-Two.new.edges.items c.add_symbol-in-Two-2.new.edges.items c.args.p.left.0 c.args.p.right c.in-Two.a c.in-Two.b c.in-Two.is c.in_ok-add_symbol-in-Two.ensures.adds)
    c.add_symbol-in-Two-2.ensures.adds
