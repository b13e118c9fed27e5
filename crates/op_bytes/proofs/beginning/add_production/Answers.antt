use Rattle.op_bytes.proofs.GainLemmas.{one_gains, two_gains}
use Rattle.op_bytes.proofs.beginning.add_production.Goals as goal

pub returns-in-One : goal.returns-in-One
returns-in-One c = one_gains c.args.sets.now.items c.add_symbol.new.sets.items c.args.p.left.0 c.args.p.right c.in-One.a c.in-One.is c.add_symbol.ensures

pub returns-in-Two : goal.returns-in-Two
returns-in-Two c =
    two_gains c.args.sets.now.items c.add_symbol-in-Two.new.sets.items c.add_symbol-in-Two-2.new.sets.items c.args.p.left.0 c.args.p.right c.in-Two.a c.in-Two.b c.in-Two.is c.add_symbol-in-Two.ensures c.add_symbol-in-Two-2.ensures
