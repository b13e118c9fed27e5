use Rattle.op_bytes.proofs.OpLemmas.{made_not, made_so}
use Rattle.op_bytes.proofs.turning.add_made.Goals as goal

pub returns-then-not-has : goal.returns-then-not-has
returns-then-not-has c = made_not c.args.set.now c.args.own.now c.args.op.now c.args.byte c.has.result c.has.ensures c.if-not-has.true

pub returns : goal.returns
returns c = made_so c.args.set.now c.add_turned.new.set c.args.own.now c.args.op.now c.args.byte c.has.result c.has.ensures c.if-not-has.false c.add_turned.ensures
