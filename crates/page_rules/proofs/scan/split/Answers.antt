use Rattle.std.proofs.Common.{sym, ◌∙◌, ap}
use Rattle.page_rules.specs.Views.{class_test}
use Rattle.page_rules.proofs.Splits.{front_end, beyond_end}
use Rattle.page_rules.proofs.scan.split.Goals as goal

pub returns-clause-front : goal.returns-clause-front
returns-clause-front c = front_end (class_test c.args.class) c.args.cs.now c.loop-i.i c.loop-i-test.false c.loop-i.invariant

pub returns-clause-rest : goal.returns-clause-rest
returns-clause-rest c = c.from-2.ensures ∙ beyond_end (class_test c.args.class) c.args.cs.now c.loop-i.i c.loop-i-test.false c.loop-i.invariant
