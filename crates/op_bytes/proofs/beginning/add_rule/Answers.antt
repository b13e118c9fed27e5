use Rattle.least_sets.specs.Bytes.{Adds}
use Rattle.op_bytes.proofs.GainLemmas.{gains_at}
use Rattle.op_bytes.proofs.beginning.add_rule.Goals as goal

pub returns : goal.returns
returns c = gains_at c.args.sets.now.items c.args.rule.now.left.0 c.index_mut.result.now c.add_literal.new.set (Adds c.args.rule.now.op) c.requires c.index_mut.ensures.value c.add_literal.ensures
