use Rattle.std.specs.Prelude.{Contains}
use Rattle.least_sets.specs.Bytes.{Adds}
use Rattle.op_bytes.proofs.OpLemmas.{more_like}
use Rattle.op_bytes.proofs.beginning.add_literal.Goals as goal

pub returns : goal.returns
returns c =
    more_like c.args.set.now c.add_text.new.set (Contains c.literal_of.result.now) (Adds c.args.op.now) (λ b. ((c.literal_of.ensures b).1, (c.literal_of.ensures b).0)) c.add_text.ensures
