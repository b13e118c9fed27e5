use Rattle.std.proofs.Common.{refl}
use Rattle.page_policy.proofs.RangeLemmas.{one_range}
use Rattle.page_policy.proofs.parts.only.Goals as goal

pub returns : goal.returns
returns c = record {
  others = refl;
  ranges = one_range c.empty-set.result c.add.new.self c.args.byte c.args.byte c.empty-set.ensures c.add.ensures;
}
