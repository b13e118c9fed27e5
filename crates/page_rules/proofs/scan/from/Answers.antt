use Rattle.page_rules.proofs.Splits.{to_end}
use Rattle.page_rules.proofs.scan.from.Goals as goal

pub returns : goal.returns
returns c = to_end c.args.i c.args.cs.now
