use Rattle.site_check.proofs.Cutting.{return_cut, return_kept}
use Rattle.site_check.proofs.listing.without_return.Goals as goal

pub returns-then-last-eq13 : goal.returns-then-last-eq13
returns-then-last-eq13 c = return_cut c.args.line.now c.in-len1-up.len_at_least c.if-last-eq13.true

pub returns-else-last-eq13 : goal.returns-else-last-eq13
returns-else-last-eq13 c = return_kept c.args.line.now c.in-len1-up.len_at_least c.if-last-eq13.false
