use Rattle.page_policy.proofs.FeedLemmas.{feed_cut, feed_kept}
use Rattle.page_policy.proofs.reading.without_feed.Goals as goal

pub returns-then-last-eq10 : goal.returns-then-last-eq10
returns-then-last-eq10 c = feed_cut c.args.file.now c.in-len1-up.len_at_least c.if-last-eq10.true

pub returns-else-last-eq10 : goal.returns-else-last-eq10
returns-else-last-eq10 c = feed_kept c.args.file.now c.in-len1-up.len_at_least c.if-last-eq10.false
