use Rattle.std.proofs.Common.{refl}
use Rattle.resolving.proofs.DraftLemmas.{widens_by}
use Rattle.resolving.proofs.draft.widen.Goals as goal

pub returns : goal.returns
returns c = widens_by c.args.draft.now _ c.args.count c.requires refl c.in_ok-widen.ensures.len c.in_ok-widen.ensures.chains
