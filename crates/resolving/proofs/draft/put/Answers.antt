use Rattle.resolving.proofs.DraftLemmas.{puts_one}
use Rattle.resolving.proofs.draft.put.Goals as goal

pub returns : goal.returns
returns c =
    puts_one c.args.draft.now _ c.args.production c.requires.indexed c.requires.below c.in_ok-push.ensures.items c.in_ok-push-2.ensures.len c.in_ok-push-2.ensures.chains
