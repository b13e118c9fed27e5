use Rattle.resolving.proofs.DraftLawLemmas.{draft_begins}
use Rattle.resolving.proofs.laws.system_is_draft.Goals as goal

pub returns : goal.returns
returns c = draft_begins c.args.s.now
