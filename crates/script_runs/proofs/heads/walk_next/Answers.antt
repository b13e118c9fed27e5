use Rattle.std.proofs.Common.{refl}
use Rattle.script_runs.proofs.HeadLemmas.{walk_ends, walk_goes}
use Rattle.script_runs.proofs.heads.walk_next.Goals as goal

pub returns-in-None : goal.returns-in-None
returns-in-None c = walk_ends _ (rw c.in-None.is at c.in_ok-next.ensures.none).0

pub returns : goal.returns
returns c = walk_goes _ _ _ _ (rw c.in-Some.is at c.in_ok-next.ensures.some) refl refl refl
