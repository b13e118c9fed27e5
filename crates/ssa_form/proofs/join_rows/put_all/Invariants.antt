use Rattle.std.proofs.Common.{take}
use Rattle.ssa_form.specs.Views.{versions_seen}
use Rattle.ssa_form.proofs.JoinRowLemmas.{PutSoFar}
use Rattle.ssa_form.proofs.join_rows.put_all.Given as goal

abbrev pub invariant-loop-version : goal.invariant-loop-version
invariant-loop-version l = PutSoFar l.initial.all.items l.all.items (versions_seen (take l.version-index l.versions)) l.before
