use Rattle.std.proofs.Common.{◌≡◌, ◌++◌, drop}
use Rattle.given_texts.specs.Kept.{kept}
use Rattle.given_texts.proofs.keeping.add_kept.Given as goal

abbrev pub invariant-loop-production : goal.invariant-loop-production
invariant-loop-production l = l.productions.items ++ kept l.marks l.base (drop l.production-index l.more) ≡ l.initial.productions.items ++ kept l.marks l.base l.more
