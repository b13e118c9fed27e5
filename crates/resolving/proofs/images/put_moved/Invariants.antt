use Rattle.resolving.specs.Images.{AddsProductions}
use Rattle.resolving.proofs.images.put_moved.Given as goal

abbrev pub invariant-loop-production : goal.invariant-loop-production
invariant-loop-production l = AddsProductions l.base l.productions l.production-index l.initial.draft l.draft
