use Rattle.string_functions.proofs.PlaceLemmas.{Reads}
use Rattle.string_functions.proofs.occurrence.find.Given as goal

abbrev pub invariant-loop-at : goal.invariant-loop-at
invariant-loop-at l = Reads l.pattern l.text l.at l.part
