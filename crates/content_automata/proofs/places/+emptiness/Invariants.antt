use Rattle.std.proofs.Common.{◌≡◌, drop}
use Rattle.dtd_model.specs.Table.{models_in}
use Rattle.dtd_model.specs.Matches.{all_may_be_empty, some_may_be_empty}
use Rattle.content_automata.proofs.places.+emptiness.Given as goal

-- what is left decides
abbrev pub invariant-all_may_be_empty-loop-part : goal.invariant-all_may_be_empty-loop-part
invariant-all_may_be_empty-loop-part l = all_may_be_empty (models_in (drop l.part-index l.parts)) ≡ all_may_be_empty (models_in l.parts)

abbrev pub invariant-some_may_be_empty-loop-part : goal.invariant-some_may_be_empty-loop-part
invariant-some_may_be_empty-loop-part l = some_may_be_empty (models_in (drop l.part-index l.parts)) ≡ some_may_be_empty (models_in l.parts)
