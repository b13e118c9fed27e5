use Rattle.std.proofs.Common.{◌≡◌, map, drop}
use Rattle.dtd_model.specs.Table.{rule_of}
use Rattle.dtd_reader.specs.Choices.{have_large}
use Rattle.dtd_reader.proofs.choices.have_large_choice.Given as goal

abbrev pub invariant-loop-element : goal.invariant-loop-element
invariant-loop-element l = have_large (map rule_of (drop l.element-index l.elements)) ≡ have_large (map rule_of l.elements)
