use Rattle.std.proofs.Common.{◌≡◌, length}
use Rattle.dtd_model.specs.References.{is_reference}
use Rattle.page_model.specs.Parts.{refers_by}
use Rattle.page_rules.proofs.references.refers.Given as goal

abbrev pub invariant-loop-c : goal.invariant-loop-c
invariant-loop-c l = refers_by is_reference l.left ≡ refers_by is_reference l.cs

abbrev pub decreases-loop-c : goal.decreases-loop-c
decreases-loop-c l = length l.left
