use Rattle.std.proofs.Common.{◌≡◌, length}
use Rattle.dtd_model.specs.References.{is_known}
use Rattle.dtd_model.specs.TableOf.{table_of}
use Rattle.page_model.specs.Parts.{refers_by}
use Rattle.page_rules.proofs.references.refers_to_known.Given as goal

abbrev pub invariant-loop-c : goal.invariant-loop-c
invariant-loop-c l = refers_by (is_known (table_of l.fn.indexed.dtd.now).entities) l.left ≡ refers_by (is_known (table_of l.fn.indexed.dtd.now).entities) l.cs

abbrev pub decreases-loop-c : goal.decreases-loop-c
decreases-loop-c l = length l.left
