use Rattle.std.proofs.Common.{ℕ, List, ◌∙◌}
use Rattle.dtd_model.specs.References.{is_known}
use Rattle.dtd_model.specs.TableOf.{table_of}
use Rattle.page_model.specs.Parts.{reference_of}
use Rattle.page_rules.proofs.Semicolons.{begins_is}
use Rattle.page_rules.proofs.references.begins_known.Goals as goal

pub returns : goal.returns
returns c = c.is_ended_known.ensures ∙ begins_is (λ (b : List ℕ). is_known (table_of c.args.indexed.now.dtd.now).entities (reference_of b)) c.args.cs.now _ _ c.split.ensures.front c.split.ensures.rest
