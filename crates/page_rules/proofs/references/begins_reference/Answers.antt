use Rattle.std.proofs.Common.{ℕ, List, ◌∙◌}
use Rattle.dtd_model.specs.References.{is_reference}
use Rattle.page_model.specs.Parts.{reference_of}
use Rattle.page_rules.proofs.Semicolons.{begins_is}
use Rattle.page_rules.proofs.references.begins_reference.Goals as goal

pub returns : goal.returns
returns c = c.is_ended.ensures ∙ begins_is (λ (b : List ℕ). is_reference (reference_of b)) c.args.cs.now _ _ c.split.ensures.front c.split.ensures.rest
