use Rattle.std.proofs.Common.{◌∙◌, ap, not}
use Rattle.value_operations.proofs.JoinLemmas.{truth_of_pairs}
use Rattle.value_operations.proofs.forms.has_pairs.Goals as goal

pub returns : goal.returns
returns c = ap not c.is_empty.ensures ∙ truth_of_pairs c.args.pairs.now
