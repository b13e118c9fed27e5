use Rattle.std.proofs.Common.{◌∙◌, ap, sym}
use Rattle.dtd_model.specs.declared.dtd.Content.{Content}
use Rattle.dtd_model.specs.Table.{model_of, holding_of}
use Rattle.content_automata.specs.Shapes.{shape}
use Rattle.content_automata.specs.Counts as spec
use Rattle.content_automata.proofs.CountLemmas.{model_pairs}
use Rattle.content_automata.proofs.counts.pairs_of.Goals as goal

pub returns-in_ok-count-in-Children : goal.returns-in_ok-count-in-Children
returns-in_ok-count-in-Children c =
    c.in_ok-count-in-Children.ensures ∙ model_pairs (model_of c.in-Children.particle) ∙ ap (λ (x : Content). spec.pairs_of (shape (holding_of x))) (sym c.in-Children.is)
