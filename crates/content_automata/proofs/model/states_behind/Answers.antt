use Rattle.std.proofs.Common.{◌∙◌, sym, ap, map, false}
use Rattle.std.specs.Prelude.{replicate}
use Rattle.content_automata.specs.Sets.{raised}
use Rattle.std.specs.List.{range_with_len}
use Rattle.content_automata.specs.Shapes as spec
use Rattle.content_automata.specs.declared.model.Model.{Model}
use Rattle.content_automata.specs.Views.{shape_of}
use Rattle.content_automata.proofs.ModelLemmas.{rows_as, none_kept, all_kept, listed_kept}
use Rattle.content_automata.proofs.model.states_behind.Goals as goal

pub returns-in-Nothing : goal.returns-in-Nothing
returns-in-Nothing c = rows_as c.kept_for_all.result _ _ c.kept_for_all.ensures (none_kept c.args.count c.args.flags.now ∙ ap (λ (m : Model). map (spec.state_behind c.args.count (shape_of m) c.args.flags.now) (range_with_len 0 c.args.count)) (sym c.in-Nothing.is))

pub returns-in-Anything : goal.returns-in-Anything
returns-in-Anything c = rows_as c.kept_for_all-in-Anything.result _ _ c.kept_for_all-in-Anything.ensures (all_kept c.args.count c.args.flags.now ∙ ap (λ (m : Model). map (spec.state_behind c.args.count (shape_of m) c.args.flags.now) (range_with_len 0 c.args.count)) (sym c.in-Anything.is))

pub returns-in-Text : goal.returns-in-Text
returns-in-Text c =
    rows_as c.kept_for.result _ _ c.kept_for.ensures
    (ap (λ es. map (spec.kept c.args.flags.now) (raised (replicate c.args.count false) es)) c.as_slice.ensures.value
    ∙ listed_kept c.args.count c.in-Text.elements.items c.args.flags.now
    ∙ ap (λ (m : Model). map (spec.state_behind c.args.count (shape_of m) c.args.flags.now) (range_with_len 0 c.args.count)) (sym c.in-Text.is))
