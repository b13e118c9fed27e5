use Rattle.std.proofs.Common.{◌∙◌, ap, ◌∷◌, [], ◌++◌, List}
use Rattle.fst_core.specs.declared.moves.Action.{Action}
use Rattle.string_ops.proofs.SearchLemmas.{first_row}
use Rattle.string_ops.proofs.search.add_first.Goals as goal

pub returns-clause-moves : goal.returns-clause-moves
returns-clause-moves c =
    first_row c.args.table.now.moves.items c.add_row.new.self.moves.items c.args.from c.args.row.now c.as_slice.result.now c.args.nothing
    (c.as_slice.ensures.value ∙ (c.in_ok-push.ensures.items ∙ ap (λ (x : List Action). x ++ c.args.nothing ∷ []) c.new-actions.ensures.items)) c.in_ok-add_row.ensures.moves
