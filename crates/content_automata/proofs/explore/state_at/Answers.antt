use Rattle.content_automata.proofs.ExploreLemmas.{key_within, key_sized, state_reached, state_row}
use Rattle.content_automata.proofs.explore.state_at.Goals as goal

pub model_at-model-requires : goal.model_at-model-requires
model_at-model-requires c = key_within _ _ _ _ c.requires.reached c.in_ok-element.ensures

pub cells-requires : goal.cells-requires
cells-requires c = key_sized _ _ _ _ _ c.requires.sized c.requires.reached c.in_ok-element.ensures c.model_at-model.ensures

pub returns-in_err-behind-clause-reached : goal.returns-in_err-behind-clause-reached
returns-in_err-behind-clause-reached c = state_reached _ _ _ _ _ _ c.requires.reached c.in_ok-element.ensures c.model_at-model.ensures c.cells.ensures.adds

pub returns-clause-reached : goal.returns-clause-reached
returns-clause-reached c = state_reached _ _ _ _ _ _ c.requires.reached c.in_ok-element.ensures c.model_at-model.ensures c.cells.ensures.adds

pub returns-clause-row : goal.returns-clause-row
returns-clause-row c =
    ((c.in_ok-element.element, c.in_ok-element.flags), c.in_ok-element.ensures, state_row _ _ _ _ _ c.model_at-model.ensures c.has_end.ensures c.in_ok-behind.ensures.cells)
