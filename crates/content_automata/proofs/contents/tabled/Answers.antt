use Rattle.content_automata.specs.Views.{shapes_of}
use Rattle.content_automata.proofs.BuildLemmas.{cause, table_is, few_moves}
use Rattle.content_automata.proofs.MoveLemmas.{over_too_many}
use Rattle.content_automata.proofs.contents.tabled.Goals as goal

pub returns-in-Err-clause-limit : goal.returns-in-Err-clause-limit
returns-in-Err-clause-limit c = cause _ _ _ c.in-Err.ensures.reached (over_too_many (shapes_of c.args.models.now) _ _ c.in-Err.ensures.limit)

pub returns-in-Err-explore-clause-limit : goal.returns-in-Err-explore-clause-limit
returns-in-Err-explore-clause-limit c = cause _ _ _ c.in-Err-explore.ensures.reached c.in-Err-explore.ensures.limit

pub returns-clause-table : goal.returns-clause-table
returns-clause-table c =
    table_is _ _ _ _ _ _ c.in_ok-owners.ensures c.in-Ok-explore.ensures.apart c.in-Ok-explore.ensures.reached c.in-Ok-explore.ensures.keeps c.in-Ok.ensures.firsts c.in-Ok-explore.ensures.rows

pub returns-clause-moves : goal.returns-clause-moves
returns-clause-moves c = few_moves _ _ _ _ c.in-Ok-explore.ensures.apart c.in-Ok-explore.ensures.reached c.in-Ok-explore.ensures.rows c.in-Ok-explore.ensures.moves
