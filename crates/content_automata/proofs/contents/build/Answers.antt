use Rattle.std.proofs.Common.{subst}
use Rattle.dtd_model.specs.TableOf.{table_of}
use Rattle.std.specs.Prelude.{length}
use Rattle.content_automata.specs.declared.limits.TheConstants.{MOVE_LIMIT}
use Rattle.content_automata.specs.Counts.{HaveFewMoves}
use Rattle.content_automata.specs.Refusals.{IsCause}
use Rattle.content_automata.proofs.BuildLemmas.{shapes_same, sized_as, table_as, table_decides, table_apart, table_owners, table_goes, table_reaches, rules_lawful, all_begin, cause_as, pairs_as}
use Rattle.content_automata.proofs.contents.build.Goals as goal

pub tabled-requires : goal.tabled-requires
tabled-requires c = sized_as _ _ (shapes_same _ _ _ _ c.as_slice-2.ensures.value c.in-Ok.ensures.models c.as_slice.ensures.value)

pub returns-in-Ok-tabled-clause-decides : goal.returns-in-Ok-tabled-clause-decides
returns-in-Ok-tabled-clause-decides c =
    table_decides (table_of c.args.dtd.now) _ (table_as _ (table_of c.args.dtd.now) _ (shapes_same _ _ _ _ c.as_slice-2.ensures.value c.in-Ok.ensures.models c.as_slice.ensures.value) c.in-Ok-tabled.ensures.table)

pub returns-in-Ok-tabled-clause-apart : goal.returns-in-Ok-tabled-clause-apart
returns-in-Ok-tabled-clause-apart c =
    table_apart (table_of c.args.dtd.now) _ (table_as _ (table_of c.args.dtd.now) _ (shapes_same _ _ _ _ c.as_slice-2.ensures.value c.in-Ok.ensures.models c.as_slice.ensures.value) c.in-Ok-tabled.ensures.table)

pub returns-in-Ok-tabled-clause-owners : goal.returns-in-Ok-tabled-clause-owners
returns-in-Ok-tabled-clause-owners c =
    table_owners (table_of c.args.dtd.now) _ (table_as _ (table_of c.args.dtd.now) _ (shapes_same _ _ _ _ c.as_slice-2.ensures.value c.in-Ok.ensures.models c.as_slice.ensures.value) c.in-Ok-tabled.ensures.table)

pub returns-in-Ok-tabled-clause-elements : goal.returns-in-Ok-tabled-clause-elements
returns-in-Ok-tabled-clause-elements c =
    all_begin (table_of c.args.dtd.now) _ (table_as _ (table_of c.args.dtd.now) _ (shapes_same _ _ _ _ c.as_slice-2.ensures.value c.in-Ok.ensures.models c.as_slice.ensures.value) c.in-Ok-tabled.ensures.table)

pub returns-clause-limit : goal.returns-clause-limit
returns-clause-limit c =
    subst (λ ss. IsCause ss c.in-Err-tabled.refusal) (shapes_same _ _ _ _ c.as_slice-2.ensures.value c.in-Ok.ensures.models c.as_slice.ensures.value) c.in-Err-tabled.ensures.limit

pub returns-in-Ok-tabled-clause-goes_on : goal.returns-in-Ok-tabled-clause-goes_on
returns-in-Ok-tabled-clause-goes_on c =
    table_goes (table_of c.args.dtd.now) _ (table_as _ (table_of c.args.dtd.now) _ (shapes_same _ _ _ _ c.as_slice-2.ensures.value c.in-Ok.ensures.models c.as_slice.ensures.value) c.in-Ok-tabled.ensures.table) (rules_lawful (table_of c.args.dtd.now).elements (table_of c.args.dtd.now).entities c.args.dtd.now.lawful)

pub returns-in-Ok-tabled-clause-reached : goal.returns-in-Ok-tabled-clause-reached
returns-in-Ok-tabled-clause-reached c =
    table_reaches (table_of c.args.dtd.now) _ (table_as _ (table_of c.args.dtd.now) _ (shapes_same _ _ _ _ c.as_slice-2.ensures.value c.in-Ok.ensures.models c.as_slice.ensures.value) c.in-Ok-tabled.ensures.table)

pub returns-in-Err-clause-limit : goal.returns-in-Err-clause-limit
returns-in-Err-clause-limit c = cause_as _ _ _ c.as_slice.ensures.value c.in-Err.ensures.limit

pub returns-in-Ok-tabled-clause-pairs : goal.returns-in-Ok-tabled-clause-pairs
returns-in-Ok-tabled-clause-pairs c = pairs_as _ _ _ c.as_slice.ensures.value c.in-Ok.ensures.pairs

pub returns-in-Ok-tabled-clause-moves : goal.returns-in-Ok-tabled-clause-moves
returns-in-Ok-tabled-clause-moves c =
    subst (λ ss. HaveFewMoves ss (length c.in-Ok-tabled.contents.1) MOVE_LIMIT) (shapes_same _ _ _ _ c.as_slice-2.ensures.value c.in-Ok.ensures.models c.as_slice.ensures.value) c.in-Ok-tabled.ensures.moves
