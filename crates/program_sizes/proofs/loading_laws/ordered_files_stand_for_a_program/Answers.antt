use Rattle.program_sizes.proofs.ProgramLemmas.{is_acyclic, stands_for_program}
use Rattle.program_sizes.proofs.loading_laws.ordered_files_stand_for_a_program.Goals as goal

pub returns-clause-acyclic : goal.returns-clause-acyclic
returns-clause-acyclic c = λ held name files order one reached sorted. is_acyclic c.none_includes_itself.ensures held files order name one (c.files_of_the_program.ensures held name files one reached) sorted

pub returns-clause-program : goal.returns-clause-program
returns-clause-program c =
    λ held name files order stubs one reached sorted. stands_for_program c.statements_stand_for.ensures c.statements_have_places.ensures held files order name stubs (c.files_of_the_program.ensures held name files one reached) sorted
