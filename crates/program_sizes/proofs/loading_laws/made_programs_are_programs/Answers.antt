use Rattle.program_sizes.proofs.ProgramLemmas.{is_program}
use Rattle.program_sizes.proofs.loading_laws.made_programs_are_programs.Goals as goal

pub returns : goal.returns
returns c = is_program c.statements_stand_for.ensures c.statements_have_places.ensures c.none_includes_itself.ensures c.calls_are_in_files.ensures c.files_of_the_program.ensures
