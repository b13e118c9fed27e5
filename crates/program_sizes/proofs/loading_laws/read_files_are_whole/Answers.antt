use Rattle.program_rules.specs.Includes.{itself}
use Rattle.program_sizes.proofs.ProgramLemmas.{are_whole, are_held, are_scripts, path_read}
use Rattle.program_sizes.proofs.loading_laws.read_files_are_whole.Goals as goal

pub returns-clause-whole : goal.returns-clause-whole
returns-clause-whole c = λ held name files one reached. are_whole held name files (c.files_of_the_program.ensures held name files one reached)

pub returns-clause-held : goal.returns-clause-held
returns-clause-held c = λ held name files one reached. are_held held name files (c.files_of_the_program.ensures held name files one reached)

pub returns-clause-scripts : goal.returns-clause-scripts
returns-clause-scripts c = λ held name files one reached. are_scripts held name files (c.files_of_the_program.ensures held name files one reached)

pub returns-clause-named : goal.returns-clause-named
returns-clause-named c = λ held name files one reached. path_read held name files (c.files_of_the_program.ensures held name files one reached) name itself
