-- What a program in memory is seen as.
use Rattle.script_meaning.specs.Programs.{PlainProgram}
use Rattle.program_rules.specs.declared.program.Program.{Program}
use Rattle.program_rules.specs.Lawful.{program_with, IsLawful}

-- its plain form, of which meanings and rules speak
abbrev pub program_of : Program → PlainProgram
program_of program = program_with program.main.items program.functions.items

-- what its type keeps
abbrev pub lawful_program : (program : Program) → IsLawful (program_of program)
lawful_program program = record {
  whole = program.whole;
  of_grammar = program.of_grammar;
  fits = program.fits;
  rules = program.rules;
  nodes_within = program.nodes_within;
  height_within = program.height_within;
}
