use Rattle.phpsa_tasks.proofs.Held.{ProgramLaws}
use Rattle.phpsa_tasks.proofs.Answers.{Laws, answers}
use Rattle.phpsa_tasks.proofs.laws.endings_are_answered.Goals as goal

pub returns : goal.returns
returns c =
    let programs : ProgramLaws = record { one_program = c.one_program_is_loaded.ensures; stay = c.loaded_programs_stay.ensures; not_refused = c.held_programs_are_loaded.ensures } in
    let laws : Laws = record {
      one_task = c.words_ask_for_one_task.ensures;
      programs = programs;
      apart = c.words_ask_once.ensures.apart;
      canonical = c.words_ask_once.ensures.canonical;
    } in
    answers laws
