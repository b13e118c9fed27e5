use Rattle.phpsa_tasks.proofs.Soundness.{sound}
use Rattle.phpsa_tasks.proofs.laws.endings_are_sound.Goals as goal

pub returns : goal.returns
returns c = sound c.words_ask_for_one_task.ensures c.one_program_is_loaded.ensures c.loaded_programs_stay.ensures
