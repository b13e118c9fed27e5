use Rattle.phpsa_tasks.proofs.Writing.{written}
use Rattle.phpsa_tasks.proofs.laws.endings_are_written.Goals as goal

pub returns : goal.returns
returns c = written c.words_ask_for_one_task.ensures c.one_program_is_loaded.ensures
