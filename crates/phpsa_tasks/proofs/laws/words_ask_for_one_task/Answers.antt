use Rattle.phpsa_tasks.proofs.OneTask.{WordLaws, one_task}
use Rattle.phpsa_tasks.proofs.laws.words_ask_for_one_task.Goals as goal

pub returns : goal.returns
returns c = let laws : WordLaws = record { once = c.words_ask_once.ensures.once; apart = c.words_ask_once.ensures.apart } in one_task laws
