use Rattle.phpsa_tasks.proofs.Joining.{joined}
use Rattle.phpsa_tasks.proofs.laws.checked_runs_print_good_pages.Goals as goal

pub returns : goal.returns
returns c = joined c.words_ask_for_one_task.ensures
