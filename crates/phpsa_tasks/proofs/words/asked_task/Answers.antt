use Rattle.command_words.specs.Views.{asked_as}
use Rattle.phpsa_tasks.specs.Tasks.{asks}
use Rattle.phpsa_tasks.proofs.words.asked_task.Goals as goal

pub returns-in-Ok : goal.returns-in-Ok
returns-in-Ok c = asks (asked_as c.in-Ok.line) c.in-Ok.ensures.ok c.task_of.ensures
