use Rattle.std.proofs.Common.{map, string_bytes, refl, subst}
use Rattle.phpsa_tasks.specs.Tasks.{AsksFor}
use Rattle.phpsa_tasks.specs.Views.{task_as}
use Rattle.phpsa_main.proofs.Ended.{wanting_ends, replied_ends, refused_ends}
use Rattle.phpsa_main.proofs.Counting.{wanting_counts, replied_counts, refused_counts}
use Rattle.phpsa_main.proofs.run.Goals as goal

pub returns-in-Err-clause-ends : goal.returns-in-Err-clause-ends
returns-in-Err-clause-ends g c = wanting_ends _ _ refl c.refuse.ensures.reports

pub returns-in-Err-clause-counted : goal.returns-in-Err-clause-counted
returns-in-Err-clause-counted g c = wanting_counts _ _ refl c.refuse.ensures.reports refl c.refuse.ensures.told

pub returns-in-Ok-result_of-clause-ends : goal.returns-in-Ok-result_of-clause-ends
returns-in-Ok-result_of-clause-ends g c =
    replied_ends _ (task_as c.in-Ok.task) c.in-Ok-result_of.reply _
    (subst (λ words. AsksFor (map string_bytes words) (task_as c.in-Ok.task)) c.deref.ensures.value c.in-Ok.ensures) c.in-Ok-result_of.ensures c.report.ensures.reports

pub returns-in-Ok-result_of-clause-counted : goal.returns-in-Ok-result_of-clause-counted
returns-in-Ok-result_of-clause-counted g c =
    replied_counts c.words_ask_for_one_task.ensures _ (task_as c.in-Ok.task) c.in-Ok-result_of.reply _
    (subst (λ words. AsksFor (map string_bytes words) (task_as c.in-Ok.task)) c.deref.ensures.value c.in-Ok.ensures) c.in-Ok-result_of.ensures c.report.ensures.reports
    c.report.ensures.told_out c.report.ensures.told_err

pub returns-in-Err-result_of-clause-ends : goal.returns-in-Err-result_of-clause-ends
returns-in-Err-result_of-clause-ends g c =
    refused_ends _ (task_as c.in-Ok.task) c.in-Err-result_of.refusal _
    (subst (λ words. AsksFor (map string_bytes words) (task_as c.in-Ok.task)) c.deref.ensures.value c.in-Ok.ensures) c.in-Err-result_of.ensures refl c.refuse-in-Err-result_of.ensures.reports

pub returns-in-Err-result_of-clause-counted : goal.returns-in-Err-result_of-clause-counted
returns-in-Err-result_of-clause-counted g c =
    refused_counts c.words_ask_for_one_task.ensures _ (task_as c.in-Ok.task) c.in-Err-result_of.refusal _
    (subst (λ words. AsksFor (map string_bytes words) (task_as c.in-Ok.task)) c.deref.ensures.value c.in-Ok.ensures) c.in-Err-result_of.ensures
    c.refuse-in-Err-result_of.ensures.reports refl c.refuse-in-Err-result_of.ensures.told
