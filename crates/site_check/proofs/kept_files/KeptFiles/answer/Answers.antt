use Rattle.std.proofs.Common.{subst, Option}
use Rattle.site_check.specs.declared.kept_files.KeptFile.{KeptFile}
use Rattle.site_check.specs.Views.{AnswersKept}
use Rattle.site_check.proofs.kept_files.KeptFiles.answer.Goals as goal

pub returns-in-Some : goal.returns-in-Some
returns-in-Some c = subst (λ (o : Option KeptFile). AnswersKept o c.answer.result) c.in-Some.ensures.value c.answer.ensures
