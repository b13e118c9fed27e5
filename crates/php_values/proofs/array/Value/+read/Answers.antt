use Rattle.std.proofs.Common.{◌≡◌, List, Option, Ok, ◌∙◌, ap, Result}
use Rattle.plain_values.specs.Plain.{Plain, null}
use Rattle.plain_values.specs.Outcome.{go_on}
use Rattle.plain_values.specs.Paths.{get_step, read}
use Rattle.plain_values.specs.declared.fault.Fault.{Fault}
use Rattle.php_values.specs.View.{plain_of, plain_step, plain_path}
use Rattle.php_values.specs.declared.key.Key.{Key}
use Rattle.php_values.proofs.WriteLaws.{read_null}
use Rattle.php_values.proofs.array.Value.+read.Goals as goal

pub returns-in-None-2-clause-ok : goal.returns-in-None-2-clause-ok
returns-in-None-2-clause-ok t c =
    let got : get_step (plain_of c.args.self.now) (plain_step c.in-Some.step.now) ≡ Ok null = rw c.in-None-2.is at c.in_ok-member-in-Some.ensures.ok in
    ap (λ (path : List (Option Key)). read (plain_path path) (plain_of c.args.self.now)) c.in-Some.ensures.cases.0
    ∙ ap (λ (r : Result Plain Fault). go_on r (read (plain_path c.in-Some.rest.now))) got
    ∙ read_null (plain_path c.in-Some.rest.now)
