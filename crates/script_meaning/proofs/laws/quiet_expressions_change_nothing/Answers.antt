use Rattle.std.proofs.Common.{subst}
use Rattle.plain_values.specs.Plain.{Plain}
use Rattle.script_meaning.proofs.Keeps.{Keeps, keeps_value}
use Rattle.script_meaning.proofs.laws.quiet_expressions_change_nothing.Goals as goal

pub returns : goal.returns
returns c w e s t v q same = subst (λ x. Keeps {A = Plain} s x) same (keeps_value w e q s)
