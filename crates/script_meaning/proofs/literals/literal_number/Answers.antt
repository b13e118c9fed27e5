use Rattle.script_meaning.proofs.FormLemmas.{no_number}
use Rattle.script_meaning.proofs.literals.literal_number.Goals as goal

pub returns-in_default : goal.returns-in_default
returns-in_default c = no_number c.args.expr.now c.in_default.not-Int
