use Rattle.script_meaning.proofs.FormLemmas.{no_number}
use Rattle.expression_lowering.proofs.alone.number_key.Goals as goal

pub returns-in_default : goal.returns-in_default
returns-in_default c = no_number c.args.key.now c.in_default.not-Int
