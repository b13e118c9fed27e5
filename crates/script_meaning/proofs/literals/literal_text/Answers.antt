use Rattle.script_meaning.proofs.FormLemmas.{no_text}
use Rattle.script_meaning.proofs.literals.literal_text.Goals as goal

pub returns-in_default : goal.returns-in_default
returns-in_default c = no_text c.args.expr.now c.in_default.not-Text
