use Rattle.string_functions.proofs.JoinLaws.{length-replaced_text}
use Rattle.string_functions.proofs.laws.length_of_replaced.Goals as goal

pub returns : goal.returns
returns c = length-replaced_text c.args.search.now c.args.with.now c.args.text.now
