use Rattle.string_functions.proofs.JoinLaws.{Contains-replaced_text}
use Rattle.string_functions.proofs.laws.bytes_of_replaced.Goals as goal

pub returns : goal.returns
returns c = Contains-replaced_text c.args.search.now c.args.with.now c.args.text.now
