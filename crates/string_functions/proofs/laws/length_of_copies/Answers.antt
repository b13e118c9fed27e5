use Rattle.string_functions.proofs.BytewiseLaws.{length-copies_of}
use Rattle.string_functions.proofs.laws.length_of_copies.Goals as goal

pub returns : goal.returns
returns c = length-copies_of c.args.count c.args.text.now
