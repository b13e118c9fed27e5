use Rattle.string_functions.proofs.EndsLaws.{IsFactor-trim_of}
use Rattle.string_functions.proofs.laws.trim_is_part.Goals as goal

pub returns : goal.returns
returns c = IsFactor-trim_of c.args.left c.args.right c.args.text.now
