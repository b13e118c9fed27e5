use Rattle.string_functions.proofs.EndsLaws.{IsFactor-part_of}
use Rattle.string_functions.proofs.laws.cut_is_part.Goals as goal

pub returns : goal.returns
returns c = IsFactor-part_of c.args.text.now c.args.start c.args.len
