use Rattle.string_functions.proofs.JoinLaws.{IsFactor-pieces_of}
use Rattle.string_functions.proofs.laws.pieces_are_parts.Goals as goal

pub returns : goal.returns
returns c = IsFactor-pieces_of c.args.sep.now c.args.text.now
