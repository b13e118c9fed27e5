use Rattle.page_endings.proofs.Ends.{characters_end}
use Rattle.page_endings.proofs.laws.characters_end.Goals as goal

pub returns : goal.returns
returns c = characters_end
