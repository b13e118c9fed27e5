use Rattle.page_step_laws.proofs.Held.{read_by_characters}
use Rattle.page_step_laws.proofs.laws.read_by_characters.Goals as goal

pub returns : goal.returns
returns c = read_by_characters
