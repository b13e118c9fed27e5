use Rattle.coarse_forms.proofs.Lawful.{lawful_are_coarse}
use Rattle.coarse_forms.proofs.laws.lawful_texts_are_coarse.Goals as goal

pub returns : goal.returns
returns c = lawful_are_coarse
