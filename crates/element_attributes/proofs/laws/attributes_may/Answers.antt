use Rattle.element_attributes.proofs.Fits.{attributes_may}
use Rattle.element_attributes.proofs.laws.attributes_may.Goals as goal

pub returns : goal.returns
returns c = attributes_may
