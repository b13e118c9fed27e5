use Rattle.page_forms.proofs.GoingOn.{none_goes_on}
use Rattle.page_forms.proofs.laws.none_goes_on.Goals as goal

pub returns : goal.returns
returns c = none_goes_on
