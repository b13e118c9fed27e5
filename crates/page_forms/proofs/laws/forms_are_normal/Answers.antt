use Rattle.page_forms.proofs.Normality.{forms_are_normal}
use Rattle.page_forms.proofs.laws.forms_are_normal.Goals as goal

pub returns : goal.returns
returns c = forms_are_normal
