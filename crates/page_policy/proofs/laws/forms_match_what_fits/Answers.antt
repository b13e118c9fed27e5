use Rattle.page_policy.proofs.FitLemmas.{forms_match}
use Rattle.page_policy.proofs.laws.forms_match_what_fits.Goals as goal

pub returns : goal.returns
returns c = forms_match
