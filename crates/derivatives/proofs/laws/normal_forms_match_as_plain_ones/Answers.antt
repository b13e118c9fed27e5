use Rattle.derivatives.proofs.NormalForms.{chain_shown, chain_made, either_shown, either_made, among_shown, among_made}
use Rattle.derivatives.proofs.laws.normal_forms_match_as_plain_ones.Goals as goal

pub returns : goal.returns
returns c = record {
  chained = λ x y w. (chain_shown x y, chain_made x y);
  either = λ x y w. (either_shown x y, either_made x y);
  among = λ ms w. (among_shown ms, among_made ms);
}
