use Rattle.std.proofs.Common.{⊎_elim}
use Rattle.plain_values.proofs.NumericLaws.{integer_from, integer_to, float_from, fraction_to, long_to}
use Rattle.plain_values.proofs.laws.numeric_texts.Goals as goal

pub returns-clause-integer : goal.returns-clause-integer
returns-clause-integer c = λ text z. (integer_from text z, λ h. integer_to text z h.0 h.1)

pub returns-clause-float : goal.returns-clause-float
returns-clause-float c = λ text. (float_from text, λ h. ⊎_elim (fraction_to text) (λ l. long_to text l.0 l.1 l.2) h)
