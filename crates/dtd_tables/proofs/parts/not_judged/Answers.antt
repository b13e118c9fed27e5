use Rattle.std.proofs.Common.{subst}
use Rattle.dtd_texts.specs.Tables.{element_names}
use Rattle.dtd_tables.specs.Views.{IsNameCause}
use Rattle.dtd_tables.proofs.PartLemmas.{none_for_twice, none_for_many}
use Rattle.dtd_tables.proofs.parts.not_judged.Goals as goal

pub returns-in-Twice : goal.returns-in-Twice
returns-in-Twice c = λ all why. none_for_twice all _ (subst (IsNameCause (element_names all)) c.in-Twice.is why)

pub returns-in-Undeclared : goal.returns-in-Undeclared
returns-in-Undeclared c = λ all why. absurd (subst (IsNameCause (element_names all)) c.in-Undeclared.is why)

pub returns-in-Refused : goal.returns-in-Refused
returns-in-Refused c = λ all why. absurd (subst (IsNameCause (element_names all)) c.in-Refused.is why)

pub returns-in-LeftOut : goal.returns-in-LeftOut
returns-in-LeftOut c = λ all why. absurd (subst (IsNameCause (element_names all)) c.in-LeftOut.is why)

pub returns-in-Limit : goal.returns-in-Limit
returns-in-Limit c = λ all why. none_for_many all _ (subst (IsNameCause (element_names all)) c.in-Limit.is why)
