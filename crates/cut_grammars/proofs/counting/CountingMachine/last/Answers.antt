use Rattle.cut_grammars.proofs.MoveLemmas.{last_exact, last_fixed}
use Rattle.cut_grammars.proofs.counting.CountingMachine.last.Goals as goal

pub returns-clause-exact : goal.returns-clause-exact
returns-clause-exact c = last_exact 0 c.in_ok-lasts.lasts.items c.in_ok-lasts.ensures

pub returns-clause-fixed : goal.returns-clause-fixed
returns-clause-fixed c = last_fixed c.in_ok-lasts.lasts.items c.in_ok-lasts.ensures
