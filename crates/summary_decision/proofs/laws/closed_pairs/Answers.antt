use Rattle.summary_decision.proofs.ClosedLemmas.{takes_one, closed_complete, closed_has_all}
use Rattle.summary_decision.proofs.laws.closed_pairs.Goals as goal

pub returns-clause-takes_one : goal.returns-clause-takes_one
returns-clause-takes_one g c = λ ps start known n a s at closed taken. takes_one (g.S.Summary.sum_of c.args._summary.now) (g.S.Summary.composed c.args._summary.now) ps start known n a s at closed taken

pub returns-clause-next : goal.returns-clause-next
returns-clause-next g c = λ ps start known n k closed complete a w h l serves d. closed_complete (g.S.Summary.sum_of c.args._summary.now) (g.S.Summary.composed c.args._summary.now) (g.S.Summary.appended c.args._summary.now) ps start known n k closed complete a w h l serves d

pub returns-clause-all : goal.returns-clause-all
returns-clause-all g c = λ ps start known closed a w serves d. closed_has_all (g.S.Summary.sum_of c.args._summary.now) (g.S.Summary.composed c.args._summary.now) (g.S.Summary.appended c.args._summary.now) ps start known closed a w serves d
