use Rattle.cut_grammars.proofs.MoveLemmas.{exact, within, given}
use Rattle.cut_grammars.proofs.counting.CountingMachine.moves.Goals as goal

pub returns-clause-exact : goal.returns-clause-exact
returns-clause-exact c = exact c.args.self.now.most c.args.state.now c.args.range c.in_ok-moves.moves.items c.in_ok-moves.ensures

pub returns-clause-within : goal.returns-clause-within
returns-clause-within c = within c.args.self.now.most c.args.state.now c.args.range c.in_ok-moves.moves.items c.in_ok-moves.ensures

pub returns-clause-given : goal.returns-clause-given
returns-clause-given c = given c.args.self.now.most c.args.state.now c.args.range c.in_ok-moves.moves.items c.in_ok-moves.ensures
