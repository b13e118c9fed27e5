use Rattle.derivatives.proofs.NodeLemmas.{still_built, made, listed}
use Rattle.derivatives.proofs.arena.Arena.put.Goals as goal

pub invariant_of-self : goal.invariant_of-self
invariant_of-self c = record {
  built = still_built c.args.self.now.nodes.keys c.number.new.keys.keys c.args.node c.args.self.now.built c.requires c.number.ensures.keeps c.number.ensures.adds;
}

pub returns-clause-expression : goal.returns-clause-expression
returns-clause-expression c = made c.args.self.now _ c.args.node c.requires c.in_ok-place.ensures.keeps c.in_ok-place.place c.in_ok-place.ensures.number

pub returns-clause-members : goal.returns-clause-members
returns-clause-members c = listed c.args.self.now _ c.args.node c.requires c.in_ok-place.ensures.keeps c.in_ok-place.place c.in_ok-place.ensures.number
