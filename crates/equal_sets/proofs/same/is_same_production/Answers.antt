use Rattle.equal_sets.proofs.BackLemmas.{production_is}
use Rattle.equal_sets.proofs.same.is_same_production.Goals as goal

pub returns-then-is_same_nt : goal.returns-then-is_same_nt
returns-then-is_same_nt c = λ same. production_is c.args.a c.args.b.left c.args.b.right (c.is_same_nt.ensures.0 c.if-is_same_nt.true) (c.is_same_right.ensures same)
