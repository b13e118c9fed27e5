use Rattle.fst_core.proofs.LayerLemmas.{insert_contains, reached_exact}
use Rattle.fst_core.proofs.layers.add_reached.Goals as goal

pub returns : goal.returns
returns c =
    insert_contains _ reached_exact c.args.next.now.keys c.insert_full.new.self.keys c.args.reached c.in_ok-insert_full.ensures.keys
