use Rattle.derivations.proofs.Pushes.{pushed}
use Rattle.derivations.proofs.nodes.Nodes.push.Goals as goal

pub invariant_of-self : goal.invariant_of-self
invariant_of-self c = record { lawful = pushed c.push_node.result _ _ _ _ _ c.args.self.now.lawful c.requires c.parts_length-length.ensures c.push_node.ensures.ok c.push_node.ensures.err }
