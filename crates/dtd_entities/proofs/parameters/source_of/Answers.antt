use Rattle.dtd_entities.proofs.Sources.{found_is}
use Rattle.dtd_entities.proofs.parameters.source_of.Goals as goal

pub returns : goal.returns
returns c = found_is c.args.parameters.now.entries c.args.name.now _ c.get.ensures.value
