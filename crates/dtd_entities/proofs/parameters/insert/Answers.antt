use Rattle.dtd_entities.proofs.Sources.{declared_new}
use Rattle.dtd_entities.proofs.parameters.insert.Goals as goal

pub returns : goal.returns
returns c = declared_new c.args.parameters.now.entries c.insert.new.self.entries c.args.name c.args.source c.requires c.in_ok-insert.ensures.entries
