use Rattle.dtd_texts.proofs.Entities.{entities_named}
use Rattle.dtd_texts.proofs.table_laws.entities_are_names.Goals as goal

pub returns : goal.returns
returns c = entities_named
