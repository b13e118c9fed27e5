use Rattle.dtd_texts.proofs.Declarations.{said_lawful}
use Rattle.dtd_texts.proofs.table_laws.declarations_are_lawful.Goals as goal

pub returns : goal.returns
returns c = said_lawful
