use Rattle.std.proofs.Common.{refl}
use Rattle.dtd_texts.specs.Causes.{unended}
use Rattle.dtd_texts.specs.Spells.{seen_from}
use Rattle.dtd_entities.specs.Positions.{state_of}
use Rattle.dtd_reader.proofs.Steps.{read_comes}
use Rattle.dtd_reader.proofs.reading.ended.Goals as goal

pub returns-else-is_between : goal.returns-else-is_between
returns-else-is_between c = λ call root name file reads limits calm.
    c.first_fault.ensures call root name file (read_comes (seen_from root name call.content) file (state_of c.args.reading) reads) (unended (state_of c.args.reading) reads (c.is_between.ensures.within c.if-is_between.false) refl) calm
