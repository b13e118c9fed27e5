use Rattle.dtd_texts.proofs.Once.{reads_once}
use Rattle.dtd_texts.proofs.laws.one_reading.Goals as goal

pub returns : goal.returns
returns c = λ content file last other told a b. reads_once told a.reads b.reads
