use Rattle.dtd_texts.proofs.Never.{never_asks_in_vain}
use Rattle.dtd_texts.proofs.laws.nothing_missing.Goals as goal

pub returns : goal.returns
returns c = λ content file name last told a. never_asks_in_vain content file name last told a.reads
