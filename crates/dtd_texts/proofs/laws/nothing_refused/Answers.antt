use Rattle.dtd_texts.proofs.Never.{never_breaks, never_omits, never_misses}
use Rattle.dtd_texts.proofs.laws.nothing_refused.Goals as goal

pub returns : goal.returns
returns c = record {
  broken = λ content file last at told a. never_breaks content file at last told a.reads a.whole;
  left_out = λ content file last at told a. never_omits content file at last told a.reads;
  missed = λ content file name last told a. never_misses content file name last told a.reads;
}
