use Rattle.dtd_texts.specs.Reading.{State}
use Rattle.dtd_texts.proofs.Grows.{UpTo}
use Rattle.dtd_texts.proofs.Never.{never_larger}
use Rattle.dtd_texts.proofs.laws.never_larger.Goals as goal

pub returns : goal.returns
returns c = λ content file s last told a comes. let up : UpTo s last = never_larger content file s last told a.reads comes in (up.length, up.references, up.passed)
