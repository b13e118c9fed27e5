use Rattle.page_model.proofs.CutLemmas.{cut_read}
use Rattle.page_model.proofs.reading_laws.each_is_read.Goals as goal

pub returns : goal.returns
returns c = λ table place found h. cut_read table place found.0 found.1 h
