use Rattle.page_model.proofs.CutLemmas.{cut_is}
use Rattle.page_model.proofs.reading_laws.nothing_else.Goals as goal

pub returns : goal.returns
returns c = λ table place characters found e. let i = cut_is table place characters found e in (i.lawful, i.is)
