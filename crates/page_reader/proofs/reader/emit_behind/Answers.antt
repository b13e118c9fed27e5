use Rattle.std.proofs.Common.{ap, sym, ◌∙◌}
use Rattle.page_reader.specs.declared.state.ReaderState.{ReaderState}
use Rattle.page_reader.specs.States.{tokens_behind}
use Rattle.page_reader.proofs.reader.emit_behind.Goals as goal

pub returns-in-Reading : goal.returns-in-Reading
returns-in-Reading c = λ table. c.emit_left.ensures table ∙ ap (λ (s : ReaderState). tokens_behind table s) (sym c.in-Reading.is)
