use Rattle.phpsa_texts.proofs.Printing.{printable}
use Rattle.phpsa_texts.proofs.shown.shown_names_are_printable.Goals as goal

pub returns : goal.returns
returns c = printable
