use Rattle.string_ops.proofs.HtmlLemmas.{html_is_machine}
use Rattle.string_ops.proofs.html.html_machine.Goals as goal

pub returns : goal.returns
returns c = html_is_machine c.in_ok-table.table c.in_ok-table.ensures
