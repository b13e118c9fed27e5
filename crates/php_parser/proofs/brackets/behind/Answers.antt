use Rattle.std.proofs.Common.{ap, sym, ◌∙◌}
use Rattle.script_grammar.specs.Grammar.{open_after}
use Rattle.php_parser.proofs.Open.{open_other}
use Rattle.php_parser.proofs.brackets.behind.Goals as goal

pub returns-in-Some : goal.returns-in-Some
returns-in-Some c = c.behind_sign.ensures ∙ ap (open_after c.args.count) (sym c.in-Some.ensures)

pub returns-in-None : goal.returns-in-None
returns-in-None c = sym (open_other c.args.count _ c.in-None.ensures)
