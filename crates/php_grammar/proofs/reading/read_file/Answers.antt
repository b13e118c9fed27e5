use Rattle.std.proofs.Common.{subst, sym, arith}
use Rattle.std.specs.Prelude.{MatchResult}
use Rattle.lr_tables.specs.Grammars.{IsOnly, IsFirstWrong}
use Rattle.lr_tables.specs.Laws.{AreChecked}
use Rattle.lr_tables.specs.Machine.{Tables}
use Rattle.lr_machine.specs.Refusals.{IsRefused}
use Rattle.php_grammar.proofs.AreGood.{are_checked}
use Rattle.php_grammar.proofs.reading.read_file.Goals as goal

pub parse-requires : goal.parse-requires
parse-requires c = (omega arith, (omega arith, subst AreChecked (sym c.tables-tables.ensures) are_checked))

pub returns : goal.returns
returns c = subst (λ (t : Tables). MatchResult c.parse.result (λ events. IsOnly t.grammar c.args.kinds.now events.items) (λ error. IsRefused error (IsFirstWrong t.grammar c.args.kinds.now))) c.tables-tables.ensures c.parse.ensures
