use Rattle.std.proofs.Common.{sym}
use Rattle.spellable.proofs.ShapeLemmas.{utf8_so, utf8_not}
use Rattle.php_writer.proofs.statement_tests.is_utf8.Goals as goal

pub returns-in-Ok : goal.returns-in-Ok
returns-in-Ok c = sym (utf8_so c.args.bytes.now c.in-Ok.ensures.cases.1)

pub returns-in-Err : goal.returns-in-Err
returns-in-Err c = sym (utf8_not c.args.bytes.now _ c.in-Err.ensures.cases.1)
