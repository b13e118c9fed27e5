use Rattle.std.proofs.Common.{inr}
use Rattle.php_builtins.proofs.CountLemmas.{other_length}
use Rattle.php_builtins.proofs.application.apply.Goals as goal

pub returns-clause-err : goal.returns-clause-err
returns-clause-err c = inr (other_length c.args.builtin c.args.args.now c.if-args-eq1.false c.if-args-eq2.false c.if-args-eq3.false)
