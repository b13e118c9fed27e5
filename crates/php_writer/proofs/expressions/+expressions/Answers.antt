use Rattle.std.proofs.Common.{rules}
use Rattle.php_writer.specs.Written.{expr_marks}
use Rattle.php_writer.proofs.RustLemmas.{one_part}
use Rattle.php_writer.proofs.ChoiceLemmas.{choice_written, update_written}
use Rattle.php_writer.proofs.expressions.+expressions.Goals as goal

pub join-returns-in-len1 : goal.join-returns-in-len1
unfolding expr_marks
join-returns-in-len1 t c = rw (one_part c.args.parts.now c.part-item.result c.in-len1.len_at_least c.in-len1.len_below c.part-item.is) c.put_read.ensures

pub expression-returns-in_ok-between-in-Choice : goal.expression-returns-in_ok-between-in-Choice
expression-returns-in_ok-between-in-Choice t c =
    choice_written c.signed-in-Choice.result c.args.expr.now c.in-Choice.test c.in-Choice.middle c.in-Choice.other c.deref-in-Choice.result.now c.deref-in-Choice-2.result.now c.args.out.now.bytes c.within.new.out.bytes c.between.new.out.bytes c.signed-in-Choice.new.out.bytes
    c.in-Choice.is (search rules) (search rules) c.in_ok-within-in-Choice.ensures c.in_ok-between-in-Choice.ensures c.signed-in-Choice.ensures

pub expression-returns-in-Update : goal.expression-returns-in-Update
expression-returns-in-Update t c =
    update_written c.update.result c.args.expr.now c.in-Update.sign c.in-Update.target c.in-Update.value c.deref-in-Update.result.now c.args.out.now.bytes c.update.new.out.bytes c.in-Update.is (search rules) c.update.ensures
