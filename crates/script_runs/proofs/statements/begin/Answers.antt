use Rattle.std.proofs.Common.{◌++◌, ap, ◌∙◌, refl}
use Rattle.php_syntax.specs.Trees.{plain_stmt}
use Rattle.php_syntax.proofs.Views.{plain_stmt-Inline, plain_stmt-Echo, plain_stmt-Run, plain_stmt-If, plain_stmt-While, plain_stmt-DoWhile, plain_stmt-For, plain_stmt-Each, plain_stmt-Break, plain_stmt-Continue, plain_stmt-Return, plain_stmt-Include, plain_stmt-Quit}
use Rattle.script_runs.proofs.BeginLemmas.{begin_inline, begin_echo, begin_run, begin_if, begin_while, begin_do_while, begin_for, begin_each, begin_break, begin_continue, begin_return, begin_quit, begin_include}
use Rattle.script_runs.proofs.statements.begin.Goals as goal

pub returns-in_ok-append-in-Inline : goal.returns-in_ok-append-in-Inline
returns-in_ok-append-in-Inline c = begin_inline _ _ _ _ (ap plain_stmt c.in-Inline.is ∙ plain_stmt-Inline _) (c.in_ok-append-in-Inline.ensures.ok ∙ ap (λ t. c.args.printed.now ++ t) c.as_slice.ensures)

pub returns-in-Echo : goal.returns-in-Echo
returns-in-Echo c = begin_echo _ _ _ _ _ _ (ap plain_stmt c.in-Echo.is ∙ plain_stmt-Echo _) c.deref.ensures.value c.echo_next.ensures

pub returns-in-Run : goal.returns-in-Run
returns-in-Run c = begin_run _ _ _ (ap plain_stmt c.in-Run.is ∙ plain_stmt-Run _)

pub returns-in-If : goal.returns-in-If
returns-in-If c = begin_if _ _ _ _ _ _ _ (ap plain_stmt c.in-If.is ∙ plain_stmt-If _ _) c.deref-in-If.ensures.value c.arms_next.ensures

pub returns-in-While : goal.returns-in-While
returns-in-While c = begin_while _ _ _ _ _ _ _ (ap plain_stmt c.in-While.is ∙ plain_stmt-While _ _) c.while_of.ensures c.loop_next.ensures

pub returns-in-DoWhile : goal.returns-in-DoWhile
returns-in-DoWhile c = begin_do_while _ _ _ _ _ (ap plain_stmt c.in-DoWhile.is ∙ plain_stmt-DoWhile _ _) c.while_of-in-DoWhile.ensures

pub returns-in-For : goal.returns-in-For
returns-in-For c = begin_for _ _ _ _ _ _ _ _ _ _ (ap plain_stmt c.in-For.is ∙ plain_stmt-For _ _ _ _) c.deref-in-For-2.ensures.value c.test_of.ensures c.deref-in-For.ensures.value refl c.before_loop.ensures

pub returns-in-Each : goal.returns-in-Each
returns-in-Each c = begin_each _ _ _ _ _ _ _ (ap plain_stmt c.in-Each.is ∙ plain_stmt-Each _ _ _ _) c.name_of.ensures

pub returns-in-Break : goal.returns-in-Break
returns-in-Break c = begin_break _ _ (ap plain_stmt c.in-Break.is ∙ plain_stmt-Break)

pub returns-in-Continue : goal.returns-in-Continue
returns-in-Continue c = begin_continue _ _ (ap plain_stmt c.in-Continue.is ∙ plain_stmt-Continue)

pub returns-in-Return : goal.returns-in-Return
returns-in-Return c = begin_return _ _ _ _ _ (ap plain_stmt c.in-Return.is ∙ plain_stmt-Return _) c.return_next.ensures

pub returns-in-Quit : goal.returns-in-Quit
returns-in-Quit c = begin_quit _ _ _ _ _ (ap plain_stmt c.in-Quit.is ∙ plain_stmt-Quit _) c.quit_next.ensures

pub returns-in-Include : goal.returns-in-Include
returns-in-Include c = begin_include _ _ _ _ (ap plain_stmt c.in-Include.is ∙ plain_stmt-Include _)
