use Rattle.std.proofs.Common.{◌∙◌, arith}
use Rattle.php_syntax.specs.Trees.{no_expr}
use Rattle.expr_parser.specs.Heads.{terminals_of}
use Rattle.stmt_builder.specs.Views.{made_of}
use Rattle.stmt_machine.specs.Actions.{parameter_action}
use Rattle.stmt_parser.proofs.ActedLemmas.{acted_does}
use Rattle.stmt_parser.proofs.LiteralLemmas.{none_height}
use Rattle.stmt_machine.specs.declared.frame.Focus.TheVariants as focus
use Rattle.stmt_parser.proofs.reader.Reader.plain_step.Goals as goal

pub parameter-requires : goal.parameter-requires
parameter-requires c = (none_height, omega arith)

pub returns : goal.returns
returns c = acted_does c.in_ok-done.done (parameter_action c.args.name.now no_expr) focus.BehindParameter c.args.self.now.frames (terminals_of c.args.rest.now) (made_of c.args.self.now.maker) (made_of c.parameter.new.self) c.in_ok-done.ensures ∙ c.gone.ensures c.args.self.now.frames (made_of c.parameter.new.self)
