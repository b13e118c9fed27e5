use Rattle.std.proofs.Common.{◌∙◌}
use Rattle.expr_parser.specs.Heads.{terminals_of}
use Rattle.stmt_builder.specs.Views.{made_of}
use Rattle.stmt_machine.specs.Actions.{continue_action}
use Rattle.stmt_parser.proofs.ActedLemmas.{acted_jump}
use Rattle.stmt_parser.proofs.reader.Reader.continue_step.Goals as goal

pub returns : goal.returns
returns c = acted_jump c.in_ok-done.done continue_action c.args.self.now.frames (terminals_of c.args.rest.now) (made_of c.args.self.now.maker) (made_of c.go_on.new.self) c.in_ok-done.ensures ∙ c.jump.ensures c.args.self.now.frames (made_of c.go_on.new.self)
