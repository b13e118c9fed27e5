use Rattle.std.proofs.Common.{[], ap, sym, ◌∙◌}
use Rattle.expr_parser.specs.Heads.{terminals_of}
use Rattle.stmt_builder.specs.Views.{made_of}
use Rattle.stmt_machine.specs.Machine.{moves}
use Rattle.stmt_parser.specs.Outcomes.{acted}
use Rattle.stmt_parser.proofs.ActedLemmas.{acted_none}
use Rattle.stmt_parser.proofs.reader.Reader.enter.Goals as goal

pub returns : goal.returns
returns c = ap (λ fs. acted (moves c.args.focus fs (terminals_of c.args.rest.now) []) (made_of c.args.self.now.maker)) (sym c.in_ok-push.ensures.ok) ∙ acted_none c.args.focus c.push.new.self (terminals_of c.args.rest.now) (made_of c.args.self.now.maker)
