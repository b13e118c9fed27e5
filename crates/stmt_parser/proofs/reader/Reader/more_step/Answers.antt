use Rattle.std.proofs.Common.{ap, sym, ◌∙◌}
use Rattle.expr_parser.specs.Heads.{terminals_of}
use Rattle.stmt_builder.specs.Views.{made_of}
use Rattle.stmt_machine.specs.Machine.{more_move, listed_move}
use Rattle.stmt_parser.specs.Outcomes.{acted}
use Rattle.stmt_parser.proofs.ActedLemmas.{acted_stuck}
use Rattle.stmt_parser.proofs.OtherLemmas.{more_none}
use Rattle.stmt_parser.proofs.TestLemmas.{more_first, more_next}
use Rattle.expr_machine.specs.Reading.{expr_at}
use Rattle.stmt_parser.proofs.ReadLemmas.{on_ok}
use Rattle.stmt_parser.proofs.reader.Reader.more_step.Goals as goal

pub returns-in_default : goal.returns-in_default
returns-in_default c = ap (λ x. acted x (made_of c.args.self.now.maker)) (more_none c.args.row c.args.count c.args.self.now.frames (terminals_of c.args.rest.now) c.in_default.ensures) ∙ acted_stuck (made_of c.args.self.now.maker)

pub returns-then-is_zero : goal.returns-then-is_zero
returns-then-is_zero c = ap (λ ts. acted (more_move c.args.row c.args.count c.args.self.now.frames ts) (made_of c.args.self.now.maker)) c.in-Some.ensures ∙ ap (λ x. acted x (made_of c.args.self.now.maker)) (more_first c.args.row c.args.count c.args.self.now.frames (terminals_of c.in-Some.behind.now) (sym c.is_zero.ensures ∙ c.if-is_zero.true)) ∙ acted_stuck (made_of c.args.self.now.maker)

pub returns : goal.returns
returns c = on_ok _ c.listed_step.result (ap (λ ts. acted (more_move c.args.row c.args.count c.args.self.now.frames ts) (made_of c.args.self.now.maker)) c.in-Some.ensures ∙ ap (λ x. acted x (made_of c.args.self.now.maker)) (more_next c.args.row c.args.count c.args.self.now.frames (terminals_of c.in-Some.behind.now) (sym c.is_zero.ensures ∙ c.if-is_zero.false)) ∙ ap (λ k. acted (listed_move c.args.row k c.args.self.now.frames (expr_at (terminals_of c.in-Some.behind.now))) (made_of c.args.self.now.maker)) (sym c.in_ok-more.ensures)) c.listed_step.ensures
