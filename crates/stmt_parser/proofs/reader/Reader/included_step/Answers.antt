use Rattle.std.proofs.Common.{◌∷◌, ap, ◌∙◌}
use Rattle.script_grammar.specs.Terminals.{text_terminal}
use Rattle.expr_parser.specs.Heads.{terminals_of}
use Rattle.stmt_builder.specs.Views.{made_of}
use Rattle.stmt_machine.specs.Actions.{include_action}
use Rattle.stmt_parser.specs.Nexts.{included_next}
use Rattle.stmt_parser.specs.Outcomes.{acted}
use Rattle.stmt_parser.proofs.ActedLemmas.{acted_stuck, acted_jump}
use Rattle.stmt_parser.proofs.OtherLemmas.{included_none, included_open}
use Rattle.stmt_parser.proofs.reader.Reader.included_step.Goals as goal

pub returns-in_default : goal.returns-in_default
returns-in_default c = ap (λ x. acted x (made_of c.args.self.now.maker)) (included_none c.args.self.now.frames (terminals_of c.args.rest.now) c.in_default.ensures) ∙ acted_stuck (made_of c.args.self.now.maker)

pub returns-in_default-behind_sign : goal.returns-in_default-behind_sign
returns-in_default-behind_sign c = ap (λ ts. acted (included_next c.args.self.now.frames ts) (made_of c.args.self.now.maker)) c.in-Some.ensures ∙ ap (λ x. acted x (made_of c.args.self.now.maker)) (included_open c.in-Some.path.now c.args.self.now.frames (terminals_of c.in-Some.behind.now) c.in_default-behind_sign.ensures) ∙ acted_stuck (made_of c.args.self.now.maker)

pub returns : goal.returns
returns c = ap (λ ts. acted (included_next c.args.self.now.frames ts) (made_of c.args.self.now.maker)) c.in-Some.ensures ∙ ap (λ ts. acted (included_next c.args.self.now.frames (text_terminal c.in-Some.path.now ∷ ts)) (made_of c.args.self.now.maker)) c.in-Some-behind_sign.ensures ∙ acted_jump c.in_ok-done.done (include_action c.in-Some.path.now) c.args.self.now.frames (terminals_of c.in-Some-behind_sign.last.now) (made_of c.args.self.now.maker) (made_of c.include.new.self) c.in_ok-done.ensures ∙ c.jump.ensures c.args.self.now.frames (made_of c.include.new.self)
