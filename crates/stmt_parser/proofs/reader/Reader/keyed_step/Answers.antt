use Rattle.std.proofs.Common.{◌∷◌, ap, sym, ◌∙◌}
use Rattle.script_grammar.specs.Terminals.{sign_terminal, variable_terminal}
use Rattle.expr_parser.specs.Heads.{terminals_of}
use Rattle.stmt_builder.specs.Views.{made_of}
use Rattle.stmt_parser.specs.Nexts.{body_next, keyed_next}
use Rattle.stmt_parser.specs.Outcomes.{acted}
use Rattle.stmt_parser.proofs.ActedLemmas.{acted_stuck}
use Rattle.stmt_parser.proofs.OtherLemmas.{keyed_none, keyed_nameless, keyed_open}
use Rattle.stmt_parser.proofs.ReadLemmas.{on_ok}
use Rattle.php_syntax.specs.declared.token.Sign.TheVariants as sign
use Rattle.stmt_parser.proofs.reader.Reader.keyed_step.Goals as goal

pub returns-in_default : goal.returns-in_default
returns-in_default c = ap (λ x. acted x (made_of c.args.self.now.maker)) (keyed_none c.args.key.now c.args.self.now.frames (terminals_of c.args.rest.now) c.in_default.ensures) ∙ acted_stuck (made_of c.args.self.now.maker)

pub returns-in_default-variable_at : goal.returns-in_default-variable_at
returns-in_default-variable_at c = ap (λ ts. acted (keyed_next c.args.key.now c.args.self.now.frames ts) (made_of c.args.self.now.maker)) c.in-Some.ensures ∙ ap (λ x. acted x (made_of c.args.self.now.maker)) (keyed_nameless c.args.key.now c.args.self.now.frames (terminals_of c.in-Some.behind.now) c.in_default-variable_at.ensures) ∙ acted_stuck (made_of c.args.self.now.maker)

pub returns-in_default-behind_sign : goal.returns-in_default-behind_sign
returns-in_default-behind_sign c = ap (λ ts. acted (keyed_next c.args.key.now c.args.self.now.frames ts) (made_of c.args.self.now.maker)) c.in-Some.ensures ∙ ap (λ ts. acted (keyed_next c.args.key.now c.args.self.now.frames (sign_terminal sign.DoubleArrow ∷ ts)) (made_of c.args.self.now.maker)) c.in-Some-variable_at.ensures ∙ ap (λ x. acted x (made_of c.args.self.now.maker)) (keyed_open c.args.key.now c.in-Some-variable_at.value.now c.args.self.now.frames (terminals_of c.in-Some-variable_at.closing.now) c.in_default-behind_sign.ensures) ∙ acted_stuck (made_of c.args.self.now.maker)

pub returns : goal.returns
returns c = on_ok _ c.body_step.result (ap (λ ts. acted (keyed_next c.args.key.now c.args.self.now.frames ts) (made_of c.args.self.now.maker)) c.in-Some.ensures ∙ ap (λ ts. acted (keyed_next c.args.key.now c.args.self.now.frames (sign_terminal sign.DoubleArrow ∷ ts)) (made_of c.args.self.now.maker)) c.in-Some-variable_at.ensures ∙ ap (λ ts. acted (keyed_next c.args.key.now c.args.self.now.frames (sign_terminal sign.DoubleArrow ∷ variable_terminal c.in-Some-variable_at.value.now ∷ ts)) (made_of c.args.self.now.maker)) c.in-Some-behind_sign.ensures ∙ ap (λ l. acted (body_next l c.args.self.now.frames (terminals_of c.in-Some-behind_sign.last.now)) (made_of c.args.self.now.maker)) (sym c.in_ok-of.ensures)) c.body_step.ensures
