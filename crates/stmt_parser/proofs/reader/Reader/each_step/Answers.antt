use Rattle.std.proofs.Common.{◌∷◌, ap, ◌∙◌}
use Rattle.script_grammar.specs.Terminals.{word_terminal}
use Rattle.expr_parser.specs.Heads.{terminals_of}
use Rattle.stmt_builder.specs.Views.{made_of}
use Rattle.stmt_parser.specs.Nexts.{each_next}
use Rattle.stmt_parser.specs.Outcomes.{acted}
use Rattle.stmt_parser.proofs.ActedLemmas.{acted_stuck}
use Rattle.stmt_parser.proofs.OtherLemmas.{each_none, each_nameless}
use Rattle.stmt_parser.proofs.ReadLemmas.{on_ok}
use Rattle.script_grammar.specs.declared.keyword.Keyword.TheVariants as word
use Rattle.stmt_parser.proofs.reader.Reader.each_step.Goals as goal

pub returns-in_default : goal.returns-in_default
returns-in_default c = ap (λ x. acted x (made_of c.args.self.now.maker)) (each_none c.args.self.now.frames (terminals_of c.args.rest.now) c.in_default.ensures) ∙ acted_stuck (made_of c.args.self.now.maker)

pub returns-in_default-variable_at : goal.returns-in_default-variable_at
returns-in_default-variable_at c = ap (λ ts. acted (each_next c.args.self.now.frames ts) (made_of c.args.self.now.maker)) c.in-Some.ensures ∙ ap (λ x. acted x (made_of c.args.self.now.maker)) (each_nameless c.args.self.now.frames (terminals_of c.in-Some.behind.now) c.in_default-variable_at.ensures) ∙ acted_stuck (made_of c.args.self.now.maker)

pub returns : goal.returns
returns c = on_ok _ c.variable_step.result (ap (λ ts. acted (each_next c.args.self.now.frames ts) (made_of c.args.self.now.maker)) c.in-Some.ensures ∙ ap (λ ts. acted (each_next c.args.self.now.frames (word_terminal word.As ∷ ts)) (made_of c.args.self.now.maker)) c.in-Some-variable_at.ensures) c.variable_step.ensures
