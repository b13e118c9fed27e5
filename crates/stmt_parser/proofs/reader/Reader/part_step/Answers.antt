use Rattle.std.proofs.Common.{ap, ◌∙◌, sym}
use Rattle.expr_parser.specs.Heads.{terminals_of}
use Rattle.stmt_builder.specs.Views.{made_of}
use Rattle.stmt_machine.specs.Machine.{part_move}
use Rattle.stmt_parser.specs.Outcomes.{acted, gone}
use Rattle.stmt_parser.proofs.ActedLemmas.{acted_finished}
use Rattle.stmt_parser.proofs.ReadLemmas.{on_ok}
use Rattle.stmt_parser.proofs.PartLemmas.{part_other}
use Rattle.stmt_machine.specs.declared.frame.Focus.TheVariants as focus
use Rattle.stmt_parser.proofs.reader.Reader.part_step.Goals as goal

pub returns-in-None : goal.returns-in-None
returns-in-None c = ap (λ ts. acted (part_move ts) (made_of c.args.self.now.maker)) c.in-None.ensures ∙ acted_finished (made_of c.args.self.now.maker)

pub returns-in-Some-behind_word : goal.returns-in-Some-behind_word
returns-in-Some-behind_word c = on_ok _ c.function_step.result (ap (λ ts. acted (part_move ts) (made_of c.args.self.now.maker)) c.in-Some-behind_word.ensures) c.function_step.ensures

pub returns-in-None-behind_word : goal.returns-in-None-behind_word
returns-in-None-behind_word c = part_other (terminals_of c.args.rest.now) _ _ c.in-Some.ensures c.in-None-behind_word.ensures (made_of c.args.self.now.maker) ∙ ap (λ fs. gone focus.Begin fs (terminals_of c.args.rest.now) (made_of c.args.self.now.maker)) (sym c.requires)
