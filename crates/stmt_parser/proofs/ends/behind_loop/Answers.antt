use Rattle.std.proofs.Common.{[], ◌∷◌, ap, sym, ◌∙◌}
use Rattle.expr_parser.specs.Heads.{terminals_of}
use Rattle.stmt_machine.specs.Machine.{moves, colon_body_move}
use Rattle.stmt_parser.proofs.OtherLemmas.{colon_body_none}
use Rattle.stmt_parser.proofs.TestLemmas.{colon_body_ends, colon_body_on}
use Rattle.stmt_machine.specs.declared.frame.Focus.TheVariants as focus
use Rattle.stmt_machine.specs.declared.frame.Frame.TheVariants as frame
use Rattle.stmt_parser.proofs.ends.behind_loop.Goals as goal

pub returns-in_default : goal.returns-in_default
returns-in_default c = λ fs. colon_body_none c.args.of.now fs (terminals_of c.args.rest.now) c.in_default.ensures

pub returns-then-ends_loop : goal.returns-then-ends_loop
returns-then-ends_loop c = λ fs. ap (λ ts. colon_body_move c.args.of.now fs ts) c.in-Some.ensures ∙ colon_body_ends c.args.of.now c.in-Some.word fs (terminals_of c.in-Some.behind.now) (sym c.ends_loop.ensures ∙ c.if-ends_loop.true)

pub returns : goal.returns
returns c = λ fs. ap (λ ts. colon_body_move c.args.of.now fs ts) c.in-Some.ensures ∙ colon_body_on c.args.of.now c.in-Some.word fs (terminals_of c.in-Some.behind.now) (sym c.ends_loop.ensures ∙ c.if-ends_loop.false) ∙ ap (λ ts. moves focus.Begin (frame.ColonBody c.args.of.now ∷ fs) ts []) (sym c.in-Some.ensures)
