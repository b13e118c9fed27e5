use Rattle.std.proofs.Common.{List, subst}
use Rattle.page_lexer.specs.Numbered.{IsKnown, IsNew}
use Rattle.page_lexer.specs.declared.rows.Row.{Row}
use Rattle.page_lexer.proofs.numbered.NumberedReader.step.Goals as goal

pub returns-in-Some-clause-step : goal.returns-in-Some-clause-step
returns-in-Some-clause-step g c =
    λ s at.
    let known = subst (λ (rows : List Row). IsKnown rows c.args.state.0 c.args.byte c.in-Some.step) c.as_slice.ensures.value c.in-Some.ensures.some in
    c.args.self.now.numbered.steps c.args.state.0 c.args.byte c.in-Some.step s known at

pub ask-requires-clause-new : goal.ask-requires-clause-new
ask-requires-clause-new g c = subst (λ (rows : List Row). IsNew rows c.args.state.0 c.args.byte) c.as_slice.ensures.value c.in-None.ensures.none

pub returns-in-None-clause-asked : goal.returns-in-None-clause-asked
returns-in-None-clause-asked g c = λ step known. absurd (subst (λ (rows : List Row). IsNew rows c.args.state.0 c.args.byte) c.as_slice.ensures.value c.in-None.ensures.none step known)
