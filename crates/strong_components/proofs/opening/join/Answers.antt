use Rattle.std.proofs.Common.{◌∙◌, sym}
use Rattle.strong_components.proofs.ListLemmas.{kept_all, kept_none}
use Rattle.strong_components.proofs.opening.join.Goals as goal

pub returns-then-start-place : goal.returns-then-start-place
returns-then-start-place c = sym (kept_all c.args.place c.in-Some.start c.loop-start.starts (sym c.in-Some.ensures) c.if-start-place.true) ∙ c.loop-start.invariant

pub returns : goal.returns
returns c = sym (kept_none c.args.place c.loop-start.starts (sym c.in_default.ensures)) ∙ c.loop-start.invariant
