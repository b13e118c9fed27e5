use Rattle.std.proofs.Common.{sym, ◌∙◌}
use Rattle.echoing_machine.proofs.Adding.{exact_outs}
use Rattle.echoing_machine.proofs.groups.same_outs.Goals as goal

pub returns : goal.returns
returns c h = exact_outs c.args.a.now c.args.b.now (sym c.eq.ensures ∙ h)
