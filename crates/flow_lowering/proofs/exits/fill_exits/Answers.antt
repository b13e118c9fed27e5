use Rattle.std.proofs.Common.{◌∙◌, List, sym, ap}
use Rattle.flow_code.specs.Code.{Targets}
use Rattle.flow_lowering.specs.View.{progress}
use Rattle.flow_lowering.specs.Emits.{Progress}
use Rattle.flow_lowering.specs.declared.exits.Exit.{Exit}
use Rattle.flow_lowering.specs.Drafts.{filled}
use Rattle.flow_lowering.proofs.FillLemmas.{filled_split}
use Rattle.flow_lowering.proofs.exits.fill_exits.Goals as goal

pub loop-exit-preserved : goal.loop-exit-preserved
loop-exit-preserved c =
    let to : Targets = record { stop = c.args.stop.0; again = c.args.again.0 } in
    let here = progress c.loop-exit.points in
    ap (λ (s : Progress). filled to c.pop.new.self.items s) c.fill_exit.ensures
    ∙ sym (filled_split to c.pop.new.self.items c.in-Some.exit here)
    ∙ sym (ap (λ (l : List Exit). filled to l here) c.in-Some.ensures.items)
    ∙ c.loop-exit.invariant
