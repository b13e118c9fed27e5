use Rattle.std.proofs.Common.{Vec, Global, sym, ◌∙◌, ap, refl}
use Rattle.std.specs.Prelude.{option_map}
use Rattle.std.specs.List.{list_all}
use Rattle.fst_core.specs.declared.out.Out.{Out}
use Rattle.fst_core.specs.Fits.{is_fixed}
use Rattle.string_ops.proofs.PlanStates.{adds_last, adds_no_last, last_fixed, on_ok}
use Rattle.string_ops.proofs.plan.add_last.Goals as goal

pub add_end-requires-clause-fixed : goal.add_end-requires-clause-fixed
add_end-requires-clause-fixed g c =
    let is = ap (option_map (λ (v : Vec Out Global). v.items)) (sym c.in-Some.is) ∙ c.in_ok-out.ensures in
    last_fixed (λ out. list_all is_fixed out) (g.P.Plan.lasts c.args.plan.now c.args.state) c.in-Some.out.items (g.P.Plan.fixed c.args.plan.now c.args.state) is

pub returns-in-Some-clause-ends : goal.returns-in-Some-clause-ends
returns-in-Some-clause-ends g c =
    let is = ap (option_map (λ (v : Vec Out Global). v.items)) (sym c.in-Some.is) ∙ c.in_ok-out.ensures in
    on_ok c.add_end.result _ _ (λ grows. adds_last c.args.table.now.ends.items c.add_end.new.self.ends.items _ c.args.state (g.P.Plan.lasts c.args.plan.now c.args.state) grows refl (g.P.Plan.one c.args.plan.now c.args.state) is) c.add_end.ensures.ends

pub returns-in-None-clause-ends : goal.returns-in-None-clause-ends
returns-in-None-clause-ends g c =
    let is = ap (option_map (λ (v : Vec Out Global). v.items)) (sym c.in-None.is) ∙ c.in_ok-out.ensures in
    adds_no_last c.args.table.now.ends.items c.args.table.now.ends.items c.args.state (g.P.Plan.lasts c.args.plan.now c.args.state) refl is
