use Rattle.std.proofs.Common.{◌<◌, Option, subst, arith}
use Rattle.fst_core.specs.Choices.{AddsChoice, FitsChoice}
use Rattle.fst_core.specs.declared.moves.Action.{Action}
use Rattle.fst_core.proofs.ChoiceLemmas.{building_more, building_cut, fits_row_more}
use Rattle.fst_core.proofs.rows.row_moves.Goals as goal
use Rattle.fst_core.proofs.rows.row_moves.Goals.{then-hi-eq255+in_ok-push_choice, else-hi-eq255+else-named-hi}

pub loop-hi-preserved : goal.loop-hi-preserved
loop-hi-preserved c =
    let i = c.loop-hi.invariant in
    elim c.if-hi-eq255.branch [
      | then-hi-eq255+in_ok-push_choice w ↦
          let e = w.in_ok-push_choice.ensures in
          let adds = subst (λ (o : Option Action). AddsChoice c.loop-hi.moves.items w.push_choice.new.moves.items c.args.from c.loop-hi.lo c.loop-hi.hi o) w.action_at-action.ensures e.choice in
          let cut = building_cut _ _ _ _ _ _ _ _ i.building adds in
          let fits = subst (λ (o : Option Action). FitsChoice c.loop-hi.moves.items w.push_choice.new.moves.items c.args.from o) w.action_at-action.ensures e.fits in
          record {
            building = rw (w.lo-is, w.moves-is) cut;
            fits = rw w.moves-is (fits_row_more _ _ _ _ _ i.fits fits);
          }
      | else-hi-eq255+else-named-hi w ↦
          let below : c.loop-hi.hi < 255 = omega (arith, w.if-hi-eq255.false) in
          let more = building_more _ _ _ _ _ _ _ i.building below w.if-named-hi.false in
          record { building = rw (w.lo-is, w.moves-is) more; fits = rw w.moves-is i.fits }
    ]
