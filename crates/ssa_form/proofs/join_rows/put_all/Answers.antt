use Rattle.std.proofs.Common.{List, subst, arith}
use Rattle.std.proofs.lemmas.List.{take_all}
use Rattle.ssa_form.specs.declared.version.Version.{Version}
use Rattle.ssa_form.specs.Views.{versions_seen}
use Rattle.ssa_form.specs.JoinRows.{IsRowOf}
use Rattle.ssa_form.proofs.JoinRowLemmas.{put_none, put_more}
use Rattle.ssa_form.proofs.join_rows.put_all.Goals as goal

pub loop-version-init : goal.loop-version-init
loop-version-init c = put_none c.args.all.now.items

pub loop-version-preserved : goal.loop-version-preserved
loop-version-preserved c =
    put_more c.args.all.now.items c.loop-version.all.items c.put_one.new.all.items c.args.versions.now c.loop-version.version-index _ c.loop-version.before c.loop-version-test.true c.loop-version.invariant c.in_ok-put_one.ensures

pub returns : goal.returns
returns c =
    let so = c.loop-version.invariant in
    (so.row, so.is, subst (λ (vs : List Version). IsRowOf so.row (versions_seen vs)) (take_all c.loop-version.version-index c.args.versions.now (omega arith)) so.of)
