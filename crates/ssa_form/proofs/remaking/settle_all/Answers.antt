use Rattle.std.proofs.Common.{List, ◌+◌, take, sym, subst, arith}
use Rattle.std.proofs.lemmas.List.{take_all}
use Rattle.ssa_form.specs.declared.version.Version.{Version}
use Rattle.ssa_form.specs.Views.{versions_seen}
use Rattle.ssa_form.specs.Replacing.{ReplacesAll}
use Rattle.ssa_form.proofs.RemakingLemmas.{replaces_more}
use Rattle.ssa_form.proofs.remaking.settle_all.Goals as goal

pub loop-link-preserved : goal.loop-link-preserved
loop-link-preserved c flow are =
    let asks = c.args.placed.asks.now.keys in
    let links = c.args.links.now in
    let i = c.loop-link.link-index in
    subst (λ (vs : List Version). ReplacesAll flow asks (versions_seen (take (i + 1) links)) (versions_seen vs)) (sym c.in_ok-push.ensures.items)
    (replaces_more flow asks links c.loop-link.row.items i _ c.settled.result c.loop-link-test.true (c.loop-link.invariant flow are) (c.settled.ensures flow are))

pub returns : goal.returns
returns c flow are =
    subst (λ (us : List Version). ReplacesAll flow c.args.placed.asks.now.keys (versions_seen us) (versions_seen c.loop-link.row.items)) (take_all c.loop-link.link-index c.args.links.now (omega arith))
    (c.loop-link.invariant flow are)
