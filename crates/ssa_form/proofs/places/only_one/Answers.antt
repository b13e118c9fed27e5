use Rattle.std.proofs.Common.{List, sym, subst, take, arith}
use Rattle.std.proofs.lemmas.List.{take_all}
use Rattle.loose_sets.specs.Versions.{PlainVersion}
use Rattle.ssa_form.specs.declared.version.Version.{Version}
use Rattle.ssa_form.specs.declared.places.Seen.{Seen}
use Rattle.ssa_form.specs.Views.{version_seen, versions_seen}
use Rattle.ssa_form.specs.Replacing.{IsAll, IsSeen}
use Rattle.ssa_form.proofs.RowLemmas.{seen_longer}
use Rattle.ssa_form.proofs.places.only_one.Goals as goal

pub loop-link-preserved : goal.loop-link-preserved
loop-link-preserved c flow are =
    let asks = c.args.asks.now.keys in
    let row = c.args.row.now in
    let i = c.loop-link.link-index in
    subst (λ (us : List PlainVersion). IsSeen flow asks us (version_seen c.args.own) c.seen_with-seen.result) (sym (seen_longer row i _ c.loop-link-test.true))
    (c.seen_with-seen.ensures flow asks (versions_seen (take i row)) _ (c.loop-link.invariant flow are) (c.settled-version.ensures flow are))

pub returns-in-One : goal.returns-in-One
returns-in-One c flow are =
    let asks = c.args.asks.now.keys in
    let i = c.loop-link.link-index in
    subst (λ (us : List Version). IsAll flow asks (versions_seen us) (version_seen c.args.own) (version_seen c.in-One.version)) (take_all i c.args.row.now (omega arith))
    (subst (λ (s : Seen). IsSeen flow asks (versions_seen (take i c.args.row.now)) (version_seen c.args.own) s) c.in-One.is (c.loop-link.invariant flow are))
