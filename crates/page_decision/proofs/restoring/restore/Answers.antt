use Rattle.std.proofs.Common.{◌∙◌, sym, ap, subst, length, get_or, slice_get}
use Rattle.std.specs.Prelude.{IsTrue}
use Rattle.std.proofs.lemmas.Option.{slice_get-get_or}
use Rattle.derivations.specs.Nodes.{parts_below}
use Rattle.derivations.specs.declared.node.Node.{Node}
use Rattle.derivations.specs.declared.node.Parts.{Parts}
use Rattle.derivations.specs.declared.node.Parts.TheVariants.{Empty}
use Rattle.page_decision.proofs.RestoreLemmas.{bytes_of_below}
use Rattle.page_decision.proofs.restoring.restore.Goals as goal

pub push-requires : goal.push-requires
push-requires c =
    let nodes = c.args.nodes.now in
    let none : Node = record { production = 0; parts = Empty; length = 0 } in
    let node = get_or nodes c.loop-node.node-index none in
    let made = c.loop-node.made.nodes.items in
    let here = ap (slice_get nodes) c.loop-node.invariant.all ∙ slice_get-get_or nodes c.loop-node.node-index none c.loop-node-test.true in
    subst (λ (parts : Parts). IsTrue (parts_below (length made) parts)) (sym c.parts_of-parts.ensures)
    (bytes_of_below (length made) (slice_get c.args.productions.now node.production) node.parts (c.requires.before (length made) node here))
