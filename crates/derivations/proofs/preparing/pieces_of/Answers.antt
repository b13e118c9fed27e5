use Rattle.std.proofs.Common.{◌+◌, ◌∙◌, ap, subst, length, get_or, slice_get}
use Rattle.std.proofs.lemmas.Option.{slice_get-get_or}
use Rattle.derivations.specs.declared.node.Node.{Node}
use Rattle.derivations.specs.declared.node.Parts.TheVariants.{Empty}
use Rattle.derivations.specs.Pieces.{Makes}
use Rattle.derivations.proofs.ForkLemmas.{longer}
use Rattle.derivations.proofs.PieceLemmas.{pieces_more}
use Rattle.derivations.proofs.preparing.pieces_of.Goals as goal

pub loop-node-preserved : goal.loop-node-preserved
loop-node-preserved c =
    let was = c.loop-node.invariant in
    let nodes = c.args.nodes.now in
    let none : Node = record { production = 0; parts = Empty; length = 0 } in
    let node = get_or nodes c.loop-node.node-index none in
    record {
      pieces = pieces_more nodes _ _ was.pieces _ c.in_ok-piece.piece node _ c.requires.lawful
          (ap (slice_get nodes) was.all ∙ slice_get-get_or nodes c.loop-node.node-index none c.loop-node-test.true)
          (subst (λ ps. Makes c.loop-node.forks.items c.make.new.forks.items ps node.parts c.in_ok-piece.piece) c.as_slice.ensures.value c.in_ok-piece.ensures)
          c.in_ok-push.ensures.items;
      all = ap (λ ps. length ps) c.in_ok-push.ensures.items ∙ longer c.loop-node.pieces.items c.in_ok-piece.piece ∙ ap (λ n. n + 1) was.all;
    }
