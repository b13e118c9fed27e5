use Rattle.std.proofs.Common.{◌-◌, ◌<◌, ◌≤◌, ◌∙◌, suc, length, get_or, arith}
use Rattle.std.proofs.lemmas.Option.{slice_get-get_or}
use Rattle.derivations.specs.declared.node.Node.{Node}
use Rattle.derivations.specs.declared.node.Parts.TheVariants.{Empty}
use Rattle.grammar_image.proofs.MarkLemmas.{parts_lower, closed_more}
use Rattle.grammar_image.proofs.marking.under_root.Goals as goal

pub mark_parts-requires : goal.mark_parts-requires
mark_parts-requires c =
    let was = c.loop-place.invariant in
    let nodes = c.args.nodes.now in
    let none : Node = record { production = 0; parts = Empty; length = 0 } in
    let place = c.loop-place.place - 1 in
    let inside : place < length nodes = omega (arith, was.within, c.loop-place-test.true) in
    parts_lower place (length c.loop-place.marks.items) (get_or nodes place none).parts (omega (arith, was.long, inside)) (c.requires.lawful.before place (get_or nodes place none) (slice_get-get_or nodes place none inside))

pub loop-place-preserved-then-index : goal.loop-place-preserved-then-index
loop-place-preserved-then-index c =
    let was = c.loop-place.invariant in
    let nodes = c.args.nodes.now in
    let none : Node = record { production = 0; parts = Empty; length = 0 } in
    let place = c.loop-place.place - 1 in
    let inside : place < length nodes = omega (arith, was.within, c.loop-place-test.true) in
    let node = get_or nodes place none in
    let next : c.loop-place.place ≤ suc place = omega (arith, c.loop-place-test.true) in
    let done = closed_more nodes c.loop-place.marks.items c.mark_parts.new.marks.items c.loop-place.place place node c.requires.lawful was.long (slice_get-get_or nodes place none inside) next c.mark_parts.ensures was.closed in
    record {
      long = done.0.long ∙ was.long;
      within = omega (arith, inside);
      root = done.0.keeps (length nodes - 1) was.root;
      closed = done.1;
    }
