use Rattle.std.proofs.Common.{◌+◌, ◌∙◌, ap, length, get_or, slice_get}
use Rattle.std.proofs.lemmas.Option.{slice_get-get_or}
use Rattle.derivations.specs.declared.node.Node.{Node}
use Rattle.derivations.specs.declared.node.Parts.TheVariants.{Empty}
use Rattle.derivations.proofs.ForkLemmas.{longer}
use Rattle.grammar_image.proofs.FirstLemmas.{firsts_more}
use Rattle.grammar_image.specs.Firsts.{first_of_parts}
use Rattle.grammar_image.proofs.firsts.first_bytes.Goals as goal

pub loop-node-preserved : goal.loop-node-preserved
loop-node-preserved c =
    let was = c.loop-node.invariant in
    let nodes = c.args.nodes.now in
    let none : Node = record { production = 0; parts = Empty; length = 0 } in
    let node = get_or nodes c.loop-node.node-index none in
    record {
      firsts = firsts_more nodes _ _ node _ c.requires was.firsts
          (ap (slice_get nodes) was.all ∙ slice_get-get_or nodes c.loop-node.node-index none c.loop-node-test.true)
          (c.first_of_parts-first.ensures ∙ ap (λ os. first_of_parts os node.parts) c.as_slice.ensures.value)
          c.in_ok-push.ensures.items;
      all = ap (λ ps. length ps) c.in_ok-push.ensures.items ∙ longer c.loop-node.firsts.items c.first_of_parts-first.result ∙ ap (λ n. n + 1) was.all;
    }
