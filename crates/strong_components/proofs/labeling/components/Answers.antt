use Rattle.std.proofs.Common.{◌≡◌, ◌∙◌, ℕ, List, length, map, refl, sym, ap, subst, arith}
use Rattle.std.proofs.lemmas.Result.{IfOk-weaker}
use Rattle.strong_components.specs.Components.{AreComponents}
use Rattle.strong_components.specs.Search.{number_in}
use Rattle.strong_components.proofs.LabelLemmas.{first_search, found_components}
use Rattle.strong_components.proofs.labeling.components.Goals as goal

pub loop-node-init : goal.loop-node-init
loop-node-init c =
    let e = c.in_ok-search.ensures in
    record { keeps = first_search c.args.edges.now c.in_ok-search.search e.0 e.1 e.2 e.3 e.4; none = e.2; met = λ u l degree at. absurd (omega (arith, l)) }

pub returns : goal.returns
returns c =
    IfOk-weaker c.numbers_of.result _ _
    (λ numbers e. subst (λ (ns : List ℕ). AreComponents c.args.edges.now ns) (sym (e ∙ ap (map number_in) c.as_slice.ensures.value))
    (found_components c.args.edges.now c.loop-node.search c.loop-node.invariant.keeps c.loop-node.invariant.none (λ u lt. c.loop-node.invariant.met u (omega (arith, c.loop-node-test.false)))))
    c.numbers_of.ensures
