use Rattle.std.proofs.Common.{◌≡◌, ◌<◌, ◌∙◌, ℕ, List, map, subst, sym, ap}
use Rattle.std.specs.List.{All}
use Rattle.numbered_sets.specs.Chains.{AreChains}
use Rattle.cfg_grammar.specs.declared.production.Production.{Production}
use Rattle.grammar_image.proofs.BeginLemmas.{lefts_below}
use Rattle.grammar_image.proofs.imaging.places_by_left.Goals as goal

pub chains_of-requires : goal.chains_of-requires
chains_of-requires c =
    let is : c.as_slice-2.result.now ≡ map (λ (p : Production). p.left.0) c.args.g.now.productions.items = c.as_slice-2.ensures.value ∙ (c.in_ok-lefts.ensures ∙ ap (map (λ (p : Production). p.left.0)) c.as_slice.ensures.value) in
    subst (λ (keys : List ℕ). All (λ (k : ℕ). k < c.args.g.now.count) keys) (sym is) (lefts_below c.args.g.now.count c.args.g.now.productions.items c.args.g.now.below)

pub returns-clause-places : goal.returns-clause-places
returns-clause-places c =
    let is : c.as_slice-2.result.now ≡ map (λ (p : Production). p.left.0) c.args.g.now.productions.items = c.as_slice-2.ensures.value ∙ (c.in_ok-lefts.ensures ∙ ap (map (λ (p : Production). p.left.0)) c.as_slice.ensures.value) in
    subst (λ (keys : List ℕ). AreChains keys c.in_ok-places.places.last.items c.in_ok-places.places.before.items) is c.in_ok-places.ensures.chains
