use Rattle.std.proofs.Common.{◌≡◌, ◌+◌, ◌<◌, ◌∙◌, ℕ, false, List, get_or, length, map, sym, ap, subst}
use Rattle.std.specs.List.{All}
use Rattle.cfg_grammar.specs.declared.production.Production.{Production}
use Rattle.numbered_sets.specs.Chains.{AreChains}
use Rattle.summary_decision.specs.Joints.{number_by}
use Rattle.summary_decision.specs.Using.{key_of}
use Rattle.summary_decision.proofs.UsingLemmas.{keys_below, uses_exact}
use Rattle.summary_decision.proofs.using.uses_on.Goals as goal

pub chains_of-requires : goal.chains_of-requires
chains_of-requires c =
    let g = c.args.grammar.now in
    let f : Production → ℕ = λ (p : Production). key_of g.count (get_or c.args.useful.now p.left.0 false) (number_by c.args.side p.right) in
    let is : c.as_slice-2.result.now ≡ map f g.productions.items = c.as_slice-2.ensures.value ∙ (c.in_ok-keys.ensures ∙ ap (map f) c.as_slice.ensures.value) in
    let more : c.in-Some.numbers ≡ g.count + 1 = c.in-Some.ensures.1 in
    subst (λ (n : ℕ). All (λ (k : ℕ). k < n) c.as_slice-2.result.now) (sym more) (subst (λ (keys : List ℕ). All (λ (k : ℕ). k < g.count + 1) keys) (sym is) (keys_below c.args.side g.count c.args.useful.now g.productions.items g.below))

pub returns-clause-exact : goal.returns-clause-exact
returns-clause-exact c =
    let g = c.args.grammar.now in
    let f : Production → ℕ = λ (p : Production). key_of g.count (get_or c.args.useful.now p.left.0 false) (number_by c.args.side p.right) in
    let is : c.as_slice-2.result.now ≡ map f g.productions.items = c.as_slice-2.ensures.value ∙ (c.in_ok-keys.ensures ∙ ap (map f) c.as_slice.ensures.value) in
    let uses = c.in_ok-uses.uses in
    let long : length uses.last.items ≡ g.count + 1 = c.in_ok-uses.ensures.len ∙ c.in-Some.ensures.1 in
    uses_exact c.args.side g.count c.args.useful.now g.productions.items g.start uses c.requires long (subst (λ (keys : List ℕ). AreChains keys uses.last.items uses.before.items) is c.in_ok-uses.ensures.chains)
