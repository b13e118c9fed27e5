use Rattle.std.proofs.Common.{◌≡◌, ◌∙◌, List, Bool, sym, ap, subst}
use Rattle.std.specs.List.{All}
use Rattle.useful_nonterminals.specs.declared.rule.Rule.{Rule}
use Rattle.useful_nonterminals.specs.Follows.{IsRuleBelow}
use Rattle.useful_nonterminals.specs.Rules.{steps_of, start_of}
use Rattle.useful_nonterminals.proofs.RuleLemmas.{steps_below}
use Rattle.useful_nonterminals.proofs.ProductiveLemmas.{useful_follows, same_both, follows_along}
use Rattle.useful_nonterminals.proofs.useful.useful_nonterminals.Goals as goal

pub closure-requires-clause-rules : goal.closure-requires-clause-rules
closure-requires-clause-rules c =
    let ps = c.args.grammar.now.productions.items in
    let marks = c.as_slice-2.result.now in
    let is : c.as_slice-5.result.now ≡ steps_of marks ps = c.as_slice-5.ensures.value ∙ (c.in_ok-steps.ensures ∙ ap (steps_of marks) c.as_slice-3.ensures.value) in
    subst (λ (xs : List Rule). All (IsRuleBelow c.args.grammar.now.count) xs) (sym is) (steps_below c.args.grammar.now.count marks ps c.args.grammar.now.below)

pub returns-clause-exact : goal.returns-clause-exact
returns-clause-exact c =
    let ps = c.args.grammar.now.productions.items in
    let start = c.args.grammar.now.start in
    let marks = c.in_ok-marks.marks.items in
    let facts : c.as_slice-4.result.now ≡ start_of marks start.0 = c.as_slice-4.ensures.value ∙ (c.in_ok-facts.ensures ∙ ap (λ (xs : List Bool). start_of xs start.0) c.as_slice.ensures.value) in
    let steps : c.as_slice-5.result.now ≡ steps_of marks ps = c.as_slice-5.ensures.value ∙ (c.in_ok-steps.ensures ∙ (ap (steps_of c.as_slice-2.result.now) c.as_slice-3.ensures.value ∙ ap (λ (xs : List Bool). steps_of xs ps) c.as_slice-2.ensures.value)) in
    λ a. same_both (follows_along a.0 facts steps (c.in_ok-marks-2.ensures.exact a.0)) (useful_follows ps start marks c.in_ok-marks.ensures.exact a)
