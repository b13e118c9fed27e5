use Rattle.std.proofs.Common.{◌≡◌, ◌<◌, ◌∙◌, ◌++◌, List, ℕ, sym, ap, subst}
use Rattle.std.specs.List.{All}
use Rattle.useful_nonterminals.specs.declared.rule.Rule.{Rule}
use Rattle.useful_nonterminals.specs.Follows.{IsRuleBelow}
use Rattle.useful_nonterminals.specs.Rules.{facts_of, rules_of}
use Rattle.useful_nonterminals.proofs.RuleLemmas.{facts_below, rules_below}
use Rattle.useful_nonterminals.proofs.ProductiveLemmas.{productive_follows, same_both, follows_along}
use Rattle.useful_nonterminals.proofs.producing.productive.Goals as goal

pub closure-requires-clause-facts : goal.closure-requires-clause-facts
closure-requires-clause-facts c =
    let ps = c.args.grammar.now.productions.items in
    let is : c.as_slice-2.result.now ≡ facts_of ps = c.as_slice-2.ensures.value ∙ (c.in_ok-add_productions.ensures.facts ∙ (ap (λ (xs : List ℕ). xs ++ facts_of c.as_slice.result.now) c.new-facts.ensures.items ∙ ap facts_of c.as_slice.ensures.value)) in
    subst (λ (xs : List ℕ). All (λ (n : ℕ). n < c.args.grammar.now.count) xs) (sym is) (facts_below c.args.grammar.now.count ps c.args.grammar.now.below)

pub closure-requires-clause-rules : goal.closure-requires-clause-rules
closure-requires-clause-rules c =
    let ps = c.args.grammar.now.productions.items in
    let is : c.as_slice-3.result.now ≡ rules_of ps = c.as_slice-3.ensures.value ∙ (c.in_ok-add_productions.ensures.rules ∙ (ap (λ (xs : List Rule). xs ++ rules_of c.as_slice.result.now) c.new-rules.ensures.items ∙ ap rules_of c.as_slice.ensures.value)) in
    subst (λ (xs : List Rule). All (IsRuleBelow c.args.grammar.now.count) xs) (sym is) (rules_below c.args.grammar.now.count ps c.args.grammar.now.below)

pub returns-clause-exact : goal.returns-clause-exact
returns-clause-exact c =
    let ps = c.args.grammar.now.productions.items in
    let facts : c.as_slice-2.result.now ≡ facts_of ps = c.as_slice-2.ensures.value ∙ (c.in_ok-add_productions.ensures.facts ∙ (ap (λ (xs : List ℕ). xs ++ facts_of c.as_slice.result.now) c.new-facts.ensures.items ∙ ap facts_of c.as_slice.ensures.value)) in
    let rules : c.as_slice-3.result.now ≡ rules_of ps = c.as_slice-3.ensures.value ∙ (c.in_ok-add_productions.ensures.rules ∙ (ap (λ (xs : List Rule). xs ++ rules_of c.as_slice.result.now) c.new-rules.ensures.items ∙ ap rules_of c.as_slice.ensures.value)) in
    λ a. same_both (follows_along a.0 facts rules (c.in_ok-marks.ensures.exact a.0)) (productive_follows ps a)
