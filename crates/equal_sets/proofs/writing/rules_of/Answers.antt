use Rattle.std.proofs.Common.{◌≡◌, ◌∙◌, ◌+◌, ◌++◌, ◌∷◌, [], List, take, sym, ap, subst}
use Rattle.std.proofs.lemmas.List.{take_more}
use Rattle.op_system.specs.declared.system.OpRule.{OpRule}
use Rattle.equal_sets.specs.Written.{AreRulesOf}
use Rattle.equal_sets.proofs.SetLemmas.{true_false}
use Rattle.equal_sets.proofs.WrittenLemmas.{rule_written, rule_passed}
use Rattle.equal_sets.proofs.writing.rules_of.Goals.{then-stands+in_ok-by_sets+in_ok-push, else-stands}
use Rattle.equal_sets.proofs.writing.rules_of.Goals as goal

pub loop-rule-preserved : goal.loop-rule-preserved
loop-rule-preserved c =
    let sets = c.args.sets.now in
    let rs = c.args.rules.now in
    let n = c.loop-rule.rule-index in
    let r = c.rule-item.result in
    let made = c.loop-rule.made.items in
    let more : take (n + 1) rs ≡ take n rs ++ r ∷ [] = take_more rs n r c.loop-rule-test.true ∙ ap (λ (q : OpRule). take n rs ++ q ∷ []) (sym c.rule-item.is) in
    subst (λ (qs : List OpRule). AreRulesOf sets qs c.if-stands.made.items) (sym more) (elim c.if-stands.branch [
      | then-stands+in_ok-by_sets+in_ok-push w ↦
          subst (λ (v : _). AreRulesOf sets (take n rs ++ r ∷ []) v.items) (sym w.made-is)
          (rule_written sets (take n rs) made w.push.new.self.items r c.loop-rule.invariant (c.stands.ensures.0 w.if-stands.true)
          (w.in_ok-push.ensures.items ∙ ap (λ (q : OpRule). made ++ q ∷ []) w.in_ok-by_sets.ensures))
      | else-stands w ↦
          subst (λ (v : _). AreRulesOf sets (take n rs ++ r ∷ []) v.items) (sym w.made-is)
          (rule_passed sets (take n rs) made r c.loop-rule.invariant (λ e. true_false c.stands.result (c.stands.ensures.1 e) w.if-stands.false))
    ])
