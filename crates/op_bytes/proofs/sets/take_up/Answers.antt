use Rattle.std.proofs.Common.{◌<◌, ◌∙◌, ℕ, List, length, refl, sym, subst, arith}
use Rattle.std.specs.List.{All}
use Rattle.std.proofs.lemmas.Option.{slice_get_read}
use Rattle.std.proofs.lemmas.Result.{on_ok_weaker}
use Rattle.op_system.specs.Rules.{RulesAreBelow}
use Rattle.op_system.specs.declared.system.OpRule.{OpRule}
use Rattle.op_bytes.specs.declared.uses.Use.{Use}
use Rattle.op_bytes.specs.Work.{Grows, GivesRule}
use Rattle.op_bytes.proofs.UseLemmas.{uses_to_below}
use Rattle.op_bytes.proofs.WorkLemmas.{passed}
use Rattle.op_bytes.proofs.sets.take_up.Goals as goal

pub pass_uses-requires : goal.pass_uses-requires
pass_uses-requires c =
    subst (λ (n : ℕ). All (λ (u : Use). u.to < n) c.args.uses.now) (sym c.requires.size)
    (uses_to_below c.args.s.now.grammar.count c.args.s.now.grammar.productions.items c.args.uses.now c.args.s.now.grammar.below c.requires.uses)

pub pass_rules-requires : goal.pass_rules-requires
pass_rules-requires c =
    subst (λ (n : ℕ). RulesAreBelow n c.as_slice.result.now) (sym (c.in_ok-pass_uses.ensures.gains.long ∙ c.requires.size))
    (subst (RulesAreBelow c.args.s.now.grammar.count) (sym c.as_slice.ensures.value) c.args.s.now.rules_below)

pub returns : goal.returns
returns c =
    let at = slice_get_read c.args.sets.now.items (length c.args.sets.now.items) c.args.x c.index.result.now refl (let e = c.requires.size in let l = c.requires.below in omega arith) c.index.ensures in
    on_ok_weaker c.pass_rules.result
    (λ h. passed c.args.s.now c.args.sets.now.items c.pass_uses.new.sets.items c.pass_rules.new.sets.items c.args.order.now.items c.pass_uses.new.order.items c.pass_rules.new.order.items c.args.x c.copy_of-own.result c.index.result.now
    c.args.uses.now c.args.at_uses.now c.args.at_rules.now c.requires.uses c.requires.at_uses c.requires.at_rules at c.copy_of-own.ensures c.in_ok-pass_uses.ensures
    (subst (λ (rs : List OpRule). Grows c.pass_uses.new.sets.items c.pass_uses.new.order.items (GivesRule rs c.args.at_rules.now (length c.args.at_rules.now) c.copy_of-own.result) c.pass_rules.new.sets.items c.pass_rules.new.order.items) c.as_slice.ensures.value h))
    c.pass_rules.ensures
