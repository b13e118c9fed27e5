use Rattle.std.proofs.Common.{refl, arith, eq-eqb}
use Rattle.std.proofs.lemmas.Option.{slice_get-get_or}
use Rattle.op_bytes.proofs.EdgeLemmas.{rule_left_below, operand_below}
use Rattle.op_bytes.proofs.CycleLemmas.{is_in_cycle, any_in_cycle, in_cycle_is, same_number}
use Rattle.op_bytes.proofs.cycles.is_circular.Goals as goal

pub returns-in-Any : goal.returns-in-Any
returns-in-Any c = (λ h. any_in_cycle c.args.s.now c.args.rule.now c.in-Any.is, λ h. refl)

pub returns-in_default : goal.returns-in_default
returns-in_default c =
    let s = c.args.s.now in
    let ns = c.args.numbers.now in
    let left = rule_left_below s.grammar.count s.ops.items c.args.rule.now s.rules_below c.requires.rule in
    let right = operand_below s.grammar.count s.ops.items c.args.rule.now s.rules_below c.requires.rule in
    let x = slice_get-get_or ns c.args.rule.now.left.0 0 (omega (arith, left, c.requires.numbers.size)) in
    let y = slice_get-get_or ns c.args.rule.now.operand.0 0 (omega (arith, right, c.requires.numbers.size)) in (
      λ h. is_in_cycle s ns c.args.rule.now _ _ c.requires.numbers x y (same_number _ _ h),
      λ h. eq-eqb _ _ (in_cycle_is s ns c.args.rule.now _ _ c.requires.numbers c.requires.rule c.in_default.not-Any x y h),
    )
