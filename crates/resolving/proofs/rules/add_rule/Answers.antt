use Rattle.std.proofs.Common.{length, refl, true≢false, sym, ◌∙◌, arith}
use Rattle.std.proofs.lemmas.Option.{slice_get_read}
use Rattle.op_bytes.proofs.EdgeLemmas.{rule_left_below}
use Rattle.op_bytes.proofs.CycleLemmas.{any_in_cycle}
use Rattle.resolving.proofs.RuleLemmas.{any_rule, image_rule, cause_of}
use Rattle.resolving.proofs.rules.add_rule.Goals as goal

pub returns-then-is_circular-clause-adds : goal.returns-then-is_circular-clause-adds
returns-then-is_circular-clause-adds c =
    let s = c.args.s.now in
    let rule = c.args.rule.now in
    let circles = c.is_circular.ensures.0 c.if-is_circular.true in
    let sets = c.requires.sets rule c.requires.rule circles in
    let left = rule_left_below s.grammar.count s.ops.items rule s.rules_below c.requires.rule in
    let at = slice_get_read c.args.sets.now (length c.args.sets.now) rule.left.0 c.index-sets-rule.result refl (omega (arith, left, sets.size)) c.index-sets-rule.is in
    any_rule s rule c.index-sets-rule.result c.args.draft.now c.add_cycle.new.draft c.requires.bytes c.requires.draft c.requires.rule circles (sets.exact rule.left c.index-sets-rule.result at) c.in_ok-add_cycle.ensures

pub image_of-requires-clause-op : goal.image_of-requires-clause-op
image_of-requires-clause-op c e = true≢false (sym (c.is_circular.ensures.1 (any_in_cycle c.args.s.now c.args.rule.now e)) ∙ c.if-is_circular.false)

pub returns-in-Err-clause-cause : goal.returns-in-Err-clause-cause
returns-in-Err-clause-cause c =
    cause_of c.args.s.now c.args.rule.now c.args.numbers.now c.args.limit c.args.draft.now c.requires.numbers c.requires.draft c.requires.rule (λ h. true≢false (sym (c.is_circular.ensures.1 h) ∙ c.if-is_circular.false)) c.requires.ready c.requires.next c.in-Err.refusal c.in-Err.ensures.cause

pub returns-clause-adds : goal.returns-clause-adds
returns-clause-adds c =
    image_rule c.args.s.now c.args.rule.now c.args.numbers.now c.in-Ok.image c.args.draft.now c.add_grammar.new.draft c.requires.bytes c.requires.numbers c.requires.draft c.requires.rule (λ h. true≢false (sym (c.is_circular.ensures.1 h) ∙ c.if-is_circular.false))
    c.requires.ready c.in-Ok.ensures.image c.in_ok-add_grammar.ensures
