use Rattle.std.proofs.Common.{◌+◌, ◌*◌, drop, sym, ◌∙◌, ap, arith}
use Rattle.xml_text.specs.Characters.{is_character}
use Rattle.page_rules.proofs.Semicolons.{one_digit, no_digit, no_character}
use Rattle.page_rules.proofs.references.is_number.Goals as goal

pub returns-then-number-gt1114111 : goal.returns-then-number-gt1114111
returns-then-number-gt1114111 c =
    let e = one_digit c.args.base c.loop-c.number c.args.digits.now c.loop-c.c-index c.c-item.result c.digit_value.result c.loop-c-test.true c.c-item.is c.digit_value.ensures.is in
    sym (ap is_character (sym c.loop-c.invariant.0 ∙ e) ∙ no_character c.args.base (c.loop-c.number * c.args.base + c.digit_value.result) (drop (c.loop-c.c-index + 1) c.args.digits.now) c.requires.some (omega arith))

pub loop-c-preserved : goal.loop-c-preserved
loop-c-preserved c =
    let e = one_digit c.args.base c.loop-c.number c.args.digits.now c.loop-c.c-index c.c-item.result c.digit_value.result c.loop-c-test.true c.c-item.is c.digit_value.ensures.is in
    (sym e ∙ c.loop-c.invariant.0, omega arith)

pub returns : goal.returns
returns c = c.is_character_code.ensures ∙ ap is_character (sym (no_digit c.args.base c.loop-c.number c.args.digits.now c.loop-c.c-index c.loop-c-test.false) ∙ c.loop-c.invariant.0)
