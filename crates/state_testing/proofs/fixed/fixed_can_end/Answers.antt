use Rattle.std.proofs.Common.{◌≡◌, ◌∙◌, sym, ap, subst}
use Rattle.std.specs.Str.{IsUtf8}
use Rattle.dtd_model.specs.Table.{declared_of, presence_of, fixed}
use Rattle.page_endings.specs.Ending.{bytes_behind, fixed_can_end}
use Rattle.state_testing.proofs.Rests.{no_text}
use Rattle.state_testing.proofs.fixed.fixed_can_end.Goals as goal

pub returns-in-Err : goal.returns-in-Err
returns-in-Err c =
    let entities = c.args.indexed.now.dtd.now.entities.items in
    let d = declared_of c.args.rule.now in
    let presence : presence_of c.args.rule.now.need ≡ fixed c.in-Fixed.wanted = ap presence_of c.in-Fixed.is in
    let behind : c.bytes_behind.result.now ≡ bytes_behind c.in-Fixed.wanted c.args.value.now = cc in
    no_text entities d c.args.quote c.in-Fixed.wanted c.args.value.now presence (λ text. c.in-Err.ensures.cases.0 (subst IsUtf8 (sym behind) text))
    ∙ sym (ap (fixed_can_end entities d c.args.quote c.args.value.now) presence)
