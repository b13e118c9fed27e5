use Rattle.std.proofs.Common.{sym, subst, ap, ◌∙◌}
use Rattle.dtd_model.specs.Table.{kind_of, presence_of, fixed}
use Rattle.dtd_model.specs.TableOf.{table_of}
use Rattle.dtd_model.specs.declared.dtd.Need.{Need}
use Rattle.form_maker.specs.Making.{making_of}
use Rattle.form_maker.proofs.BehindNames.{IsPlain, plain_made, fixed_made}
use Rattle.form_maker.proofs.maker.Maker.value_behind.Goals as goal

pub returns-in_ok-behind_equals-in-Fixed : goal.returns-in_ok-behind_equals-in-Fixed
returns-in_ok-behind_equals-in-Fixed c =
    λ h.
    let rule = c.args.rule.now in
    fixed_made (table_of c.args.indexed.now.dtd.now).entities rule.name (kind_of rule.kind) c.as_slice-value.result.now (presence_of rule.need) (making_of c.args.self.now) (making_of c.fixed.new.self)
    (making_of c.fixed-in-Fixed.new.self) (making_of c.either.new.self) (making_of c.behind_equals.new.self) (ap presence_of c.in-Fixed.is ∙ ap fixed (sym c.as_slice-value.ensures)) c.in_ok-fixed-in-Fixed.ensures
    c.in_ok-fixed-in-Fixed-2.ensures c.in_ok-either-in-Fixed.ensures c.in_ok-behind_equals-in-Fixed.ensures

pub returns-in_ok-kind_behind-in-Implied : goal.returns-in_ok-kind_behind-in-Implied
returns-in_ok-kind_behind-in-Implied c =
    λ h.
    let rule = c.args.rule.now in
    plain_made (table_of c.args.indexed.now.dtd.now).entities rule.name (kind_of rule.kind) (presence_of rule.need) (making_of c.args.self.now) (making_of c.kind_behind.new.self)
    (subst (λ (n : Need). IsPlain (presence_of n)) (sym c.in-Implied.is) tt) (c.in_ok-kind_behind-in-Implied.ensures (table_of c.args.indexed.now.dtd.now).entities h)

pub returns-in_ok-kind_behind-in-Required : goal.returns-in_ok-kind_behind-in-Required
returns-in_ok-kind_behind-in-Required c =
    λ h.
    let rule = c.args.rule.now in
    plain_made (table_of c.args.indexed.now.dtd.now).entities rule.name (kind_of rule.kind) (presence_of rule.need) (making_of c.args.self.now) (making_of c.kind_behind-in-Required.new.self)
    (subst (λ (n : Need). IsPlain (presence_of n)) (sym c.in-Required.is) tt) (c.in_ok-kind_behind-in-Required.ensures (table_of c.args.indexed.now.dtd.now).entities h)

pub returns-in_ok-kind_behind-in-Default : goal.returns-in_ok-kind_behind-in-Default
returns-in_ok-kind_behind-in-Default c =
    λ h.
    let rule = c.args.rule.now in
    plain_made (table_of c.args.indexed.now.dtd.now).entities rule.name (kind_of rule.kind) (presence_of rule.need) (making_of c.args.self.now) (making_of c.kind_behind-in-Default.new.self)
    (subst (λ (n : Need). IsPlain (presence_of n)) (sym c.in-Default.is) tt) (c.in_ok-kind_behind-in-Default.ensures (table_of c.args.indexed.now.dtd.now).entities h)
