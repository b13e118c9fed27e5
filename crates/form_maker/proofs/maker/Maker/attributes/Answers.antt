use Rattle.std.proofs.Common.{map, ap, ◌∙◌, [], ◌∷◌}
use Rattle.std.proofs.lemmas.List.{map-append, nil_from_length}
use Rattle.dtd_model.specs.Table.{declared_of}
use Rattle.dtd_model.specs.TableOf.{table_of}
use Rattle.form_maker.specs.Making.{making_of}
use Rattle.form_maker.proofs.Attributes.{no_member, member_kept, one_member, all_members}
use Rattle.form_maker.proofs.maker.Maker.attributes.Goals as goal

pub loop-last-init : goal.loop-last-init
loop-last-init c =
    λ h.
    no_member (table_of c.args.indexed.now.dtd.now).entities c.args.tag.now (map declared_of c.args.rules.now.items) (map declared_of c.as_slice-left.result.now) (making_of c.args.self.now) (making_of c.empty.new.self)
    (ap (map declared_of) c.as_slice-left.ensures.value) c.in_ok-empty.ensures

pub loop-last-preserved : goal.loop-last-preserved
loop-last-preserved c =
    λ h.
    let so = c.loop-last.invariant h in
    one_member (table_of c.args.indexed.now.dtd.now).entities c.args.tag.now (map declared_of c.args.rules.now.items) (map declared_of c.loop-last.left.now) (map declared_of c.in-Some.others.now)
    (declared_of c.in-Some.last.now) c.must_stand.result (making_of c.args.self.now) (making_of c.loop-last.self) (making_of c.attribute.new.self) (making_of c.member.new.self) so
    (ap (map declared_of) c.in-Some.ensures.cases.0 ∙ map-append declared_of c.in-Some.others.now (c.in-Some.last.now ∷ []))
    (c.in_ok-attribute.ensures
    (member_kept (table_of c.args.indexed.now.dtd.now).entities c.args.tag.now (map declared_of c.args.rules.now.items) (map declared_of c.loop-last.left.now) (making_of c.args.self.now) (making_of c.loop-last.self) so h))
    c.must_stand.ensures c.in_ok-member.ensures

pub returns : goal.returns
returns c =
    λ h.
    all_members (table_of c.args.indexed.now.dtd.now).entities c.args.tag.now (map declared_of c.args.rules.now.items) (map declared_of c.loop-last.left.now) (making_of c.args.self.now) (making_of c.loop-last.self)
    (c.loop-last.invariant h) (ap (map declared_of) (nil_from_length c.loop-last.left.now c.in_default.ensures.cases))
