use Rattle.std.proofs.Common.{◌≡◌, ℕ, List, sym, ◌∙◌, ap, map}
use Rattle.std.specs.Prelude.{Option, Some, None}
use Rattle.page_model.specs.Parts as parts
use Rattle.page_model.specs.Reading.{attribute_at, all_attributes}
use Rattle.page_rules.specs.Views.{attribute_of}
use Rattle.page_rules.proofs.Turns.{shorter, one_more, map_push, joined, no_more}
use Rattle.page_rules.proofs.attribute_parts.attributes.Goals as goal

pub loop-attribute-smaller : goal.loop-attribute-smaller
loop-attribute-smaller c =
    let z : parts.Attribute × List ℕ = (attribute_of c.in-Some.attribute, c.in-Some.behind.now) in
    let e : Some z ≡ attribute_at c.loop-attribute.rest.now = c.in-Some.ensures in
    shorter c.loop-attribute.rest.now z (sym e)

pub loop-attribute-preserved : goal.loop-attribute-preserved
loop-attribute-preserved c =
    let z : parts.Attribute × List ℕ = (attribute_of c.in-Some.attribute, c.in-Some.behind.now) in
    let e : Some z ≡ attribute_at c.loop-attribute.rest.now = c.in-Some.ensures in
    let items : map attribute_of c.push.new.self.items ≡ _ = ap (map attribute_of) c.in_ok-push.ensures.items ∙ map_push attribute_of c.loop-attribute.attributes.items c.in-Some.attribute in
    one_more c.args.cs.now c.loop-attribute.rest.now (map attribute_of c.loop-attribute.attributes.items) z c.loop-attribute.invariant (sym e)
    ∙ ap (λ (xs : List parts.Attribute). joined xs (all_attributes c.in-Some.behind.now)) (sym items)

pub returns : goal.returns
returns c =
    let none : Option (parts.Attribute × List ℕ) = None in
    let e : none ≡ attribute_at c.loop-attribute.rest.now = c.in_default.ensures in
    sym (c.loop-attribute.invariant ∙ no_more c.loop-attribute.rest.now (map attribute_of c.loop-attribute.attributes.items) (sym e))
