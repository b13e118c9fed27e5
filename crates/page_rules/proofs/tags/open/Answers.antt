use Rattle.std.proofs.Common.{◌≡◌, ℕ, List, sym, ◌∙◌, map}
use Rattle.std.specs.Prelude.{Some}
use Rattle.page_model.specs.Parts as parts
use Rattle.page_model.specs.Reading.{name_at}
use Rattle.page_rules.specs.Views.{attribute_of}
use Rattle.page_rules.proofs.Turns.{open_from}
use Rattle.page_rules.proofs.tags.open.Goals as goal

pub returns : goal.returns
returns c =
    let n : List ℕ × List ℕ = (c.in-Some.name.now, c.in-Some.behind.now) in
    let a : List parts.Attribute × List ℕ = (map attribute_of c.in_ok-attributes.attributes.items, c.in_ok-attributes.rest.now) in
    let e : Some n ≡ name_at c.args.cs.now = c.in-Some.ensures in
    c.tag_end.ensures ∙ sym (open_from c.args.cs.now n a c.split.result.0.now c.split.result.1.now (sym e) (sym c.in_ok-attributes.ensures) (sym c.split.ensures.front) (sym c.split.ensures.rest))
