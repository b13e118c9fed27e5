use Rattle.std.proofs.Common.{ℕ, List, map, subst, rules, []}
use Rattle.dtd_model.specs.Table.{declared_of}
use Rattle.page_rules.specs.Views.{attribute_of}
use Rattle.piece_reasons.specs.Sites.{table_at}
use Rattle.piece_reasons.specs.Tags.{IsWrong, IsWrongWhole}
use Rattle.piece_reasons.proofs.tags.OpenTag.attribute.Goals as goal

pub returns-in-Err : goal.returns-in-Err
returns-in-Err c = c.in-Err.ensures.whole (table_at c.args.self.now.site.now).entities (map declared_of c.args.self.now.rules.now.items) (map attribute_of c.args.done.now)

pub returns-in-Some : goal.returns-in-Some
returns-in-Some c =
    subst (λ (n : List ℕ). IsWrong (table_at c.args.self.now.site.now).entities (map declared_of c.args.self.now.rules.now.items) (map attribute_of c.args.done.now)
    c.args.first.now.left.now n c.args.first.now.behind.now c.in-Some.why) c.in-Ok.ensures.name
    (c.in-Some.ensures (table_at c.args.self.now.site.now).entities (map declared_of c.args.self.now.rules.now.items) (map attribute_of c.args.done.now)
    c.args.first.now.left.now c.args.first.now.behind.now c.in-Ok.whole.1.now c.in-Ok.ensures.whole)

pub declared_fault-requires : goal.declared_fault-requires
declared_fault-requires c = (c.in_default.ensures [] [] [] c.args.first.now.left.now c.in-Ok.whole.1.now c.in-Ok.ensures.whole).references

pub returns-in-Some-2 : goal.returns-in-Some-2
returns-in-Some-2 c =
    let w : IsWrongWhole (table_at c.args.self.now.site.now).entities (map declared_of c.args.self.now.rules.now.items) (map attribute_of c.args.done.now) (attribute_of c.in-Ok.whole.0) c.in-Some-2.why = search rules in
    subst (λ (n : List ℕ). IsWrong (table_at c.args.self.now.site.now).entities (map declared_of c.args.self.now.rules.now.items) (map attribute_of c.args.done.now)
    c.args.first.now.left.now n c.args.first.now.behind.now c.in-Some-2.why) c.in-Ok.ensures.name
    (w c.args.first.now.left.now c.args.first.now.behind.now c.in-Ok.whole.1.now c.in-Ok.ensures.whole)

pub returns-in-None : goal.returns-in-None
returns-in-None c = (c.in-Ok.ensures.whole, c.in_default.ensures [] [] [] c.args.first.now.left.now c.in-Ok.whole.1.now c.in-Ok.ensures.whole)
