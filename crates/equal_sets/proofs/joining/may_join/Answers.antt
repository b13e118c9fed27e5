use Rattle.std.proofs.Common.{List, subst}
use Rattle.text_base.specs.declared.numbers.Nt as nt
use Rattle.equal_sets.specs.Alike.{IsEqual, IsAlias}
use Rattle.equal_sets.specs.Fit.{Joins}
use Rattle.equal_sets.proofs.joining.may_join.Goals as goal

pub returns-then-is_alias : goal.returns-then-is_alias
returns-then-is_alias c = λ same.
    let s = c.args.rows.now.system.now in
    let numbers = c.args.rows.now.numbers.items in
    Joins.alias (subst (λ (xs : List nt.Nt). IsAlias s numbers xs c.args.a c.args.b) c.as_slice-of.ensures.value (c.is_alias.ensures c.if-is_alias.true))

pub returns : goal.returns
returns c = λ same.
    let s = c.args.rows.now.system.now in
    Joins.equal (subst (λ (xs : List nt.Nt). IsEqual s xs c.args.a c.args.b) c.as_slice-of.ensures.value (c.is_equal.ensures same))
