use Rattle.std.proofs.Common.{rules, ◌≡◌, ◌∙◌, map, sym, ap, subst, IfErr}
use Rattle.std.specs.Prelude.{Err}
use Rattle.dtd_model.specs.Table.{rule_of}
use Rattle.dtd_tables.specs.Updates.{rule_names}
use Rattle.dtd_tables.specs.Views.{list_said, AreListCauses}
use Rattle.dtd_tables.proofs.AttributeLemmas.{rest_of, split_at}
use Rattle.dtd_tables.proofs.Crowds.{at_list}
use Rattle.dtd_tables.proofs.ElementLemmas.{named_at, updated_more}
use Rattle.dtd_tables.proofs.Updates.{names_updated_by}
use Rattle.dtd_tables.proofs.elements.put_lists.Goals as goal

pub put_list-requires-clause-named : goal.put_list-requires-clause-named
put_list-requires-clause-named c = named_at c.args.lists.items c.loop-list.yielded c.in-Some.list _ c.requires.named (split_at c.args.lists.items c.loop-list.yielded c.in-Some.list _ _ c.loop-list.invariant.0 c.in-Some.ensures.steps.0)

pub put_list-requires-clause-names : goal.put_list-requires-clause-names
put_list-requires-clause-names c = ap rule_names c.loop-list.invariant.1 ∙ names_updated_by (map list_said c.loop-list.yielded) (map rule_of c.args.elements.now.items) ∙ c.requires.names

pub loop-list-preserved : goal.loop-list-preserved
loop-list-preserved c =
    let at = c.loop-list in (
      rest_of c.args.lists.items at.yielded c.in-Some.list _ _ at.invariant.0 c.in-Some.ensures.steps.0,
      updated_more at.yielded c.in-Some.list (map rule_of c.args.elements.now.items) _ _ at.invariant.1 c.in_ok-put_list.ensures.put,
      c.in_ok-put_list.ensures.few,
    )

pub returns-in_err-put_list-clause-many : goal.returns-in_err-put_list-clause-many
returns-in_err-put_list-clause-many c =
    let at = c.loop-list in
    let is : c.from_residual.result ≡ Err c.in_err-put_list.field-0.0 = search rules in
    subst (λ r. IfErr r (AreListCauses (map rule_of c.args.elements.now.items) c.args.lists.items)) (sym is)
    (at_list (map rule_of c.args.elements.now.items) _ c.args.lists.items at.yielded c.in-Some.list _ c.in_err-put_list.field-0.0
    (split_at c.args.lists.items at.yielded c.in-Some.list _ _ at.invariant.0 c.in-Some.ensures.steps.0) at.invariant.1 c.in_err-put_list.ensures.many)
