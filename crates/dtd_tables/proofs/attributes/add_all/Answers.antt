use Rattle.std.proofs.Common.{rules, ◌≡◌, map, sym, subst, IfErr}
use Rattle.std.specs.Prelude.{Err}
use Rattle.dtd_model.specs.Table.{declared_of}
use Rattle.dtd_texts.specs.Tables.{with_others}
use Rattle.dtd_tables.specs.Views.{IsCrowded}
use Rattle.dtd_tables.proofs.AttributeLemmas.{none_yet, rest_of, one_added, crowded_more, split_at}
use Rattle.dtd_tables.proofs.attributes.add_all.Goals as goal

pub loop-rule-init : goal.loop-rule-init
loop-rule-init c = (sym c.into_iter-rule-iterator.ensures.into_iter_gives.0, none_yet (map declared_of c.args.rules.now.items), c.requires)

pub loop-rule-preserved : goal.loop-rule-preserved
loop-rule-preserved c =
    let at = c.loop-rule in (
      rest_of c.args.more.items at.yielded c.in-Some.rule _ _ at.invariant.0 c.in-Some.ensures.steps.0,
      one_added _ _ _ at.yielded c.in-Some.rule at.invariant.1 c.in_ok-add.ensures.added,
      c.in_ok-add.ensures.few,
    )

pub returns-in_err-add-clause-many : goal.returns-in_err-add-clause-many
returns-in_err-add-clause-many c =
    let at = c.loop-rule in
    let is : c.from_residual.result ≡ Err c.in_err-add.field-0.0 = search rules in
    subst (λ r. IfErr r (IsCrowded (with_others (map declared_of c.args.rules.now.items) (map declared_of c.args.more.items)))) (sym is)
    (crowded_more _ c.args.more.items at.yielded c.in-Some.rule _ _ c.in_err-add.field-0.0 (split_at c.args.more.items at.yielded c.in-Some.rule _ _ at.invariant.0 c.in-Some.ensures.steps.0) at.invariant.1 c.in_err-add.ensures.many)
