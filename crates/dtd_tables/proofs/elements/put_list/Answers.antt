use Rattle.std.proofs.Common.{rules, ◌≡◌, ◌∙◌, map, sym, subst, IfErr}
use Rattle.std.specs.Prelude.{Err}
use Rattle.dtd_model.specs.Table.{rule_of, declared_of}
use Rattle.dtd_tables.specs.Views.{IsListCause}
use Rattle.dtd_tables.proofs.ElementLemmas.{is_at, may_add, put_nowhere, put_refused, element_put, few_put, rule_added}
use Rattle.dtd_tables.proofs.elements.put_list.Goals as goal

pub add_all-requires : goal.add_all-requires
add_all-requires c =
    let at = is_at c.args.elements.now.items c.in-Some.place c.index_mut.result.now c.args.list.name c.args.names.now c.requires.once c.requires.names (sym c.in-Some.is ∙ c.in_ok-place_of.ensures) c.index_mut.ensures.value in
    may_add c.args.elements.now.items c.in-Some.place c.index_mut.result.now c.args.list.name at c.requires.few

pub returns-in-None-clause-put : goal.returns-in-None-clause-put
returns-in-None-clause-put c = put_nowhere c.args.elements.now.items c.args.list.name (map declared_of c.args.list.rules.items) c.args.names.now c.requires.names (sym c.in-None.is ∙ c.in_ok-place_of.ensures)

pub returns-in_ok-add_all-in-Some-clause-put : goal.returns-in_ok-add_all-in-Some-clause-put
returns-in_ok-add_all-in-Some-clause-put c =
    let at = is_at c.args.elements.now.items c.in-Some.place c.index_mut.result.now c.args.list.name c.args.names.now c.requires.once c.requires.names (sym c.in-Some.is ∙ c.in_ok-place_of.ensures) c.index_mut.ensures.value in
    element_put c.args.elements.now.items c.in-Some.place c.index_mut.result.now (record { name = c.index_mut.result.now.name; content = c.index_mut.result.now.content; attributes = c.add_all.new.rules }) c.args.list.name (map declared_of c.args.list.rules.items) at
    (rule_added c.index_mut.result.now c.add_all.new.rules (map declared_of c.args.list.rules.items) c.in_ok-add_all-in-Some.ensures.added)

pub returns-in_ok-add_all-in-Some-clause-few : goal.returns-in_ok-add_all-in-Some-clause-few
returns-in_ok-add_all-in-Some-clause-few c =
    few_put c.args.elements.now.items c.in-Some.place (record { name = c.index_mut.result.now.name; content = c.index_mut.result.now.content; attributes = c.add_all.new.rules }) c.requires.few c.in_ok-add_all-in-Some.ensures.few

pub returns-in_err-add_all-in-Some-clause-many : goal.returns-in_err-add_all-in-Some-clause-many
returns-in_err-add_all-in-Some-clause-many c =
    let at = is_at c.args.elements.now.items c.in-Some.place c.index_mut.result.now c.args.list.name c.args.names.now c.requires.once c.requires.names (sym c.in-Some.is ∙ c.in_ok-place_of.ensures) c.index_mut.ensures.value in
    let is : c.from_residual-in_err-add_all-in-Some.result ≡ Err c.in_err-add_all-in-Some.field-0.0 = search rules in
    subst (λ r. IfErr r (IsListCause (map rule_of c.args.elements.now.items) c.args.list)) (sym is)
    (put_refused c.args.elements.now.items c.in-Some.place c.index_mut.result.now c.args.list c.in_err-add_all-in-Some.field-0.0 at c.in_err-add_all-in-Some.ensures.many)
