use Rattle.std.proofs.Common.{rules, ◌≡◌, map, sym, refl, subst, IfErr}
use Rattle.std.specs.Prelude.{Err}
use Rattle.dtd_entities.specs.Positions.{written_of}
use Rattle.dtd_tables.specs.Causes.{IsTableCause}
use Rattle.dtd_tables.proofs.TableLemmas.{lists_of, names_of, few_of, crowd_of, lawful_of, table_is}
use Rattle.dtd_tables.proofs.table.table_of.Goals as goal

pub put_lists-requires-clause-named : goal.put_lists-requires-clause-named
put_lists-requires-clause-named c = lists_of _ _ c.in_ok-parts.parts c.in_ok-parts.ensures.says

pub put_lists-requires-clause-names : goal.put_lists-requires-clause-names
put_lists-requires-clause-names c = names_of _ _ c.in_ok-parts.parts c.in_ok-names.ensures.names c.in_ok-parts.ensures.says

pub put_lists-requires-clause-few : goal.put_lists-requires-clause-few
put_lists-requires-clause-few c = few_of _ _ c.in_ok-parts.parts c.in_ok-parts.ensures.says

pub returns-in_err-put_lists-clause-refused : goal.returns-in_err-put_lists-clause-refused
returns-in_err-put_lists-clause-refused c =
    let is : c.from_residual-in_err-put_lists.result ≡ Err c.in_err-put_lists.field-0.0 = search rules in
    subst (λ r. IfErr r (IsTableCause (map written_of c.args.written.now))) (sym is)
    (crowd_of _ _ c.in_ok-parts.parts c.in_err-put_lists.field-0.0 c.in_ok-names.ensures.names c.in_ok-names.ensures.once c.in_ok-parts.ensures.says c.in_err-put_lists.ensures.many)

pub invariant_of-result : goal.invariant_of-result
invariant_of-result c = record {
  lawful = lawful_of _ _ c.in_ok-parts.parts _ _ _ c.in_ok-names.ensures.names c.in_ok-names.ensures.once c.in_ok-names.ensures.few c.in_ok-parts.ensures.says c.in_ok-put_lists.ensures.put c.in_ok-put_lists.ensures.few
      c.in_ok-entities.ensures c.requires;
}

pub returns-clause-table : goal.returns-clause-table
returns-clause-table c =
    table_is _ _ c.in_ok-parts.parts _ _ _ _ c.in_ok-names.ensures.names c.in_ok-names.ensures.once c.in_ok-parts.ensures.says c.in_ok-put_lists.ensures.put c.in_ok-entities.ensures refl refl refl
