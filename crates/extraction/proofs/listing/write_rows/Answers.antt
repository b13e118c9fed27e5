use Rattle.std.proofs.Common.{arith, ◌≡◌, [], sym, ap, ◌∙◌, ◌++◌, List}
use Rattle.std.specs.Vec.Iter.{into_iter_items}
use Rattle.point_listing.specs.declared.form.NamedForm.{NamedForm}
use Rattle.extraction.proofs.RowLemmas.{rest_of, rows_none, forms_more, rows_done, no_items}
use Rattle.extraction.proofs.listing.write_rows.Goals as goal

pub write_row-requires : goal.write_row-requires
write_row-requires c = c.loop-named.invariant.adds.adds.paired

pub loop-named-init : goal.loop-named-init
loop-named-init c = record { split = sym c.into_iter-named-iterator.ensures.into_iter_gives.0; adds = rows_none _ _ _ c.requires }

pub loop-named-preserved : goal.loop-named-preserved
loop-named-preserved c =
    let all = c.args.forms.items in
    let at = c.loop-named in
    let next = into_iter_items c.next.new.self in
    record {
      split = rest_of all at.yielded c.in-Some.named _ _ at.invariant.split c.in-Some.ensures.steps.0;
      adds = forms_more _ _ _ c.args.set all at.yielded c.in-Some.named next (at.invariant.split ∙ ap (λ (ys : List NamedForm). at.yielded ++ ys) c.in-Some.ensures.steps.0) at.invariant.adds c.in_ok-write_row.ensures;
    }

pub returns : goal.returns
returns c =
    let v = c.loop-named.named-iterator.rest in
    let none : into_iter_items c.loop-named.named-iterator ≡ [] = no_items v.items (grind (arith, v.ok, c.in-None.ensures.steps.0)) in
    rows_done _ _ _ _ c.args.forms.items c.loop-named.yielded (into_iter_items c.loop-named.named-iterator) c.loop-named.invariant.split none c.loop-named.invariant.adds
