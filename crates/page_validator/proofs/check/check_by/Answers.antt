use Rattle.std.proofs.Common.{ℕ, sym, subst, Vec, Global}
use Rattle.std.specs.Prelude.{Option}
use Rattle.content_automata.specs.Decides.{Decides}
use Rattle.dtd_model.specs.TableOf.{table_of}
use Rattle.dtd_model.specs.declared.definition.Dtd.{Dtd}
use Rattle.page_model.specs.Laws.{GoodPieces}
use Rattle.page_validator.specs.Walks.{IsDecoded, IsWalk}
use Rattle.page_validator.proofs.Steps.{valid_if, not_valid, not_utf8}
use Rattle.page_validator.proofs.check.check_by.Goals as goal

pub returns-in_default : goal.returns-in_default
returns-in_default c =
    let n = subst (λ (o : Option (Vec ℕ Global)). IsDecoded c.args.page.now o) c.in_default.is c.in_ok-characters.ensures in
    (not_utf8 (table_of c.args.dtd.now) c.args.page.now n, c.first_fault.ensures)

pub walk-requires-clause-decides : goal.walk-requires-clause-decides
walk-requires-clause-decides c = subst (λ (x : Dtd). Decides (table_of x) c.args.contents.now) (sym c.in_ok-indexed.ensures) c.requires.decides

pub returns-in-None : goal.returns-in-None
returns-in-None c =
    let d = table_of c.args.dtd.now in
    let h = subst (λ (o : Option (Vec ℕ Global)). IsDecoded c.args.page.now o) c.in-Some.is c.in_ok-characters.ensures in
    let w = subst (λ (x : Dtd). IsWalk (table_of x) c.as_slice-characters.result.now c.in_ok-walk.field-0) c.in_ok-indexed.ensures c.in_ok-walk.ensures.walk in
    let g = subst (λ (o : Option ℕ). IsWalk d c.as_slice-characters.result.now o) c.in-None.is w in
    valid_if d c.in-Some.characters.items c.args.page.now h (subst (GoodPieces d) c.as_slice-characters.ensures.value g)

pub returns : goal.returns
returns c =
    let d = table_of c.args.dtd.now in
    let h = subst (λ (o : Option (Vec ℕ Global)). IsDecoded c.args.page.now o) c.in-Some.is c.in_ok-characters.ensures in
    let w = subst (λ (x : Dtd). IsWalk (table_of x) c.as_slice-characters.result.now c.in_ok-walk.field-0) c.in_ok-indexed.ensures c.in_ok-walk.ensures.walk in
    let n = subst (λ (o : Option ℕ). IsWalk d c.as_slice-characters.result.now o) c.in-Some-2.is w in
    (not_valid d c.in-Some.characters.items c.args.page.now h (λ g. n (subst (GoodPieces d) (sym c.as_slice-characters.ensures.value) g)), c.byte_len.ensures)
