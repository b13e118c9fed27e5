use Rattle.std.proofs.Common.{◌≡◌, ◌∙◌, IfOk, List, ℕ, sym, ap, subst}
use Rattle.std.specs.Str.{IsUtf8}
use Rattle.script_grammar.specs.Rules.{is_utf8}
use Rattle.spellable.proofs.ShapeLemmas.{utf8_so, utf8_not}
use Rattle.program_files.specs.Steps.{placed, placed_or_same}
use Rattle.program_files.proofs.Placed.{text_placed, other_stays}
use Rattle.program_files.proofs.naming.found_name.Goals as goal

pub returns-in-Ok : goal.returns-in-Ok
returns-in-Ok c =
    let names = c.args.naming.now.names.now.keys in
    let main = c.args.naming.now.main.now in
    let file = c.args.naming.now.file.now in
    let same : c.in-Ok.written.now ≡ c.args.written.now = c.in-Ok.ensures.cases.0 ∙ c.as_slice.ensures in
    let text = utf8_so c.args.written.now (subst (λ (x : List ℕ). IsUtf8 x) c.as_slice.ensures c.in-Ok.ensures.cases.1) in
    let e : placed names main file c.in-Ok.written.now ≡ placed_or_same names main file c.args.written.now = ap (λ (x : List ℕ). placed names main file x) same ∙ text_placed names main file c.args.written.now text in
    subst (λ (x : List ℕ). IfOk c.place_of.result (λ name. name ≡ x)) e c.place_of.ensures

pub returns-in-Err : goal.returns-in-Err
returns-in-Err c =
    let none = ap (λ (x : List ℕ). is_utf8 x) (sym c.as_slice.ensures) ∙ utf8_not c.as_slice.result.now _ c.in-Err.ensures.cases.1 in
    subst (λ (x : List ℕ). IfOk c.copy.result (λ name. name ≡ x)) (other_stays c.args.naming.now.names.now.keys c.args.naming.now.main.now c.args.naming.now.file.now c.args.written.now none) c.copy.ensures
