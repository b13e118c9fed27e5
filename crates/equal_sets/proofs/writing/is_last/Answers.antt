use Rattle.std.proofs.Common.{◌≡◌, ◌∙◌, ◌-◌, Some, length, slice_get, sym, ap}
use Rattle.cfg_grammar.specs.declared.production.Production.{Production}
use Rattle.op_bytes.proofs.ListLemmas.{contained}
use Rattle.equal_sets.proofs.writing.is_last.Goals as goal

pub returns-in-Some : goal.returns-in-Some
returns-in-Some c = λ same.
    let xs = c.args.productions.now in
    let at : slice_get xs (length xs - 1) ≡ Some c.in-Some.last = sym c.last.ensures.value ∙ (sym c.copied.ensures ∙ c.in-Some.is) in
    contained xs (length xs - 1) c.args.production (at ∙ ap (λ (p : Production). Some p) (c.is_same_production.ensures same))
