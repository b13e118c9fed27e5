use Rattle.std.proofs.Common.{rules, ◌≡◌, ◌∙◌, ◌+◌, ◌≤◌, ◌++◌, ◌∷◌, [], ℕ, suc, List, length, map, take, drop, sym, ap, subst, arith}
use Rattle.std.specs.Prelude.{string_bytes}
use Rattle.std.specs.Str.{IsUtf8}
use Rattle.site_check.specs.Listed as spec
use Rattle.site_check.proofs.Cutting.{read_more, read_bad}
use Rattle.site_check.proofs.listing.read_list.Goals as goal

pub returns-in_default-clause-err : goal.returns-in_default-clause-err
returns-in_default-clause-err c =
    let some : c.loop-rest.rest.now ≡ [] → ⊥ = search rules in
    read_bad c.args.text.now c.loop-rest.rest.now c.without_return.result.now c.loop-rest.number (map string_bytes c.loop-rest.names.items) c.loop-rest.invariant some
    (c.without_return.ensures ∙ ap spec.without_return (c.front.ensures.value ∙ ap (λ (n : ℕ). take n c.loop-rest.rest.now) c.line_length-length.ensures.value))
    c.in_default.ensures.cases.0

pub loop-rest-preserved : goal.loop-rest-preserved
loop-rest-preserved c =
    let some : c.loop-rest.rest.now ≡ [] → ⊥ = search rules in
    let is : c.without_return.result.now ≡ spec.without_return (take (spec.line_length c.loop-rest.rest.now) c.loop-rest.rest.now) =
    c.without_return.ensures ∙ ap spec.without_return (c.front.ensures.value ∙ ap (λ (n : ℕ). take n c.loop-rest.rest.now) c.line_length-length.ensures.value) in
    let more = read_more c.args.text.now c.loop-rest.rest.now c.in-Ok.line.now c.loop-rest.number (map string_bytes c.loop-rest.names.items) (map string_bytes c.add_name.new.names.items)
    c.loop-rest.invariant some (c.in-Ok.ensures.cases.0 ∙ is) (subst IsUtf8 (sym c.in-Ok.ensures.cases.0) c.in-Ok.ensures.cases.1) c.in_ok-add_name.ensures in
    let one : suc c.loop-rest.number ≡ c.loop-rest.number + 1 = omega arith in
    let length_is : suc (spec.line_length c.loop-rest.rest.now) ≡ c.line_length-length.result + 1 = let at = c.line_length-length.ensures.value in omega (arith, at) in
    let behind : drop (suc (spec.line_length c.loop-rest.rest.now)) c.loop-rest.rest.now ≡ c.behind-rest.result.now =
    ap (λ (n : ℕ). drop n c.loop-rest.rest.now) length_is ∙ sym c.behind-rest.ensures.value in
    subst (λ (n : ℕ). spec.HasRead c.args.text.now c.behind-rest.result.now n (map string_bytes c.add_name.new.names.items)) one
    (subst (λ (r : List ℕ). spec.HasRead c.args.text.now r (suc c.loop-rest.number) (map string_bytes c.add_name.new.names.items)) behind more)
