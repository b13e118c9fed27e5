use Rattle.std.proofs.Common.{rules, ◌≡◌, ℕ, List, ◌∷◌, subst}
use Rattle.page_policy.specs.Views.{ReadsPart}
use Rattle.page_policy.specs.declared.part.Part.TheVariants as part
use Rattle.page_policy.proofs.ClassLemmas.{open_part, bar_part, close_part, class_part}
use Rattle.page_policy.proofs.parts.part_at.Goals as goal

pub returns-then-first-eq40-clause-some : goal.returns-then-first-eq40-clause-some
returns-then-first-eq40-clause-some c =
    let is : 40 ∷ c.in-Some.rest.now ≡ c.args.bytes.now = search rules in
    subst (λ (bytes : List ℕ). ReadsPart bytes part.Open c.in-Some.rest.now) is (open_part c.in-Some.rest.now)

pub returns-then-first-eq124-clause-some : goal.returns-then-first-eq124-clause-some
returns-then-first-eq124-clause-some c =
    let is : 124 ∷ c.in-Some.rest.now ≡ c.args.bytes.now = search rules in
    subst (λ (bytes : List ℕ). ReadsPart bytes part.Bar c.in-Some.rest.now) is (bar_part c.in-Some.rest.now)

pub returns-then-first-eq41-clause-some : goal.returns-then-first-eq41-clause-some
returns-then-first-eq41-clause-some c =
    let is : 41 ∷ c.in-Some.rest.now ≡ c.args.bytes.now = search rules in
    subst (λ (bytes : List ℕ). ReadsPart bytes (part.Close c.repeat_of-repeat.result.0) c.repeat_of-repeat.result.1.now) is
    (close_part c.in-Some.rest.now c.repeat_of-repeat.result.1.now c.repeat_of-repeat.result.0 c.repeat_of-repeat.ensures.value)

pub returns-in-Some-class_at-clause-some : goal.returns-in-Some-class_at-clause-some
returns-in-Some-class_at-clause-some c =
    class_part c.args.bytes.now c.in-Some-class_at.rest.now c.repeat_of-repeat-in-Some-class_at.result.1.now c.in-Some-class_at.class
    c.repeat_of-repeat-in-Some-class_at.result.0 c.in-Some-class_at.ensures.some c.repeat_of-repeat-in-Some-class_at.ensures.value
