use Rattle.std.proofs.Common.{rules, ◌≡◌, ℕ, List, ◌∷◌, subst}
use Rattle.std.specs.Prelude.{IfSome}
use Rattle.page_policy.specs.Views.{ReadsClass}
use Rattle.page_policy.proofs.ClassLemmas.{inside_reads, outside_reads}
use Rattle.page_policy.proofs.parts.set_at.Goals as goal

pub returns-then-hat-eq94-clause-some : goal.returns-then-hat-eq94-clause-some
returns-then-hat-eq94-clause-some c =
    let is : 94 ∷ c.in-Some.ranges.now ≡ c.args.bytes.now = search rules in
    subst (λ (bytes : List ℕ). IfSome c.class_of.result (λ r. ReadsClass (91 ∷ bytes) r.0 r.1.now)) is
    (outside_reads c.in-Some.ranges.now c.class_of.result c.class_of.ensures.some)

pub returns-clause-some : goal.returns-clause-some
returns-clause-some c = inside_reads c.args.bytes.now c.class_of-2.result c.class_of-2.ensures.some
