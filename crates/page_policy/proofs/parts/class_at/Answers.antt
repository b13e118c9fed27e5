use Rattle.std.proofs.Common.{rules, ◌≡◌, ℕ, true, List, ◌∷◌, refl, sym, subst}
use Rattle.page_policy.specs.Views.{ReadsClass}
use Rattle.byte_forms.specs.declared.class.ByteClass.{ByteClass}
use Rattle.page_policy.proofs.ClassLemmas.{dot_read, itself_read}
use Rattle.page_policy.proofs.parts.class_at.Goals as goal

pub returns-then-first-eq46-clause-some : goal.returns-then-first-eq46-clause-some
returns-then-first-eq46-clause-some c =
    let class : ByteClass = record { others = true; set = c.empty-set.result } in
    let is : 46 ∷ c.in-Some.rest.now ≡ c.args.bytes.now = search rules in
    subst (λ (bytes : List ℕ). ReadsClass bytes class c.in-Some.rest.now) is (dot_read c.in-Some.rest.now class refl c.empty-set.ensures)

pub returns-in-Some-byte_at-clause-some : goal.returns-in-Some-byte_at-clause-some
returns-in-Some-byte_at-clause-some c =
    itself_read c.args.bytes.now c.in-Some-byte_at.rest.now c.in-Some-byte_at.byte c.only.result (sym c.in-Some-byte_at.ensures.value) c.only.ensures
