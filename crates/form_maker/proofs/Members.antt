-- One member more.
use Rattle.std.proofs.Common.{◌≡◌, ℕ, Bool, true, false, refl, sym, ◌∙◌, ap}
use Rattle.std.specs.Prelude.{IsTrue, ◌↔◌}
use Rattle.derivatives.specs.Expressions.{Expr, nothing, empty, range, chain, either, star, among, Members, none, member}
use Rattle.derivatives.specs.Derivatives.{among_of}
use Rattle.derivatives.specs.Standing.{expr_at, members_at, IsExpr, IsMade, IsListed, Grows}
use Rattle.derivatives.specs.declared.arena.Arena.{Arena}
use Rattle.derivatives.proofs.NodeLemmas.{expr_stays}
use Rattle.derivatives.proofs.NormalForms.{ap2}
use Rattle.form_maker.specs.Making.{with_one}

pub not_shown : {P : Type 0} (b : Bool) → b ≡ false → IsTrue b ↔ P → P → ⊥
not_shown true e h p = cc
not_shown false e h p = let t : false ≡ true = h.1 p in cc

first_one : (q : Bool) (e : Expr) → (e ≡ nothing → ⊥) → with_one q empty e ≡ among (member e q none)
first_one q nothing h = absurd (h refl)
first_one true empty h = refl
first_one false empty h = refl
first_one true (range x y) h = refl
first_one false (range x y) h = refl
first_one true (chain x y) h = refl
first_one false (chain x y) h = refl
first_one true (either x y) h = refl
first_one false (either x y) h = refl
first_one true (star x) h = refl
first_one false (star x) h = refl
first_one true (among x) h = refl
first_one false (among x) h = refl

-- the first member
pub first_made : (old mid last new : Arena) (all one list r empties : ℕ) (q : Bool) → (expr_at old one ≡ nothing → ⊥) → expr_at old all ≡ empty → IsExpr old one → Grows old mid → IsListed mid empties none
    → IsListed last list (member (expr_at mid one) q (members_at mid empties)) → IsMade new r (among_of (members_at last list)) → IsMade new r (with_one q (expr_at old all) (expr_at old one))
first_made old mid last new all one list r empties q full is h g e m n = record {
  is_expr = n.is_expr;
  is = n.is ∙ ap among_of (m.is ∙ ap2 (λ (x : Expr) (ms : Members). member x q ms) (expr_stays old mid g one h).is e.is)
      ∙ sym (first_one q (expr_at old one) full) ∙ sym (ap (λ (x : Expr). with_one q x (expr_at old one)) is);
}
