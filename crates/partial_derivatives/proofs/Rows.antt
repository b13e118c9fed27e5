-- Numbers that have no expression, and what they leave.
use Rattle.std.proofs.Common.{◌≡◌, ℕ, Bool, true, false, List, [], ◌++◌, Option, Some, None, slice_get, refl, sym, ◌∙◌, ap, append-nil}
use Rattle.std.specs.Prelude.{IsTrue, ◌↔◌}
use Rattle.derivatives.specs.Expressions.{Expr, nothing}
use Rattle.derivatives.specs.Standing.{expr_at, IsExpr}
use Rattle.derivatives.specs.Nodes.{is_expr_at}
use Rattle.derivatives.specs.declared.arena.Arena.{Arena}
use Rattle.derivatives.specs.declared.node.Node.{Node}
use Rattle.derivatives.specs.declared.node.Node.TheVariants as node
use Rattle.partial_derivatives.specs.declared.part.Part.{Part}
use Rattle.partial_derivatives.specs.Parts.{behind}
use Rattle.partial_derivatives.proofs.Fits.{expr_by}

pub not_shown : {P : Type 0} (b : Bool) → b ≡ false → IsTrue b ↔ P → P → ⊥
not_shown true e h p = cc
not_shown false e h p = let t : false ≡ true = h.1 p in cc

-- a number that has no expression
pub no_expr_at : (a : Arena) (n : ℕ) → (IsExpr a n → ⊥) → expr_at a n ≡ nothing
no_expr_at a n h = at (slice_get a.nodes.keys n) refl
  where
    by : (x : Node) → slice_get a.nodes.keys n ≡ Some x → is_expr_at (Some x) ≡ true → expr_at a n ≡ nothing
    by x q e = absurd (h (ap is_expr_at q ∙ e))

    at : (o : Option Node) → slice_get a.nodes.keys n ≡ o → expr_at a n ≡ nothing
    at None q = expr_by a n None q
    at (Some node.NoMore) q = expr_by a n (Some node.NoMore) q
    at (Some (node.Member i r j)) q = expr_by a n (Some (node.Member i r j)) q
    at (Some node.Nothing) q = by node.Nothing q refl
    at (Some node.Empty) q = by node.Empty q refl
    at (Some (node.Range low high)) q = by (node.Range low high) q refl
    at (Some (node.Chain i j)) q = by (node.Chain i j) q refl
    at (Some (node.Either i j)) q = by (node.Either i j) q refl
    at (Some (node.Star i)) q = by (node.Star i) q refl
    at (Some (node.Among i)) q = by (node.Among i) q refl

pub none_behind : (a : Arena) (b n : ℕ) (rest : List Part) → expr_at a n ≡ nothing → behind a b (expr_at a n) n rest ≡ []
none_behind a b n rest e = ap (λ (z : Expr). behind a b z n rest) e

-- nothing more
pub none_put : (old xs : List (List Part)) → xs ≡ [] → old ≡ old ++ xs
none_put old xs e = sym (append-nil old) ∙ ap (λ (z : List (List Part)). old ++ z) (sym e)
