-- The parts of a node stand for the parts of its expression.
use Rattle.std.proofs.Common.{◌≡◌, ℕ, Option, Some, None, slice_get, refl, sym, ◌∙◌, ap, subst}
use Rattle.std.specs.Prelude.{⊤}
use Rattle.derivatives.specs.Expressions.{Expr, nothing, empty, range, chain, either, star, among, Members, none, member}
use Rattle.derivatives.specs.Standing.{expr_of, members_of, expr_within, members_within, expr_at, members_at}
use Rattle.derivatives.specs.declared.arena.Arena.{Arena}
use Rattle.derivatives.specs.declared.node.Node.{Node}
use Rattle.derivatives.specs.declared.node.Node.TheVariants as node
use Rattle.derivatives.proofs.NodeLemmas.{expr_shown, members_shown}
use Rattle.partial_derivatives.specs.Parts.{first_of, second_of}

abbrev pub Fit : Arena → Expr → Option Node → Type 0
Fit a nothing o = ⊤
Fit a empty o = ⊤
Fit a (range low high) o = ⊤
Fit a (chain x y) o = (expr_at a (first_of o) ≡ x) × (expr_at a (second_of o) ≡ y)
Fit a (either x y) o = (expr_at a (first_of o) ≡ x) × (expr_at a (second_of o) ≡ y)
Fit a (star x) o = expr_at a (first_of o) ≡ x
Fit a (among ms) o = members_at a (first_of o) ≡ ms

abbrev pub FitList : Arena → Members → Option Node → Type 0
FitList a none o = ⊤
FitList a (member e q ms) o = (expr_at a (first_of o) ≡ e) × (members_at a (second_of o) ≡ ms)

fits : (a : Arena) (o : Option Node) → Fit a (expr_of (expr_at a) (members_at a) o) o
fits a (Some node.Nothing) = tt
fits a (Some node.Empty) = tt
fits a (Some (node.Range low high)) = tt
fits a (Some (node.Chain i j)) = (refl, refl)
fits a (Some (node.Either i j)) = (refl, refl)
fits a (Some (node.Star i)) = refl
fits a (Some (node.Among i)) = refl
fits a (Some node.NoMore) = tt
fits a (Some (node.Member i q j)) = tt
fits a None = tt

lists : (a : Arena) (o : Option Node) → FitList a (members_of (expr_at a) (members_at a) o) o
lists a (Some (node.Member i q j)) = (refl, refl)
lists a (Some node.Nothing) = tt
lists a (Some node.Empty) = tt
lists a (Some (node.Range low high)) = tt
lists a (Some (node.Chain i j)) = tt
lists a (Some (node.Either i j)) = tt
lists a (Some (node.Star i)) = tt
lists a (Some (node.Among i)) = tt
lists a (Some node.NoMore) = tt
lists a None = tt

no_expr : (a : Arena) (n : ℕ) → slice_get a.nodes.keys n ≡ None → expr_at a n ≡ nothing
unfolding expr_at
no_expr a n q = ap (expr_of (expr_within a.nodes.keys n) (members_within a.nodes.keys n)) q

no_list : (a : Arena) (n : ℕ) → slice_get a.nodes.keys n ≡ None → members_at a n ≡ none
unfolding members_at
no_list a n q = ap (members_of (expr_within a.nodes.keys n) (members_within a.nodes.keys n)) q

pub expr_by : (a : Arena) (n : ℕ) (o : Option Node) → slice_get a.nodes.keys n ≡ o → expr_at a n ≡ expr_of (expr_at a) (members_at a) o
expr_by a n (Some x) q = expr_shown a n x q
expr_by a n None q = no_expr a n q

list_by : (a : Arena) (n : ℕ) (o : Option Node) → slice_get a.nodes.keys n ≡ o → members_at a n ≡ members_of (expr_at a) (members_at a) o
list_by a n (Some x) q = members_shown a n x q
list_by a n None q = no_list a n q

pub fit_at : (a : Arena) (n : ℕ) (e : Expr) → expr_at a n ≡ e → Fit a e (slice_get a.nodes.keys n)
fit_at a n e h = subst (λ (z : Expr). Fit a z (slice_get a.nodes.keys n)) (sym (expr_by a n (slice_get a.nodes.keys n) refl) ∙ h) (fits a (slice_get a.nodes.keys n))

pub fit_list : (a : Arena) (n : ℕ) (ms : Members) → members_at a n ≡ ms → FitList a ms (slice_get a.nodes.keys n)
fit_list a n ms h = subst (λ (z : Members). FitList a z (slice_get a.nodes.keys n)) (sym (list_by a n (slice_get a.nodes.keys n) refl) ∙ h) (lists a (slice_get a.nodes.keys n))
