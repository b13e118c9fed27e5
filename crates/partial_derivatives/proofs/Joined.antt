-- Texts that are joined, and rows of which one matches.
use Rattle.std.proofs.Common.{◌≡◌, ◌⊎◌, inl, inr, ℕ, List, [], ◌∷◌, ◌++◌, refl}
use Rattle.derivatives.specs.Expressions.{Joins, at_once, on}
use Rattle.derivatives.specs.declared.arena.Arena.{Arena}
use Rattle.partial_derivatives.specs.declared.part.Part.{Part}
use Rattle.partial_derivatives.specs.Laws.{OneMatches}

pub assoc : {u v w x y : List ℕ} → Joins u v w → Joins x y v → (z : List ℕ) × Joins u x z × Joins z y w
assoc {x = x} at_once k = (x, at_once, k)
assoc (on {b = b} j) k = let t = assoc j k in (b ∷ t.0, on t.1, on t.2)

pub assoc_back : {u v w x y : List ℕ} → Joins u v w → Joins x y u → (z : List ℕ) × Joins y v z × Joins x z w
assoc_back {w = w} j at_once = (w, j, at_once)
assoc_back (on {b = b} j) (on k) = let t = assoc_back j k in (t.0, t.1, on t.2)

pub nothing_before : {v w : List ℕ} → Joins [] v w → v ≡ w
nothing_before at_once = refl

pub one_left : (a : Arena) (rs ss : List (List Part)) (w : List ℕ) → OneMatches a rs w → OneMatches a (rs ++ ss) w
one_left a [] ss w k = absurd k
one_left a (r ∷ rs) ss w (inl d) = inl d
one_left a (r ∷ rs) ss w (inr k) = inr (one_left a rs ss w k)

pub one_right : (a : Arena) (rs ss : List (List Part)) (w : List ℕ) → OneMatches a ss w → OneMatches a (rs ++ ss) w
one_right a [] ss w k = k
one_right a (r ∷ rs) ss w k = inr (one_right a rs ss w k)

pub one_of : (a : Arena) (rs ss : List (List Part)) (w : List ℕ) → OneMatches a (rs ++ ss) w → OneMatches a rs w ⊎ OneMatches a ss w
one_of a [] ss w k = inr k
one_of a (r ∷ rs) ss w (inl d) = inl (inl d)
one_of a (r ∷ rs) ss w (inr k) = later (one_of a rs ss w k)
  where
    later : OneMatches a rs w ⊎ OneMatches a ss w → OneMatches a (r ∷ rs) w ⊎ OneMatches a ss w
    later (inl x) = inl (inr x)
    later (inr y) = inr y
