-- What is left of a row from a place on.
use Rattle.std.proofs.Common.{◌≡◌, ◌∙◌, ℕ, drop, ◌≤◌, ◌+◌, ◌<◌, List, [], ◌∷◌, length, get_or, sym, ap}
use Rattle.std.proofs.lemmas.List.{drop_more, drop_all}

pub drop_here : {X : Type 0} (xs : List X) (i : ℕ) (x : X) → i < length xs → x ≡ get_or xs i x → drop i xs ≡ x ∷ drop (i + 1) xs
drop_here xs i x lt is = drop_more xs i x lt ∙ ap (λ z. z ∷ drop (i + 1) xs) (sym is)

pub drop_past : {X : Type 0} (xs : List X) (i : ℕ) → length xs ≤ i → drop i xs ≡ []
drop_past xs i le = drop_all i xs le
