-- One character at the head of a text.
use Rattle.std.proofs.Common.{◌≡◌, ℕ, Bool, true, false, ◌&&◌, List, ◌∷◌, ap, ◌∙◌}
use Rattle.std.specs.List.{list_all}

pub first_fails : (p : ℕ → Bool) (all rest : List ℕ) (c : ℕ) → all ≡ c ∷ rest → p c ≡ false → list_all p all ≡ false
first_fails p all rest c e h = ap (list_all p) e ∙ ap (λ (b : Bool). b && list_all p rest) h

pub first_passes : (p : ℕ → Bool) (all rest : List ℕ) (c : ℕ) → all ≡ c ∷ rest → p c ≡ true → list_all p all ≡ list_all p rest
first_passes p all rest c e h = ap (list_all p) e ∙ ap (λ (b : Bool). b && list_all p rest) h
