-- A text as letters in two parts.
use Rattle.std.proofs.Common.{◌≡◌, ℕ, List, [], ◌∷◌, ◌++◌, map, refl, ap}
use Rattle.text_base.specs.declared.letter.Letter.{Letter}
use Rattle.text_base.specs.declared.letter.Letter.TheVariants.{OfByte}

-- a text as letters that is put together of two
pub record Split (v w : List Letter) (t : List ℕ) : Type 0 where
  pub front : List ℕ
  pub behind : List ℕ
  pub is : t ≡ front ++ behind
  pub front_is : v ≡ map OfByte front
  pub behind_is : w ≡ map OfByte behind

pub split : (v w : List Letter) (t : List ℕ) → v ++ w ≡ map OfByte t → Split v w t
split [] w t e = record { front = []; behind = t; is = refl; front_is = refl; behind_is = e }
split (a ∷ v) w [] e = cc
split (a ∷ v) w (b ∷ t) e =
    let h : Split v w t = split v w t cc in
    record { front = b ∷ h.front; behind = h.behind; is = ap (λ z. b ∷ z) h.is; front_is = cc; behind_is = h.behind_is }
