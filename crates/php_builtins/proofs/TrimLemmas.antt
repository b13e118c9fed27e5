-- Stripping from the end, byte by byte.
use Rattle.std.proofs.Common.{◌≡◌, ℕ, Bool, true, false, ◌&&◌, if◌then◌else◌, List, [], ◌∷◌, ◌++◌, refl, ◌∙◌, ap}
use Rattle.std.specs.List.{list_all}
use Rattle.string_functions.specs.Trim.{is_stripped, right_trim_of}

all_strip : (xs : List ℕ) (b : ℕ) → is_stripped b ≡ true → list_all is_stripped (xs ++ b ∷ []) ≡ list_all is_stripped xs
all_strip [] b h = rw h refl
all_strip (x ∷ xs) b h = ap (λ (t : Bool). is_stripped x && t) (all_strip xs b h)

and_false : (b : Bool) → (b && false) ≡ false
and_false true = refl
and_false false = refl

all_keep : (xs : List ℕ) (b : ℕ) → is_stripped b ≡ false → list_all is_stripped (xs ++ b ∷ []) ≡ false
all_keep [] b h = rw h refl
all_keep (x ∷ xs) b h = ap (λ (t : Bool). is_stripped x && t) (all_keep xs b h) ∙ and_false (is_stripped x)

-- a byte at the end that is stripped
pub right_trim_strip : (xs : List ℕ) (b : ℕ) → is_stripped b ≡ true → right_trim_of (xs ++ b ∷ []) ≡ right_trim_of xs
right_trim_strip [] b h = ap (λ (t : Bool). if t then [] else b ∷ right_trim_of []) (all_strip [] b h)
right_trim_strip (x ∷ xs) b h =
    ap (λ (t : Bool). if t then [] else x ∷ right_trim_of (xs ++ b ∷ [])) (all_strip (x ∷ xs) b h)
    ∙ ap (λ (ys : List ℕ). if list_all is_stripped (x ∷ xs) then [] else x ∷ ys) (right_trim_strip xs b h)

-- a byte at the end that is not stripped
pub right_trim_keep : (xs : List ℕ) (b : ℕ) → is_stripped b ≡ false → right_trim_of (xs ++ b ∷ []) ≡ xs ++ b ∷ []
right_trim_keep [] b h = ap (λ (t : Bool). if t then [] else b ∷ right_trim_of []) (all_keep [] b h)
right_trim_keep (x ∷ xs) b h =
    ap (λ (t : Bool). if t then [] else x ∷ right_trim_of (xs ++ b ∷ [])) (all_keep (x ∷ xs) b h) ∙ ap (λ (ys : List ℕ). x ∷ ys) (right_trim_keep xs b h)
