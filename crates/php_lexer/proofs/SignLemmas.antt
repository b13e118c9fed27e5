-- The first sign that fits, in a loop over the signs.
use Rattle.std.proofs.Common.{◌≡◌, ℕ, zero, suc, ◌+◌, ◌<◌, ◌≤◌, cond, List, [], ◌∷◌, length, get_or, drop, refl, arith, add-one, None}
use Rattle.php_syntax.specs.declared.token.Sign.{Sign}
use Rattle.php_syntax.specs.Tokens.{sign}
use Rattle.lexical_grammar.specs.Characters.{begins}
use Rattle.lexical_grammar.specs.Steps.{gives}
use Rattle.php_syntax.specs.Spelling.{spelling_of}
use Rattle.lexical_grammar.specs.Signs.{first_sign}

first_sign_at : (signs : List Sign) (bytes : List ℕ) (i : ℕ) (d : Sign) → i < length signs
    → first_sign (drop i signs) bytes ≡ cond (begins (spelling_of (get_or signs i d)) bytes) (gives (sign (get_or signs i d)) (length (spelling_of (get_or signs i d)))) (first_sign (drop (suc i) signs) bytes)
first_sign_at [] bytes i d h = absurd (omega arith)
first_sign_at (x ∷ xs) bytes zero d h = refl
first_sign_at (x ∷ xs) bytes (suc i) d h = first_sign_at xs bytes i d (omega arith)

-- what the sign at a place decides
pub first_sign_drop : (signs : List Sign) (bytes : List ℕ) (i : ℕ) (d : Sign) → i < length signs
    → first_sign (drop i signs) bytes ≡ cond (begins (spelling_of (get_or signs i d)) bytes) (gives (sign (get_or signs i d)) (length (spelling_of (get_or signs i d)))) (first_sign (drop (i + 1) signs) bytes)
first_sign_drop signs bytes i d h = rw add-one (first_sign_at signs bytes i d h)

pub first_sign_end : (signs : List Sign) (bytes : List ℕ) (i : ℕ) → length signs ≤ i → first_sign (drop i signs) bytes ≡ None
first_sign_end [] bytes zero h = refl
first_sign_end [] bytes (suc i) h = refl
first_sign_end (x ∷ xs) bytes zero h = absurd (omega arith)
first_sign_end (x ∷ xs) bytes (suc i) h = first_sign_end xs bytes i (omega arith)
