-- The number that digits stand for does not fall with a further digit.
use Rattle.std.proofs.Common.{◌≡◌, ◌∙◌, ℕ, ◌+◌, ◌-◌, ◌*◌, ◌<◌, ◌≤◌, List, [], ◌∷◌, length, get_or, take, drop, sym, ap, arith}
use Rattle.std.specs.List.{fold}
use Rattle.std.proofs.lemmas.Grind.{fold-append}
use Rattle.std.proofs.lemmas.List.{take-append-drop, take_more}
use Rattle.lexical_grammar.specs.Characters.{value_of}

fold_grows : (n : ℕ) (digits : List ℕ) → n ≤ fold (λ n d. 10 * n + (d - 48)) n digits
fold_grows n [] = omega arith
fold_grows n (d ∷ digits) = omega (arith, fold_grows (10 * n + (d - 48)) digits)

pub value_of_take : (i : ℕ) (digits : List ℕ) → value_of (take i digits) ≤ value_of digits
value_of_take i digits =
    let e : value_of digits ≡ fold (λ n d. 10 * n + (d - 48)) (value_of (take i digits)) (drop i digits) = ap value_of (sym (take-append-drop i digits)) ∙ fold-append (λ n d. 10 * n + (d - 48)) 0 (take i digits) (drop i digits)
    in omega (arith, e, fold_grows (value_of (take i digits)) (drop i digits))

-- one digit more
pub value_of_more : (digits : List ℕ) (i : ℕ) → i < length digits → value_of (take (i + 1) digits) ≡ 10 * value_of (take i digits) + (get_or digits i 0 - 48)
value_of_more digits i h = rw (take_more digits i 0 h) (fold-append (λ n d. 10 * n + (d - 48)) 0 (take i digits) (get_or digits i 0 ∷ []))
