-- The text forms of some values in turn.
use Rattle.std.proofs.Common.{◌≡◌, ℕ, zero, suc, ◌+◌, ◌<◌, ◌≤◌, List, [], ◌∷◌, ◌++◌, length, get_or, take, Bool, true, false, if◌then◌else◌, nat_le, not, ◌==◌, Ok, Err, refl, sym, ◌∙◌, ap, append_assoc, append-nil, length-append, arith}
use Rattle.std.proofs.lemmas.Bool.Decides.{nat_tests}
use Rattle.std.proofs.lemmas.List.{take_more}
use Rattle.plain_values.specs.Plain.{text}
use Rattle.plain_values.specs.Text.{text_of, pairs_truth}
use Rattle.plain_values.specs.Members.{within_length}
use Rattle.plain_values.specs.declared.fault.Fault.TheVariants.{Long}
use Rattle.php_values.specs.View.{plain_of, pairs_of}
use Rattle.php_values.specs.declared.key.Key.{Key}
use Rattle.php_values.specs.declared.array.Value.{Value}
use Rattle.value_operations.specs.Joined.{joined}

joined-push : (xs : List Value) (x : Value) → joined (xs ++ x ∷ []) ≡ joined xs ++ text_of (plain_of x)
joined-push [] x = append-nil (text_of (plain_of x))
joined-push (y ∷ ys) x = ap (λ (bs : List ℕ). text_of (plain_of y) ++ bs) (joined-push ys x) ∙ sym (append_assoc (text_of (plain_of y)) (joined ys) (text_of (plain_of x)))

-- one value more
pub joined_more : (xs : List Value) (i : ℕ) (d : Value) → i < length xs → joined (take (i + 1) xs) ≡ joined (take i xs) ++ text_of (plain_of (get_or xs i d))
joined_more xs i d h = ap joined (take_more xs i d h) ∙ joined-push (take i xs) (get_or xs i d)

pub joined_longer : (xs : List Value) (i : ℕ) (d : Value) → i < length xs → length (joined (take (i + 1) xs)) ≡ length (joined (take i xs)) + length (text_of (plain_of (get_or xs i d)))
joined_longer xs i d h = ap length (joined_more xs i d h) ∙ length-append (joined (take i xs)) (text_of (plain_of (get_or xs i d)))

-- some of the values are no longer than all
pub joined_front : (xs : List Value) (i : ℕ) → length (joined (take i xs)) ≤ length (joined xs)
joined_front [] zero = omega arith
joined_front [] (suc i) = omega arith
joined_front (x ∷ xs) zero = omega arith
joined_front (x ∷ xs) (suc i) = omega (arith, length-append (text_of (plain_of x)) (joined (take i xs)), length-append (text_of (plain_of x)) (joined xs), joined_front xs i)

pub too_long : (bytes : List ℕ) → 16777216 < length bytes → within_length bytes ≡ Err Long
too_long bytes h = by (nat_le (length bytes) 16777216) refl
  where
    by : (b : Bool) → nat_le (length bytes) 16777216 ≡ b → (if b then Ok (text bytes) else Err Long) ≡ Err Long
    by true e = absurd (grind (arith, nat_tests, h))
    by false e = refl

-- an array is true where it has pairs
pub truth_of_pairs : (xs : List (Key × Value)) → not (length xs == 0) ≡ pairs_truth (pairs_of xs)
truth_of_pairs [] = refl
truth_of_pairs (x ∷ xs) = grind (arith, nat_tests)
