-- The pairs that a walk has left.
use Rattle.std.proofs.Common.{◌≡◌, ℕ, zero, suc, ◌+◌, ◌<◌, ◌≤◌, List, [], ◌∷◌, length, get_or, refl, ◌∙◌, ap, arith}
use Rattle.plain_values.specs.Plain.{empty, pair}
use Rattle.plain_values.specs.Walks.{behind}
use Rattle.php_values.specs.View.{plain_of, plain_key, pairs_of}
use Rattle.php_values.specs.declared.key.Key.{Key}
use Rattle.php_values.specs.declared.array.Value.{Value}

pub behind_all : (xs : List (Key × Value)) (n : ℕ) → length xs ≤ n → behind n (pairs_of xs) ≡ empty
behind_all [] zero h = refl
behind_all [] (suc n) h = refl
behind_all (x ∷ xs) zero h = absurd (omega arith)
behind_all (x ∷ xs) (suc n) h = behind_all xs n (omega arith)

next_by_suc : (xs : List (Key × Value)) (n : ℕ) (d : Key × Value) → n < length xs → behind n (pairs_of xs) ≡ pair (plain_key (get_or xs n d).0) (plain_of (get_or xs n d).1) (behind (suc n) (pairs_of xs))
next_by_suc [] n d h = absurd (omega arith)
next_by_suc (x ∷ xs) zero d h = refl
next_by_suc (x ∷ xs) (suc n) d h = next_by_suc xs n d (omega arith)

pub behind_next : (xs : List (Key × Value)) (n : ℕ) (d : Key × Value) → n < length xs → behind n (pairs_of xs) ≡ pair (plain_key (get_or xs n d).0) (plain_of (get_or xs n d).1) (behind (n + 1) (pairs_of xs))
behind_next xs n d h =
    let more : suc n ≡ n + 1 = omega arith in
    next_by_suc xs n d h ∙ ap (λ (m : ℕ). pair (plain_key (get_or xs n d).0) (plain_of (get_or xs n d).1) (behind m (pairs_of xs))) more
