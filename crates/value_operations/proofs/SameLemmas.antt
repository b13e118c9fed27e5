-- When the pairs of two arrays are the same.
use Rattle.std.proofs.Common.{◌≡◌, ℕ, zero, suc, ◌+◌, ◌<◌, List, [], ◌∷◌, ◌++◌, length, get_or, take, refl, sym, ◌∙◌, ap, arith}
use Rattle.std.proofs.lemmas.List.{take_more}
use Rattle.plain_values.specs.Plain.{Plain, PlainKey, Pairs, empty, pair, keys, weight, weight_of}
use Rattle.php_values.specs.View.{plain_of, plain_key, pairs_of}
use Rattle.php_values.specs.declared.key.Key.{Key}
use Rattle.php_values.specs.declared.array.Value.{Value}
use Rattle.php_values.proofs.Places.{length-keys}

pub same_length : (xs ys : List (Key × Value)) → pairs_of xs ≡ pairs_of ys → length xs ≡ length ys
same_length xs ys e = sym (length-keys xs) ∙ ap (λ (ps : Pairs). length (keys ps)) e ∙ length-keys ys

pub weight_at : (xs : List (Key × Value)) (i : ℕ) (d : Key × Value) → i < length xs → weight_of (plain_of (get_or xs i d).1) < weight (pairs_of xs)
weight_at [] i d h = absurd (omega arith)
weight_at (x ∷ xs) zero d h = omega arith
weight_at (x ∷ xs) (suc i) d h = omega (arith, weight_at xs i d (omega arith))

-- two pairs at one place
abbrev pub Alike : Key × Value → Key × Value → Type 0
Alike x y = (plain_key x.0 ≡ plain_key y.0) × (plain_of x.1 ≡ plain_of y.1)

same_key_first : {j k : PlainKey} {u v : Plain} {ps qs : Pairs} → pair j u ps ≡ pair k v qs → j ≡ k
same_key_first e = cc

same_value_first : {j k : PlainKey} {u v : Plain} {ps qs : Pairs} → pair j u ps ≡ pair k v qs → u ≡ v
same_value_first e = cc

same_rest : {j k : PlainKey} {u v : Plain} {ps qs : Pairs} → pair j u ps ≡ pair k v qs → ps ≡ qs
same_rest e = cc

pub alike_at : (xs ys : List (Key × Value)) (i : ℕ) (d e : Key × Value) → pairs_of xs ≡ pairs_of ys → i < length xs → Alike (get_or xs i d) (get_or ys i e)
alike_at [] ys i d e h g = absurd (omega arith)
alike_at (x ∷ xs) [] i d e h g = cc
alike_at (x ∷ xs) (y ∷ ys) zero d e h g = (same_key_first h, same_value_first h)
alike_at (x ∷ xs) (y ∷ ys) (suc i) d e h g = alike_at xs ys i d e (same_rest h) (omega arith)

abbrev behind : Pairs → PlainKey → Plain → Pairs
behind empty k v = pair k v empty
behind (pair j u ps) k v = pair j u (behind ps k v)

pairs-push : (xs : List (Key × Value)) (x : Key × Value) → pairs_of (xs ++ x ∷ []) ≡ behind (pairs_of xs) (plain_key x.0) (plain_of x.1)
pairs-push [] x = refl
pairs-push (y ∷ ys) x = ap (λ (ps : Pairs). pair (plain_key y.0) (plain_of y.1) ps) (pairs-push ys x)

pub alike_step : (xs ys : List (Key × Value)) (i : ℕ) (d e : Key × Value) → pairs_of (take i xs) ≡ pairs_of (take i ys) → i < length xs → i < length ys → Alike (get_or xs i d) (get_or ys i e) → pairs_of (take (i + 1) xs) ≡ pairs_of (take (i + 1) ys)
alike_step xs ys i d e h g f a =
    ap pairs_of (take_more xs i d g)
    ∙ pairs-push (take i xs) (get_or xs i d)
    ∙ ap (λ (ps : Pairs). behind ps (plain_key (get_or xs i d).0) (plain_of (get_or xs i d).1)) h
    ∙ ap (λ (k : PlainKey). behind (pairs_of (take i ys)) k (plain_of (get_or xs i d).1)) a.0
    ∙ ap (λ (v : Plain). behind (pairs_of (take i ys)) (plain_key (get_or ys i e).0) v) a.1
    ∙ sym (pairs-push (take i ys) (get_or ys i e))
    ∙ ap pairs_of (sym (take_more ys i e f))
