-- The first occurrence of a word, looked for from the left.
use Rattle.std.proofs.Common.{◌≡◌, ℕ, suc, ◌+◌, ◌<◌, List, [], ◌∷◌, ◌++◌, length, take, drop, get_or, refl, sym, ap, ◌∙◌, Option, Some, None, append_assoc, add-one}
use Rattle.std.proofs.Math.Seq.{take-suc, drop-cons}
use Rattle.page_model.specs.Scan.{strip, put_first, found_or, until}

abbrev pub behind_front : List ℕ → Option (List ℕ × List ℕ) → Option (List ℕ × List ℕ)
behind_front xs None = None
behind_front xs (Some s) = Some (xs ++ s.0, s.1)

put_behind : (xs : List ℕ) (c : ℕ) (o : Option (List ℕ × List ℕ)) → behind_front xs (put_first c o) ≡ behind_front (xs ++ c ∷ []) o
put_behind xs c None = refl
put_behind xs c (Some s) = ap (λ (ys : List ℕ). let z : List ℕ × List ℕ = (ys, s.1) in Some z) (sym (append_assoc xs (c ∷ []) s.0))

at_cons : (word cs : List ℕ) (i : ℕ) → i < length cs → until word (drop i cs) ≡ found_or (strip word (drop i cs)) (put_first (get_or cs i 0) (until word (drop (suc i) cs)))
at_cons word cs i lt =
    ap (until word) (drop-cons cs i 0 lt)
    ∙ ap (λ (ds : List ℕ). found_or (strip word ds) (put_first (get_or cs i 0) (until word (drop (suc i) cs)))) (sym (drop-cons cs i 0 lt))

pub not_here : (word cs : List ℕ) (i : ℕ) (o : Option (List ℕ × List ℕ)) → i < length cs → strip word (drop i cs) ≡ None → o ≡ behind_front (take i cs) (until word (drop i cs)) → o ≡ behind_front (take (i + 1) cs) (until word (drop (i + 1) cs))
not_here word cs i o lt none e =
    e ∙ ap (behind_front (take i cs)) (at_cons word cs i lt ∙ ap (λ (s : Option (List ℕ)). found_or s (put_first (get_or cs i 0) (until word (drop (suc i) cs)))) none)
    ∙ put_behind (take i cs) (get_or cs i 0) (until word (drop (suc i) cs))
    ∙ ap (λ (xs : List ℕ). behind_front xs (until word (drop (suc i) cs))) (sym (take-suc cs i 0 lt))
    ∙ ap (λ (n : ℕ). behind_front (take n cs) (until word (drop n cs))) (sym (add-one i))

append_none : (xs : List ℕ) → xs ++ [] ≡ xs
append_none [] = refl
append_none (x ∷ xs) = ap (λ (ys : List ℕ). x ∷ ys) (append_none xs)

pub here : (word cs rest : List ℕ) (i : ℕ) (o : Option (List ℕ × List ℕ)) → i < length cs → strip word (drop i cs) ≡ Some rest → o ≡ behind_front (take i cs) (until word (drop i cs)) → (let z : List ℕ × List ℕ = (take i cs, rest) in Some z ≡ o)
here word cs rest i o lt found e =
    sym (e ∙ ap (behind_front (take i cs)) (at_cons word cs i lt ∙ ap (λ (s : Option (List ℕ)). found_or s (put_first (get_or cs i 0) (until word (drop (suc i) cs)))) found)
    ∙ ap (λ (xs : List ℕ). let z : List ℕ × List ℕ = (xs, rest) in Some z) (append_none (take i cs)))

pub nowhere : (word cs : List ℕ) (i : ℕ) → length cs ≡ i → behind_front (take i cs) (until word (drop i cs)) ≡ None
nowhere word cs i e = ap (λ (n : ℕ). behind_front (take n cs) (until word (drop n cs))) (sym e) ∙ ap (λ (ds : List ℕ). behind_front (take (length cs) cs) (until word ds)) (drop_all cs)
  where
    drop_all : (xs : List ℕ) → drop (length xs) xs ≡ []
    drop_all [] = refl
    drop_all (x ∷ xs) = drop_all xs
