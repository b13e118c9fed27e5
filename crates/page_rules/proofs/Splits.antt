-- Where a class of characters ends.
use Rattle.std.proofs.Common.{◌≡◌, ℕ, zero, suc, ◌+◌, ◌-◌, ◌<◌, ◌≤◌, Bool, true, false, not, List, [], ◌∷◌, ◌++◌, length, take, drop, get_or, refl, sym, ap, ◌∙◌, subst, add-one, arith, Option, None}
use Rattle.std.specs.List.{list_all}
use Rattle.std.proofs.Math.Seq.{take-suc, drop-cons, take-length}
use Rattle.std.proofs.lemmas.List.{take-append-drop, length-drop}
use Rattle.page_model.specs.Scan.{front, beyond, strip, Stops}
use Rattle.page_model.proofs.ScanLemmas.{split_at, SplitAt}

at_place : (test : ℕ → Bool) (cs : List ℕ) (i : ℕ) → i < length cs → list_all test (take i cs) ≡ true → test (get_or cs i 0) ≡ false → SplitAt test cs (take i cs) (drop i cs)
at_place test cs i lt all one =
    subst (λ (xs : List ℕ). SplitAt test xs (take i cs) (drop i cs)) (take-append-drop i cs) (split_at test (take i cs) (drop i cs) all (subst (Stops test) (sym (drop-cons cs i 0 lt)) one))

pub front_here : (test : ℕ → Bool) (cs : List ℕ) (i : ℕ) → i < length cs → list_all test (take i cs) ≡ true → test (get_or cs i 0) ≡ false → take i cs ≡ front test cs
front_here test cs i lt all one = sym (at_place test cs i lt all one).front_is

pub beyond_here : (test : ℕ → Bool) (cs : List ℕ) (i : ℕ) → i < length cs → list_all test (take i cs) ≡ true → test (get_or cs i 0) ≡ false → drop i cs ≡ beyond test cs
beyond_here test cs i lt all one = sym (at_place test cs i lt all one).beyond_is

append_none : (xs : List ℕ) → xs ++ [] ≡ xs
append_none [] = refl
append_none (x ∷ xs) = ap (λ (ys : List ℕ). x ∷ ys) (append_none xs)

at_end : (test : ℕ → Bool) (cs : List ℕ) → list_all test cs ≡ true → SplitAt test cs cs []
at_end test cs all = subst (λ (xs : List ℕ). SplitAt test xs cs []) (append_none cs) (split_at test cs [] all tt)

take_all : (cs : List ℕ) (i : ℕ) → length cs ≤ i → take i cs ≡ cs
take_all [] zero l = refl
take_all [] (suc i) l = refl
take_all (c ∷ cs) zero l = absurd (omega arith)
take_all (c ∷ cs) (suc i) l = ap (λ (xs : List ℕ). c ∷ xs) (take_all cs i (omega arith))

drop_all : (xs : List ℕ) → drop (length xs) xs ≡ []
drop_all [] = refl
drop_all (x ∷ xs) = drop_all xs

pub front_end : (test : ℕ → Bool) (cs : List ℕ) (i : ℕ) → length cs ≤ i → list_all test (take i cs) ≡ true → cs ≡ front test cs
front_end test cs i l all = sym (at_end test cs (subst (λ (xs : List ℕ). list_all test xs ≡ true) (take_all cs i l) all)).front_is

pub beyond_end : (test : ℕ → Bool) (cs : List ℕ) (i : ℕ) → length cs ≤ i → list_all test (take i cs) ≡ true → drop (length cs) cs ≡ beyond test cs
beyond_end test cs i l all = drop_all cs ∙ sym (at_end test cs (subst (λ (xs : List ℕ). list_all test xs ≡ true) (take_all cs i l) all)).beyond_is

-- a slice to the end is what stands behind its beginning
pub to_end : (n : ℕ) (xs : List ℕ) → take (length xs - n) (drop n xs) ≡ drop n xs
to_end n xs = ap (λ (k : ℕ). take k (drop n xs)) (sym (length-drop n xs)) ∙ take-length (drop n xs)

-- a word that goes on does not stand at the end
pub strip_short : (word rest : List ℕ) (i : ℕ) (o : Option (List ℕ)) → i < length word → length rest ≡ 0 → strip (drop i word) rest ≡ o → None ≡ o
strip_short word [] i o lt short e = sym (ap (λ (w : List ℕ). strip w []) (drop-cons word i 0 lt)) ∙ e
strip_short word (c ∷ rest) i o lt short e = absurd (omega arith)
