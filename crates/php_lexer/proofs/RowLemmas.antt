-- Rows of items in a loop over their places: what was read so far, and the row that is left.
use Rattle.std.proofs.Common.{◌≡◌, ◌∙◌, ℕ, zero, suc, ◌+◌, ◌<◌, ◌≤◌, List, [], ◌∷◌, ◌++◌, length, drop, refl, sym, ap, arith, append_assoc, add_assoc, zero-add}
use Rattle.std.proofs.lemmas.List.{append-nil, length-drop, drop-drop}
use Rattle.lexical_grammar.specs.Rows.{Found, item, wrong, over, missing, Row, whole, broken, endless, then_row, row}

-- items of so many bytes before a row
abbrev pub ahead : {X : Type 0} → List X → ℕ → Row X → Row X
ahead xs n (whole ys m) = whole (xs ++ ys) (n + m)
ahead xs n (broken m) = broken (n + m)
ahead xs n endless = endless

-- a place that is wrong, so many bytes on, before a row
abbrev pub spoiled : {X : Type 0} → ℕ → Row X → Row X
spoiled n (whole ys m) = broken n
spoiled n (broken m) = broken n
spoiled n endless = endless

ahead_none : {X : Type 0} (r : Row X) → r ≡ ahead [] 0 r
ahead_none (whole ys m) = ap (whole ys) (sym (zero-add m))
ahead_none (broken m) = ap broken (sym (zero-add m))
ahead_none endless = refl

pub row_begins : {X : Type 0} (find : List ℕ → Found X) (bytes : List ℕ) → row find 0 bytes ≡ ahead [] 0 (row find 0 (drop 0 bytes))
row_begins find bytes = ahead_none (row find 0 bytes)

row_passes : {X : Type 0} (find : List ℕ → Found X) (k : ℕ) (bytes : List ℕ) → row find k bytes ≡ row find 0 (drop k bytes)
unfolding row
row_passes find zero bytes = refl
row_passes find (suc k) [] = refl
row_passes find (suc k) (b ∷ bytes) = row_passes find k bytes

-- the row at a place, by what is found there
pub row_at_item : {X : Type 0} (find : List ℕ → Found X) (bytes : List ℕ) (x : X) (k : ℕ) → find bytes ≡ item x k → 0 < k → 0 < length bytes → row find 0 bytes ≡ then_row (item x k) (row find 0 (drop k bytes))
unfolding row
row_at_item find [] x k e p h = absurd (omega arith)
row_at_item find (b ∷ bytes) x zero e p h = absurd (omega arith)
row_at_item find (b ∷ bytes) x (suc k) e p h = rw e (ap (then_row (item x (suc k))) (row_passes find k bytes))

pub row_at_wrong : {X : Type 0} (find : List ℕ → Found X) (bytes : List ℕ) (k : ℕ) → find bytes ≡ wrong k → 0 < k → 0 < length bytes → row find 0 bytes ≡ then_row (wrong k) (row find 0 (drop k bytes))
unfolding row
row_at_wrong find [] k e p h = absurd (omega arith)
row_at_wrong find (b ∷ bytes) zero e p h = absurd (omega arith)
row_at_wrong find (b ∷ bytes) (suc k) e p h = rw e (ap (then_row (wrong (suc k))) (row_passes find k bytes))

pub row_at_over : {X : Type 0} (find : List ℕ → Found X) (bytes : List ℕ) (k : ℕ) → find bytes ≡ over k → row find 0 bytes ≡ whole [] k
unfolding row
row_at_over find [] k e = rw e refl
row_at_over find (b ∷ bytes) k e = rw e refl

pub row_at_missing : {X : Type 0} (find : List ℕ → Found X) (bytes : List ℕ) → find bytes ≡ missing → row find 0 bytes ≡ endless
unfolding row
row_at_missing find [] e = rw e refl
row_at_missing find (b ∷ bytes) e = rw e refl

ahead_item : {X : Type 0} (xs : List X) (n : ℕ) (x : X) (k : ℕ) (r : Row X) → ahead xs n (then_row (item x k) r) ≡ ahead (xs ++ x ∷ []) (n + k) r
ahead_item xs n x k (whole ys m) = ap (λ zs. whole zs (n + (k + m))) (sym (append_assoc xs (x ∷ []) ys)) ∙ ap (whole ((xs ++ x ∷ []) ++ ys)) (sym (add_assoc n k m))
ahead_item xs n x k (broken m) = ap broken (sym (add_assoc n k m))
ahead_item xs n x k endless = refl

ahead_wrong : {X : Type 0} (xs : List X) (n k : ℕ) (r : Row X) → ahead xs n (then_row (wrong k) r) ≡ spoiled n r
ahead_wrong xs n k (whole ys m) = ap broken (omega arith)
ahead_wrong xs n k (broken m) = ap broken (omega arith)
ahead_wrong xs n k endless = refl

-- a loop's place gives an item
pub row_item : {X : Type 0} (find : List ℕ → Found X) (bytes : List ℕ) (xs ys : List X) (n : ℕ) (x : X) (k : ℕ) (here : List ℕ)
    → row find 0 bytes ≡ ahead xs n (row find 0 (drop n bytes)) → n < length bytes → here ≡ drop n bytes → item x k ≡ find here → 0 < k → ys ≡ xs ++ x ∷ []
    → row find 0 bytes ≡ ahead ys (n + k) (row find 0 (drop (n + k) bytes))
row_item find bytes xs ys n x k here so_far h at e p pushed =
    let e' : find (drop n bytes) ≡ item x k = ap find (sym at) ∙ sym e
    in so_far ∙ ap (ahead xs n) (row_at_item find (drop n bytes) x k e' p (omega (arith, length-drop n bytes))) ∙ ahead_item xs n x k (row find 0 (drop k (drop n bytes)))
    ∙ ap (λ zs. ahead zs (n + k) (row find 0 (drop k (drop n bytes)))) (sym pushed) ∙ ap (λ bs. ahead ys (n + k) (row find 0 bs)) (drop-drop k n bytes)

-- a loop's place is wrong
pub row_wrong : {X : Type 0} (find : List ℕ → Found X) (bytes : List ℕ) (xs : List X) (n k : ℕ) (here : List ℕ)
    → row find 0 bytes ≡ ahead xs n (row find 0 (drop n bytes)) → n < length bytes → here ≡ drop n bytes → wrong k ≡ find here → 0 < k
    → row find 0 bytes ≡ spoiled n (row find 0 (drop (n + k) bytes))
row_wrong find bytes xs n k here so_far h at e p =
    let e' : find (drop n bytes) ≡ wrong k = ap find (sym at) ∙ sym e
    in so_far ∙ ap (ahead xs n) (row_at_wrong find (drop n bytes) k e' p (omega (arith, length-drop n bytes))) ∙ ahead_wrong xs n k (row find 0 (drop k (drop n bytes))) ∙ ap (λ bs. spoiled n (row find 0 bs)) (drop-drop k n bytes)

-- a loop's place is the end
pub row_over : {X : Type 0} (find : List ℕ → Found X) (bytes : List ℕ) (xs : List X) (n k : ℕ) (here : List ℕ)
    → row find 0 bytes ≡ ahead xs n (row find 0 (drop n bytes)) → here ≡ drop n bytes → over k ≡ find here → whole xs (n + k) ≡ row find 0 bytes
row_over find bytes xs n k here so_far at e =
    let e' : find (drop n bytes) ≡ over k = ap find (sym at) ∙ sym e
    in sym (so_far ∙ ap (ahead xs n) (row_at_over find (drop n bytes) k e') ∙ ap (λ ys. whole ys (n + k)) (append-nil xs))

-- the bytes end before the row does
pub row_missing : {X : Type 0} (find : List ℕ → Found X) (bytes : List ℕ) (xs : List X) (n : ℕ) (here : List ℕ)
    → row find 0 bytes ≡ ahead xs n (row find 0 (drop n bytes)) → here ≡ drop n bytes → missing ≡ find here → endless ≡ row find 0 bytes
row_missing find bytes xs n here so_far at e =
    let e' : find (drop n bytes) ≡ missing = ap find (sym at) ∙ sym e
    in sym (so_far ∙ ap (ahead xs n) (row_at_missing find (drop n bytes) e'))

pub drop_past : (bytes : List ℕ) (n : ℕ) → length bytes ≤ n → [] ≡ drop n bytes
drop_past [] zero h = refl
drop_past [] (suc n) h = refl
drop_past (b ∷ bytes) zero h = absurd (omega arith)
drop_past (b ∷ bytes) (suc n) h = drop_past bytes n (omega arith)

-- no byte is left, and the row needs an end
pub row_cut_off : {X : Type 0} (find : List ℕ → Found X) (bytes : List ℕ) (xs : List X) (n : ℕ)
    → row find 0 bytes ≡ ahead xs n (row find 0 (drop n bytes)) → length bytes ≤ n → missing ≡ find [] → endless ≡ row find 0 bytes
row_cut_off find bytes xs n so_far h e = row_missing find bytes xs n [] so_far (drop_past bytes n h) e
