-- How the search of the machine cuts a text: what is let go is part of no occurrence, and the pattern is whole just at an occurrence.
use Rattle.std.proofs.Common.{◌≡◌, ◌==◌, ◌≢◌, ℕ, zero, suc, ◌+◌, ◌-◌, ◌<◌, ◌≤◌, ◌⊎◌, inl, inr, Bool, true, false, List, [], ◌∷◌, ◌++◌, length, take, drop, map, nat_eq, cond, refl, sym, ◌∙◌, ap, subst, arith, append-nil, append_assoc}
use Rattle.std.proofs.lemmas.List.{take_all, drop_all, take-append-le, drop-append-le, take-take, take-append-drop, length-take-le, length-take, length-drop, length-append, map-append, take_at, nil_from_length}
use Rattle.std.proofs.lemmas.Bool.{cases_Bool, cases_eq, eq-eqb, ne_eqb, false_from_ne_true}
use Rattle.std.specs.List.{starts_with}
use Rattle.string_functions.specs.Pieces.{in_first, pieces_past, pieces_of, join_of, replaced_text}
use Rattle.string_functions.proofs.PiecesLaws.{starts_with-splits, pieces_of-occurrence, pieces_of-byte, pieces_past-cons, replaced_text-occurrence, replaced_text-byte}
use Rattle.fst_core.specs.declared.out.Out.{Out}
use Rattle.fst_core.specs.declared.out.Out.TheVariants.{Same, Byte}
use Rattle.string_ops.specs.Listed.{byte_of}
use Rattle.string_functions.specs.Failure.{next_length}
use Rattle.string_ops.specs.Search.{let_go, turn, turn_by}
use Rattle.string_functions.proofs.BorderLemmas.{Ends, IsNext, next_is}

-- no occurrence begins in the front, whatever of the rest it takes
abbrev pub NoneIn : List ℕ → List ℕ → List ℕ → Type 0
NoneIn p front rest = (i : ℕ) → i < length front → starts_with nat_eq (drop i front ++ rest) p ≡ false

none_head : (p : List ℕ) (b : ℕ) (front rest : List ℕ) → NoneIn p (b ∷ front) rest → starts_with nat_eq (b ∷ (front ++ rest)) p ≡ false
none_head p b front rest h = h 0 (omega arith)

none_tail : (p : List ℕ) (b : ℕ) (front rest : List ℕ) → NoneIn p (b ∷ front) rest → NoneIn p front rest
none_tail p b front rest h i l = h (suc i) (omega arith)

-- what begins no occurrence stays
pub replaced_front : (c : ℕ) (search with front rest : List ℕ) → NoneIn (c ∷ search) front rest → replaced_text (c ∷ search) with (front ++ rest) ≡ front ++ replaced_text (c ∷ search) with rest
replaced_front c search with [] rest h = refl
replaced_front c search with (b ∷ front) rest h =
    replaced_text-byte c search with b (front ++ rest) (none_head (c ∷ search) b front rest h)
    ∙ ap (λ (x : List ℕ). b ∷ x) (replaced_front c search with front rest (none_tail (c ∷ search) b front rest h))

-- the first of the pieces with a text before it
abbrev pub before_first : List ℕ → List (List ℕ) → List (List ℕ)
before_first front [] = []
before_first front (piece ∷ pieces) = (front ++ piece) ∷ pieces

pub pieces_front : (c : ℕ) (sep front rest : List ℕ) → NoneIn (c ∷ sep) front rest → pieces_of (c ∷ sep) (front ++ rest) ≡ before_first front (pieces_of (c ∷ sep) rest)
pieces_front c sep [] rest h =
    let r = pieces_past-cons (c ∷ sep) 0 rest in rw r.2 refl
pieces_front c sep (b ∷ front) rest h =
    let r = pieces_past-cons (c ∷ sep) 0 rest in
    pieces_of-byte c sep b (front ++ rest) (none_head (c ∷ sep) b front rest h)
    ∙ ap (in_first b) (pieces_front c sep front rest (none_tail (c ∷ sep) b front rest h) ∙ ap (before_first front) r.2) ∙ ap (before_first (b ∷ front)) (sym r.2)

-- no occurrence fits into less than the pattern
pub none_short : (p : List ℕ) (at : ℕ) → at < length p → NoneIn p (take at p) []
none_short p at h i l = false_from_ne_true (starts_with nat_eq (drop i (take at p) ++ []) p) (λ t.
    let e : drop i (take at p) ++ [] ≡ p ++ drop (length p) (drop i (take at p) ++ []) = starts_with-splits (drop i (take at p) ++ []) p t in
    let n : length (drop i (take at p) ++ []) ≡ length p + length (drop (length p) (drop i (take at p) ++ [])) = ap length e ∙ length-append p (drop (length p) (drop i (take at p) ++ [])) in
    let m : length (drop i (take at p) ++ []) ≡ length (drop i (take at p)) + 0 = length-append (drop i (take at p)) [] in
    omega (arith, n, m, length-drop i (take at p), length-take-le at p (omega arith)))

-- what is read after a byte: what is let go, and then the front that it ends in
abbrev pub gone : List ℕ → ℕ → ℕ → ℕ → List ℕ
gone p at byte part = take (at + 1 - part) (take at p ++ byte ∷ [])

pub read_splits : (p : List ℕ) (at byte part : ℕ) → Ends p at byte part → take at p ++ byte ∷ [] ≡ gone p at byte part ++ take part p
read_splits p at byte part e =
    sym (take-append-drop (at + 1 - part) (take at p ++ byte ∷ [])) ∙ ap (λ (x : List ℕ). gone p at byte part ++ x) (sym e)

length_read : (p : List ℕ) (at byte : ℕ) → at ≤ length p → length (take at p ++ byte ∷ []) ≡ at + 1
length_read p at byte h = length-append (take at p) (byte ∷ []) ∙ ap (λ (n : ℕ). n + 1) (length-take-le at p h)

-- in what is let go no occurrence begins, where the pattern is not whole
pub none_gone : (p : List ℕ) (at byte part : ℕ) (rest : List ℕ) → at < length p → IsNext p at byte part → part < length p → NoneIn p (gone p at byte part) (take part p ++ rest)
none_gone p at byte part rest h is less i l =
    let w = take at p ++ byte ∷ [] in
    let n : length w ≡ at + 1 = length_read p at byte (omega arith) in
    let front : length (gone p at byte part) ≡ at + 1 - part = length-take-le (at + 1 - part) w (omega arith) in
    let whole : drop i (gone p at byte part) ++ (take part p ++ rest) ≡ drop i w ++ rest =
    sym (append_assoc (drop i (gone p at byte part)) (take part p) rest)
    ∙ ap (λ (x : List ℕ). x ++ rest) (sym (drop-append-le i (gone p at byte part) (take part p) (omega arith)) ∙ ap (drop i) (sym (read_splits p at byte part is.ends))) in
    false_from_ne_true (starts_with nat_eq (drop i (gone p at byte part) ++ (take part p ++ rest)) p) (λ t.
    let s : starts_with nat_eq (drop i w ++ rest) p ≡ true = ap (λ (x : List ℕ). starts_with nat_eq x p) (sym whole) ∙ t in
    let e : drop i w ++ rest ≡ p ++ drop (length p) (drop i w ++ rest) = starts_with-splits (drop i w ++ rest) p s in
    let k : ℕ = at + 1 - i in
    let m : length (drop i w) ≡ k = length-drop i w ∙ ap (λ (x : ℕ). x - i) n in
    let low : k ≤ length p = omega arith in
    let a : take k (drop i w ++ rest) ≡ drop i w = take_at (drop i w) rest k m in
    let b : take k (p ++ drop (length p) (drop i w ++ rest)) ≡ take k p = take-append-le k p (drop (length p) (drop i w ++ rest)) low in
    let ends : Ends p at byte k =
    sym b ∙ ap (take k) (sym e) ∙ a ∙ ap (λ (x : ℕ). drop x w) (let z : i ≡ at + 1 - k = omega arith in z) in
    let most = is.longest k (omega arith) ends in
    omega (arith, most))

-- the pattern is whole just where the text read is the pattern
pub whole_read : (p : List ℕ) (at byte : ℕ) → at < length p → IsNext p at byte (length p) → take at p ++ byte ∷ [] ≡ p
whole_read p at byte h is =
    let w : length p ≤ at + 1 = is.within in
    let z : at + 1 - length p ≡ 0 = omega arith in
    sym (sym (take_all (length p) p (omega arith)) ∙ is.ends ∙ ap (λ (x : ℕ). drop x (take at p ++ byte ∷ [])) z)

bytes_put : (byte : ℕ) (xs : List ℕ) → map (byte_of byte) (map Byte xs) ≡ xs
bytes_put byte [] = refl
bytes_put byte (x ∷ xs) = ap (λ (y : List ℕ). x ∷ y) (bytes_put byte xs)

pub put_bytes : (byte : ℕ) (xs : List ℕ) → map (byte_of byte) (map Byte xs) ≡ xs
put_bytes byte xs = bytes_put byte xs

-- what the machine puts out is what is let go
pub put_gone : (p : List ℕ) (at byte part : ℕ) → at < length p → part ≤ at + 1 → map (byte_of byte) (let_go p at part) ≡ gone p at byte part
put_gone p at byte zero h w =
    map-append (byte_of byte) (map Byte (take at p)) (Same ∷ []) ∙ ap (λ (x : List ℕ). x ++ byte ∷ []) (bytes_put byte (take at p))
    ∙ sym (take_all (at + 1 - 0) (take at p ++ byte ∷ []) (omega (arith, length_read p at byte (omega arith))))
put_gone p at byte (suc part) h w =
    let k : at + 1 - suc part ≡ at - part = omega arith in
    let l : length (take at p) ≡ at = length-take-le at p (omega arith) in
    bytes_put byte (take (at - part) p)
    ∙ sym (ap (λ (x : ℕ). take x (take at p ++ byte ∷ [])) k ∙ take-append-le (at - part) (take at p) (byte ∷ []) (omega arith) ∙ take-take (at - part) at p (omega arith))
