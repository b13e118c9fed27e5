-- Lengths, bytes and parts of what is joined and replaced.
use Rattle.std.proofs.Common.{◌≡◌, ℕ, ◌+◌, ◌-◌, ◌*◌, ◌⊎◌, List, [], ◌∷◌, ◌++◌, length, sym, ◌∙◌, ap, subst, inl, inr, arith}
use Rattle.std.specs.List.{Contains, sum_by}
use Rattle.std.proofs.lemmas.List.{append_assoc, append-nil, length-append}
use Rattle.std.proofs.lemmas.List.Elements.{Contains-append_cases, Contains-append_left, Contains-append_right}
use Rattle.std.proofs.lemmas.List.Sums.{sum_by-cons}
use Rattle.string_functions.specs.Pieces.{pieces_of, join_of, replaced_text, occurrences_of}
use Rattle.string_functions.specs.Cut.{IsFactor}
use Rattle.string_functions.proofs.Members.{Contains-nil, Contains-cons_cases, Contains-head, Contains-later}
use Rattle.string_functions.proofs.PiecesLaws.{pieces_past-cons, join_of-pieces_of}

-- the length of a join: one separator less than there are texts
pub length-join_of : (sep first : List ℕ) (others : List (List ℕ)) → length (join_of sep (first ∷ others)) ≡ sum_by (λ text. length text) (first ∷ others) + length others * length sep
length-join_of sep first [] = omega arith
length-join_of sep first (next ∷ others) =
    let again = length-join_of sep next others in
    let sum : sum_by (λ (text : List ℕ). length text) (first ∷ next ∷ others) ≡ length first + sum_by (λ (text : List ℕ). length text) (next ∷ others) = sum_by-cons (λ (text : List ℕ). length text) first (next ∷ others) in
    let whole : length (first ++ (sep ++ join_of sep (next ∷ others))) ≡ length first + (length sep + length (join_of sep (next ∷ others))) = simp length-append in
    omega (arith, whole, sum, again)

-- a byte of a join is one of the separator or of one of the texts
pub Contains-join_of_cases : (sep : List ℕ) (texts : List (List ℕ)) (c : ℕ) → Contains (join_of sep texts) c → Contains sep c ⊎ ((text : List ℕ) × Contains texts text × Contains text c)
Contains-join_of_cases sep [] c h = Contains-nil c h
Contains-join_of_cases sep (text ∷ []) c h = inr (text, Contains-head text [], h)
Contains-join_of_cases sep (text ∷ next ∷ texts) c h =
    elim (Contains-append_cases text (sep ++ join_of sep (next ∷ texts)) c h) [
      | inl here ↦ inr (text, Contains-head text (next ∷ texts), here)
      | inr after ↦ elim (Contains-append_cases sep (join_of sep (next ∷ texts)) c after) [
        | inl in_sep ↦ inl in_sep
        | inr later ↦ elim (Contains-join_of_cases sep (next ∷ texts) c later) [
          | inl in_sep ↦ inl in_sep
          | inr below ↦ inr (below.0, Contains-later text (next ∷ texts) below.0 below.1, below.2)
        ]
      ]
    ]

-- each text is a part of the join
pub IsFactor-join_of : (sep : List ℕ) (texts : List (List ℕ)) (text : List ℕ) → Contains texts text → IsFactor (join_of sep texts) text
IsFactor-join_of sep [] text h = Contains-nil text h
IsFactor-join_of sep (first ∷ []) text h =
    elim (Contains-cons_cases first [] text h) [
      | inl is ↦ record { before = []; after = []; whole = is ∙ sym (append-nil text) }
      | inr below ↦ Contains-nil text below
    ]
IsFactor-join_of sep (first ∷ next ∷ texts) text h =
    elim (Contains-cons_cases first (next ∷ texts) text h) [
      | inl is ↦ record { before = []; after = sep ++ join_of sep (next ∷ texts); whole = ap (λ (front : List ℕ). front ++ (sep ++ join_of sep (next ∷ texts))) is }
      | inr below ↦
          let f : IsFactor (join_of sep (next ∷ texts)) text = IsFactor-join_of sep (next ∷ texts) text below in
          record {
            before = first ++ (sep ++ f.before);
            after = f.after;
            whole = ap (λ (rest : List ℕ). first ++ (sep ++ rest)) f.whole ∙ simp append_assoc;
          }
    ]

-- a byte of a part is a byte of the text
pub Contains-IsFactor : (text part : List ℕ) (c : ℕ) → IsFactor text part → Contains part c → Contains text c
Contains-IsFactor text part c f h =
    subst (λ (whole : List ℕ). Contains whole c) (sym f.whole) (Contains-append_right f.before (part ++ f.after) c (Contains-append_left part f.after c h))

-- each piece is a part of the text
pub IsFactor-pieces_of : (sep text piece : List ℕ) → Contains (pieces_of sep text) piece → IsFactor text piece
IsFactor-pieces_of [] text piece h = Contains-nil piece h
IsFactor-pieces_of (c ∷ sep) text piece h =
    subst (λ (whole : List ℕ). IsFactor whole piece) (join_of-pieces_of c sep text) (IsFactor-join_of (c ∷ sep) (pieces_of (c ∷ sep) text) piece h)

-- a byte of a text with replacements is one of the text or of the replacement
pub Contains-replaced_text : (search with text : List ℕ) (c : ℕ) → Contains (replaced_text search with text) c → Contains text c ⊎ Contains with c
Contains-replaced_text [] with text c h = inl h
Contains-replaced_text (b ∷ search) with text c h =
    elim (Contains-join_of_cases with (pieces_of (b ∷ search) text) c h) [
      | inl in_with ↦ inr in_with
      | inr (piece, among, inside) ↦ inl (Contains-IsFactor text piece c (IsFactor-pieces_of (b ∷ search) text piece among) inside)
    ]

-- each occurrence takes away the length of the search and adds that of the replacement
pub length-replaced_text : (search with text : List ℕ) → length (replaced_text search with text) + occurrences_of search text * length search ≡ length text + occurrences_of search text * length with
length-replaced_text [] with text = omega arith
length-replaced_text (c ∷ search) with text =
    let (first, others, is) = pieces_past-cons (c ∷ search) 0 text in
    let less : length (first ∷ others) - 1 ≡ length others = omega arith in
    let of_text : length (join_of (c ∷ search) (first ∷ others)) ≡ length text = ap length (ap (join_of (c ∷ search)) (sym is) ∙ join_of-pieces_of c search text) in
    let long = length-join_of (c ∷ search) first others in
    let short = length-join_of with first others in
    rw (is, less) (omega (arith, of_text, long, short))
