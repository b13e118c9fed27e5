-- How a text is cut at a separator, step by step.
use Rattle.std.proofs.Common.{◌≡◌, ℕ, zero, suc, ◌-◌, true, false, List, [], ◌∷◌, ◌++◌, length, drop, nat_eq, refl, sym, ◌∙◌, ap, inl, inr, arith}
use Rattle.std.specs.List.{starts_with}
use Rattle.std.proofs.lemmas.Slice.Eq.{starts_is}
use Rattle.std.proofs.lemmas.Bool.Decides.{Decides-eqb}
use Rattle.std.proofs.lemmas.Bool.{cases_Bool}
use Rattle.string_functions.specs.Pieces.{in_first, pieces_past, pieces_of, join_of, replaced_text}

-- a text that begins with the separator is the separator and what follows it
pub starts_with-splits : (text sep : List ℕ) → starts_with nat_eq text sep ≡ true → text ≡ sep ++ drop (length sep) text
starts_with-splits text sep h = (starts_is Decides-eqb text sep (starts_with nat_eq text sep) refl).0 h

pub starts_with-append : (sep rest : List ℕ) → starts_with nat_eq (sep ++ rest) sep ≡ true
starts_with-append sep rest = (starts_is Decides-eqb (sep ++ rest) sep (starts_with nat_eq (sep ++ rest) sep) refl).1 rest refl

-- the bytes of an occurrence are passed over
pub pieces_past-append : (sep passed rest : List ℕ) → pieces_past sep (length passed) (passed ++ rest) ≡ pieces_past sep 0 rest
pieces_past-append sep [] rest = refl
pieces_past-append sep (b ∷ passed) rest = pieces_past-append sep passed rest

-- at an occurrence a piece ends
pub pieces_of-occurrence : (c : ℕ) (sep rest : List ℕ) → pieces_of (c ∷ sep) ((c ∷ sep) ++ rest) ≡ [] ∷ pieces_of (c ∷ sep) rest
pieces_of-occurrence c sep rest =
    let here : starts_with nat_eq (c ∷ (sep ++ rest)) (c ∷ sep) ≡ true = starts_with-append (c ∷ sep) rest in
    let less : length (c ∷ sep) - 1 ≡ length sep = omega arith in
    rw (here, less) (ap (λ (pieces : List (List ℕ)). [] ∷ pieces) (pieces_past-append (c ∷ sep) sep rest))

-- where none stands the byte goes on with the piece
pub pieces_of-byte : (c : ℕ) (sep : List ℕ) (b : ℕ) (rest : List ℕ) → starts_with nat_eq (b ∷ rest) (c ∷ sep) ≡ false → pieces_of (c ∷ sep) (b ∷ rest) ≡ in_first b (pieces_of (c ∷ sep) rest)
pieces_of-byte c sep b rest away = rw away refl

-- there is a first piece
pub pieces_past-cons : (sep : List ℕ) (left : ℕ) (text : List ℕ) → (first : List ℕ) × (others : List (List ℕ)) × (pieces_past sep left text ≡ first ∷ others)
pieces_past-cons sep left [] = ([], [], refl)
pieces_past-cons sep (suc left) (b ∷ rest) = pieces_past-cons sep left rest
pieces_past-cons sep zero (b ∷ rest) =
    elim (cases_Bool (starts_with nat_eq (b ∷ rest) sep)) [
      | inl here ↦ ([], pieces_past sep (length sep - 1) rest, rw here refl)
      | inr away ↦ let (first, others, is) = pieces_past-cons sep 0 rest in (b ∷ first, others, rw (away, is) refl)
    ]

-- a byte in front of the first text is a byte in front of the join
pub join_of-in_first : (sep : List ℕ) (b : ℕ) (first : List ℕ) (others : List (List ℕ)) → join_of sep (in_first b (first ∷ others)) ≡ b ∷ join_of sep (first ∷ others)
join_of-in_first sep b first [] = refl
join_of-in_first sep b first (next ∷ others) = refl

-- the texts after the first come behind the separator
pub join_of-cons : (sep first next : List ℕ) (others : List (List ℕ)) → join_of sep (first ∷ next ∷ others) ≡ first ++ (sep ++ join_of sep (next ∷ others))
join_of-cons sep first next others = refl

-- the pieces joined again are the text
pub join_of-pieces_past : (c : ℕ) (sep : List ℕ) (left : ℕ) (text : List ℕ) → join_of (c ∷ sep) (pieces_past (c ∷ sep) left text) ≡ drop left text
join_of-pieces_past c sep zero [] = refl
join_of-pieces_past c sep (suc left) [] = refl
join_of-pieces_past c sep (suc left) (b ∷ rest) = join_of-pieces_past c sep left rest
join_of-pieces_past c sep zero (b ∷ rest) =
    elim (cases_Bool (starts_with nat_eq (b ∷ rest) (c ∷ sep))) [
      | inl here ↦
          let (first, others, is) = pieces_past-cons (c ∷ sep) (length (c ∷ sep) - 1) rest in
          let less : length (c ∷ sep) - 1 ≡ length sep = omega arith in
          let again : join_of (c ∷ sep) (first ∷ others) ≡ drop (length sep) rest = ap (join_of (c ∷ sep)) (sym is) ∙ join_of-pieces_past c sep (length (c ∷ sep) - 1) rest ∙ ap (λ n. drop n rest) less in
          let splits : b ∷ rest ≡ (c ∷ sep) ++ drop (length sep) rest = starts_with-splits (b ∷ rest) (c ∷ sep) here in
          rw (here, is) (ap (λ (after : List ℕ). c ∷ (sep ++ after)) again ∙ sym splits)
      | inr away ↦
          let (first, others, is) = pieces_past-cons (c ∷ sep) 0 rest in
          let again : join_of (c ∷ sep) (first ∷ others) ≡ rest = ap (join_of (c ∷ sep)) (sym is) ∙ join_of-pieces_past c sep 0 rest in
          rw (away, is) (join_of-in_first (c ∷ sep) b first others ∙ ap (λ (after : List ℕ). b ∷ after) again)
    ]

pub join_of-pieces_of : (c : ℕ) (sep text : List ℕ) → join_of (c ∷ sep) (pieces_of (c ∷ sep) text) ≡ text
join_of-pieces_of c sep text = join_of-pieces_past c sep 0 text

-- replacing step by step
pub replaced_text-nil : (c : ℕ) (search with : List ℕ) → replaced_text (c ∷ search) with [] ≡ []
replaced_text-nil c search with = refl

pub replaced_text-occurrence : (c : ℕ) (search with rest : List ℕ) → replaced_text (c ∷ search) with ((c ∷ search) ++ rest) ≡ with ++ replaced_text (c ∷ search) with rest
replaced_text-occurrence c search with rest =
    let (first, others, is) = pieces_past-cons (c ∷ search) 0 rest in
    rw (pieces_of-occurrence c search rest, is) refl

pub replaced_text-byte : (c : ℕ) (search with : List ℕ) (b : ℕ) (rest : List ℕ) → starts_with nat_eq (b ∷ rest) (c ∷ search) ≡ false → replaced_text (c ∷ search) with (b ∷ rest) ≡ b ∷ replaced_text (c ∷ search) with rest
replaced_text-byte c search with b rest away =
    let (first, others, is) = pieces_past-cons (c ∷ search) 0 rest in
    rw (away, is) (join_of-in_first with b first others)
