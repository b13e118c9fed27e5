-- Lengths, bytes and parts of what is cut, trimmed and broken into lines.
use Rattle.std.proofs.Common.{◌≡◌, ℕ, ◌-◌, ◌*◌, ◌≤◌, ◌⊎◌, Bool, true, false, ℤ, Option, List, [], ◌∷◌, ◌++◌, length, take, drop, codes, refl, sym, ◌∙◌, ap, subst, inl, inr, arith, IsTrue}
use Rattle.std.specs.List.{Contains, list_all}
use Rattle.std.proofs.lemmas.List.{append_assoc, append-nil, take-append-drop}
use Rattle.std.proofs.lemmas.List.Elements.{Contains-append_cases}
use Rattle.std.proofs.lemmas.Bool.{cond_both, cases_Bool}
use Rattle.string_functions.specs.Cut.{start_in, end_in, bytes_between, part_of, IsFactor}
use Rattle.string_functions.specs.Trim.{is_stripped, left_trim_of, right_trim_of, trim_of}
use Rattle.string_functions.specs.Breaks.{is_line_end, begins_pair, breaks_past, breaks_of}
use Rattle.string_functions.proofs.Members.{Contains-nil, Contains-head, Contains-later, Contains-cons_cases}

pub IsFactor-refl : (text : List ℕ) → IsFactor text text
IsFactor-refl text = record { before = []; after = []; whole = sym (append-nil text) }

-- a part of a part is a part
pub IsFactor-trans : (a b c : List ℕ) → IsFactor a b → IsFactor b c → IsFactor a c
IsFactor-trans a b c f g = record {
  before = f.before ++ g.before;
  after = g.after ++ f.after;
  whole = f.whole ∙ ap (λ (mid : List ℕ). f.before ++ (mid ++ f.after)) g.whole ∙ simp append_assoc;
}

pub IsFactor-bytes_between : (from to : ℕ) (text : List ℕ) → IsFactor text (bytes_between from to text)
IsFactor-bytes_between from to text = record {
  before = take from text;
  after = drop (to - from) (drop from text);
  whole = sym (take-append-drop from text) ∙ ap (λ (rest : List ℕ). take from text ++ rest) (sym (take-append-drop (to - from) (drop from text)));
}

pub IsFactor-part_of : (text : List ℕ) (start : ℤ) (len : Option ℤ) → IsFactor text (part_of text start len)
IsFactor-part_of text start len = IsFactor-bytes_between (start_in text start) (end_in text (start_in text start) len) text

-- behind a byte that is left out stands a part of the whole
pub IsFactor-later : (b : ℕ) (text part : List ℕ) → IsFactor text part → IsFactor (b ∷ text) part
IsFactor-later b text part f = record { before = b ∷ f.before; after = f.after; whole = ap (λ (rest : List ℕ). b ∷ rest) f.whole }

pub IsFactor-left_trim_of : (text : List ℕ) → IsFactor text (left_trim_of text)
IsFactor-left_trim_of [] = IsFactor-refl []
IsFactor-left_trim_of (b ∷ rest) =
    let P : List ℕ → Type 0 = λ part. IsFactor (b ∷ rest) part in
    cond_both (is_stripped b) _ _ P (λ _. IsFactor-later b rest (left_trim_of rest) (IsFactor-left_trim_of rest)) (λ _. IsFactor-refl (b ∷ rest))

-- what is stripped from the right stands behind what is left
pub right_trim_of-splits : (text : List ℕ) → (blanks : List ℕ) × (text ≡ right_trim_of text ++ blanks) × (list_all is_stripped blanks ≡ true)
right_trim_of-splits [] = ([], refl, refl)
right_trim_of-splits (b ∷ rest) =
    elim (cases_Bool (list_all is_stripped (b ∷ rest))) [
      | inl all ↦ (b ∷ rest, rw all refl, all)
      | inr some ↦ let again = right_trim_of-splits rest in (again.0, rw some (ap (λ (xs : List ℕ). b ∷ xs) again.1), again.2)
    ]

pub IsFactor-right_trim_of : (text : List ℕ) → IsFactor text (right_trim_of text)
IsFactor-right_trim_of text = let split = right_trim_of-splits text in record { before = []; after = split.0; whole = split.1 }

pub IsFactor-trim_of : (left right : Bool) (text : List ℕ) → IsFactor text (trim_of left right text)
IsFactor-trim_of true true text = IsFactor-trans text (left_trim_of text) (right_trim_of (left_trim_of text)) (IsFactor-left_trim_of text) (IsFactor-right_trim_of (left_trim_of text))
IsFactor-trim_of true false text = IsFactor-left_trim_of text
IsFactor-trim_of false true text = IsFactor-right_trim_of text
IsFactor-trim_of false false text = IsFactor-refl text

-- a byte of the text, or one of `<br />` where the text has a line end
abbrev pub BreakByte : List ℕ → ℕ → Type 0
BreakByte text c = Contains text c ⊎ (Contains (codes "<br />") c × ((b : ℕ) × Contains text b × IsTrue (is_line_end b)))

BreakByte-later : (b : ℕ) (text : List ℕ) (c : ℕ) → BreakByte text c → BreakByte (b ∷ text) c
BreakByte-later b text c (inl h) = inl (Contains-later b text c h)
BreakByte-later b text c (inr h) = inr (h.0, (h.1.0, Contains-later b text h.1.0 h.1.1, h.1.2))

BreakByte-cons : (b : ℕ) (rest text : List ℕ) (c : ℕ) → (Contains rest c → BreakByte text c) → Contains (b ∷ rest) c → BreakByte (b ∷ text) c
BreakByte-cons b rest text c go h =
    elim (Contains-cons_cases b rest c h) [
      | inl is ↦ inl (subst (λ (x : ℕ). Contains (b ∷ text) x) is (Contains-head b text))
      | inr below ↦ BreakByte-later b text c (go below)
    ]

pub Contains-breaks_past : (second : Bool) (text : List ℕ) (c : ℕ) → Contains (breaks_past second text) c → BreakByte text c
Contains-breaks_past second [] c h = Contains-nil c h
Contains-breaks_past true (b ∷ rest) c h = BreakByte-cons b (breaks_past false rest) rest c (Contains-breaks_past false rest c) h
Contains-breaks_past false (b ∷ rest) c h =
    let P : List ℕ → Type 0 = λ xs. Contains xs c → BreakByte (b ∷ rest) c in
    cond_both (is_line_end b) _ _ P
    (λ ends. λ g. elim (Contains-append_cases (codes "<br />") (b ∷ breaks_past (begins_pair b rest) rest) c g) [
      | inl here ↦ inr (here, (b, Contains-head b rest, ends))
      | inr later ↦ BreakByte-cons b (breaks_past (begins_pair b rest) rest) rest c (Contains-breaks_past (begins_pair b rest) rest c) later
    ])
    (λ _. λ g. BreakByte-cons b (breaks_past false rest) rest c (Contains-breaks_past false rest c) g)
    h

pub Contains-breaks_of : (text : List ℕ) (c : ℕ) → Contains (breaks_of text) c → BreakByte text c
Contains-breaks_of text c h = Contains-breaks_past false text c h

-- at most six bytes more for each
pub length-breaks_past : (second : Bool) (text : List ℕ) → length (breaks_past second text) ≤ 7 * length text
length-breaks_past second [] = omega arith
length-breaks_past true (b ∷ rest) = let again = length-breaks_past false rest in omega (arith, again)
length-breaks_past false (b ∷ rest) =
    let P : List ℕ → Type 0 = λ xs. length xs ≤ 7 * length (b ∷ rest) in
    let pair = length-breaks_past (begins_pair b rest) rest in
    let single = length-breaks_past false rest in
    cond_both (is_line_end b) _ _ P (λ _. omega (arith, pair)) (λ _. omega (arith, single))
