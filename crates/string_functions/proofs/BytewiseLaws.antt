-- Lengths and bytes where each byte is replaced by itself, and for copies in a row.
use Rattle.std.proofs.Common.{◌≡◌, ℕ, zero, suc, ◌+◌, ◌*◌, ◌≤◌, ◌⊎◌, Bool, true, false, cond, ◌==◌, ◌||◌, not, List, [], ◌∷◌, ◌++◌, length, map, refl, sym, inl, inr, arith}
use Rattle.std.specs.List.{Contains, flat_map, list_all, AllPass}
use Rattle.std.specs.Char.{to_ascii_uppercase}
use Rattle.std.proofs.lemmas.List.{length-append}
use Rattle.std.proofs.lemmas.List.Elements.{Contains-append_cases, All-contains}
use Rattle.std.proofs.lemmas.List.Sums.{AllPass-from_list_all}
use Rattle.std.proofs.lemmas.Bool.{cond_both, not-true}
use Rattle.string_functions.specs.Html.{html_of_byte, html_of, is_markup}
use Rattle.string_functions.specs.Url.{url_of_byte, url_of, raw_url_of_byte, raw_url_of, is_kept_in_url}
use Rattle.string_functions.specs.Slashes.{slashes_of_byte, slashes_of}
use Rattle.string_functions.specs.Case.{first_upper_of}
use Rattle.string_functions.specs.Copies.{copies_of}
use Rattle.string_functions.proofs.Members.{Contains-nil, Contains-head, Contains-later, Contains-cons_cases, Contains-flat_map}

-- at most so many bytes for each
pub length-flat_map-le : (f : ℕ → List ℕ) (most : ℕ) → ((b : ℕ) → length (f b) ≤ most) → (text : List ℕ) → length (flat_map f text) ≤ most * length text
length-flat_map-le f most bound [] = omega arith
length-flat_map-le f most bound (b ∷ text) =
    let again = length-flat_map-le f most bound text in
    let here = bound b in
    let whole : length (f b ++ flat_map f text) ≡ length (f b) + length (flat_map f text) = length-append (f b) (flat_map f text) in
    omega (arith, again, here, whole)

-- at least one for each
pub le-length-flat_map : (f : ℕ → List ℕ) → ((b : ℕ) → 1 ≤ length (f b)) → (text : List ℕ) → length text ≤ length (flat_map f text)
le-length-flat_map f bound [] = omega arith
le-length-flat_map f bound (b ∷ text) =
    let again = le-length-flat_map f bound text in
    let here = bound b in
    let whole : length (f b ++ flat_map f text) ≡ length (f b) + length (flat_map f text) = length-append (f b) (flat_map f text) in
    omega (arith, again, here, whole)

-- one of two by a test, each of which has the property
module _ (P : List ℕ → Type 0) where
  pub at_cond : (t : Bool) (xs ys : List ℕ) → P xs → P ys → P (cond t xs ys)
  at_cond true xs ys p q = p
  at_cond false xs ys p q = q

pub length-html_of_byte : (b : ℕ) → length (html_of_byte b) ≤ 6
length-html_of_byte b =
    let P : List ℕ → Type 0 = λ xs. length xs ≤ 6 in
    at_cond P (b == 38) _ _ (omega arith) (at_cond P (b == 60) _ _ (omega arith) (at_cond P (b == 62) _ _ (omega arith) (at_cond P (b == 34) _ _ (omega arith) (at_cond P (b == 39) _ _ (omega arith) (omega arith)))))

pub length-html_of : (text : List ℕ) → length (html_of text) ≤ 6 * length text
length-html_of text = length-flat_map-le html_of_byte 6 length-html_of_byte text

-- no byte of a reference is markup
html_of_byte-passes : (b : ℕ) → list_all (λ c. not (is_markup c)) (html_of_byte b) ≡ true
html_of_byte-passes b =
    let P : List ℕ → Type 0 = λ xs. list_all (λ c. not (is_markup c)) xs ≡ true in
    cond_both (b == 38) _ _ P (λ _. refl) (λ _. cond_both (b == 60) _ _ P (λ _. refl) (λ e60. cond_both (b == 62) _ _ P (λ _. refl) (λ e62. cond_both (b == 34) _ _ P (λ _. refl) (λ e34. cond_both (b == 39) _ _ P (λ _. refl) (λ e39. rw (e60, e62, e34, e39) refl)))))

pub html_of-has_no_markup : (text : List ℕ) (c : ℕ) → Contains (html_of text) c → is_markup c ≡ false
html_of-has_no_markup text c h =
    let (b, among, inside) = Contains-flat_map html_of_byte text c h in
    let passes : AllPass (λ c. not (is_markup c)) (html_of_byte b) = AllPass-from_list_all (λ c. not (is_markup c)) (html_of_byte b) (html_of_byte-passes b) in
    not-true (is_markup c) (All-contains (λ c. not (is_markup c) ≡ true) (html_of_byte b) c passes inside)

pub length-url_of : (text : List ℕ) → length (url_of text) ≤ 3 * length text
length-url_of text =
    let P : List ℕ → Type 0 = λ xs. length xs ≤ 3 in
    length-flat_map-le url_of_byte 3 (λ b. at_cond P (is_kept_in_url b) _ _ (omega arith) (at_cond P (b == 32) _ _ (omega arith) (omega arith))) text

pub length-raw_url_of : (text : List ℕ) → length (raw_url_of text) ≤ 3 * length text
length-raw_url_of text =
    let P : List ℕ → Type 0 = λ xs. length xs ≤ 3 in
    length-flat_map-le raw_url_of_byte 3 (λ b. at_cond P (is_kept_in_url b || b == 126) _ _ (omega arith) (omega arith)) text

pub length-slashes_of : (text : List ℕ) → length (slashes_of text) ≤ 2 * length text
length-slashes_of text =
    let P : List ℕ → Type 0 = λ xs. length xs ≤ 2 in
    length-flat_map-le slashes_of_byte 2 (λ b. at_cond P (b == 39 || b == 34 || b == 92) _ _ (omega arith) (at_cond P (b == 0) _ _ (omega arith) (omega arith))) text

pub length-first_upper_of : (text : List ℕ) → length (first_upper_of text) ≡ length text
length-first_upper_of [] = refl
length-first_upper_of (b ∷ text) = omega arith

pub length-copies_of : (count : ℕ) (text : List ℕ) → length (copies_of count text) ≡ count * length text
length-copies_of zero text = omega arith
length-copies_of (suc count) text =
    let again = length-copies_of count text in
    let whole : length (text ++ copies_of count text) ≡ length text + length (copies_of count text) = length-append text (copies_of count text) in
    omega (arith, again, whole)

pub Contains-copies_of : (count : ℕ) (text : List ℕ) (c : ℕ) → Contains (copies_of count text) c → Contains text c
Contains-copies_of zero text c h = Contains-nil c h
Contains-copies_of (suc count) text c h =
    elim (Contains-append_cases text (copies_of count text) c h) [ inl here ↦ here | inr later ↦ Contains-copies_of count text c later ]

-- a byte of the mapped text comes of a byte of the text
pub Contains-map : (f : ℕ → ℕ) (text : List ℕ) (c : ℕ) → Contains (map f text) c → (b : ℕ) × Contains text b × (c ≡ f b)
Contains-map f [] c h = Contains-nil c h
Contains-map f (b ∷ text) c h =
    elim (Contains-cons_cases (f b) (map f text) c h) [
      | inl is ↦ (b, Contains-head b text, sym is)
      | inr below ↦ let again = Contains-map f text c below in (again.0, Contains-later b text again.0 again.1, again.2)
    ]

pub Contains-first_upper_of : (text : List ℕ) (c : ℕ) → Contains (first_upper_of text) c → Contains text c ⊎ ((b : ℕ) × Contains text b × (c ≡ to_ascii_uppercase b))
Contains-first_upper_of [] c h = inl h
Contains-first_upper_of (b ∷ text) c h =
    elim (Contains-cons_cases (to_ascii_uppercase b) text c h) [
      | inl is ↦ inr (b, Contains-head b text, sym is)
      | inr below ↦ inl (Contains-later b text c below)
    ]
