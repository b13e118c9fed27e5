-- Words of a value, from the left.
use Rattle.std.proofs.Common.{arith, ◌≡◌, ◌≢◌, ℕ, Bool, true, false, not, ◌&&◌, List, [], ◌∷◌, ◌++◌, refl, sym, ◌∙◌, ap}
use Rattle.std.specs.Prelude.{if◌then◌else◌, nat_eq}
use Rattle.std.specs.List.{list_all}
use Rattle.std.proofs.lemmas.Bool.{and_parts, and_from}
use Rattle.std.proofs.lemmas.Bool.Decides.{nat_tests}
use Rattle.xml_text.specs.Characters.{is_blank}
use Rattle.xml_text.specs.Names.{in_name}
use Rattle.page_model.specs.Attributes.{put_before, words_of}
use Rattle.page_model.specs.Parts.{begins_blank}

-- what of the words is put behind a character, and what stands behind that word
abbrev pub first_of : Bool → List (List ℕ) → List ℕ
first_of true words = []
first_of false [] = []
first_of false (word ∷ words) = word

abbrev pub others_of : Bool → List (List ℕ) → List (List ℕ)
others_of true words = words
others_of false [] = []
others_of false (word ∷ words) = words

pub put_is : (c : ℕ) (b : Bool) (words : List (List ℕ)) → put_before c b words ≡ (c ∷ first_of b words) ∷ others_of b words
put_is c true words = refl
put_is c false [] = refl
put_is c false (word ∷ words) = refl

abbrev pub head_word : List ℕ → List ℕ
head_word cs = first_of (begins_blank cs) (words_of cs)

abbrev pub other_words : List ℕ → List (List ℕ)
other_words cs = others_of (begins_blank cs) (words_of cs)

pub words_blank : (c : ℕ) (cs : List ℕ) → is_blank c ≡ true → words_of (c ∷ cs) ≡ words_of cs
words_blank c cs h = ap (λ (b : Bool). if b then words_of cs else put_before c (begins_blank cs) (words_of cs)) h

pub words_other : (c : ℕ) (cs : List ℕ) → is_blank c ≡ false → words_of (c ∷ cs) ≡ (c ∷ head_word cs) ∷ other_words cs
words_other c cs h = ap (λ (b : Bool). if b then words_of cs else put_before c (begins_blank cs) (words_of cs)) h ∙ put_is c (begins_blank cs) (words_of cs)

-- white space behind a first character ends its word
pub head_blank : (c : ℕ) (cs : List ℕ) → is_blank c ≡ true → head_word (c ∷ cs) ≡ []
head_blank c cs h = ap (λ (b : Bool). first_of b (words_of (c ∷ cs))) h

pub others_blank : (c : ℕ) (cs : List ℕ) → is_blank c ≡ true → other_words (c ∷ cs) ≡ words_of cs
others_blank c cs h = ap (λ (b : Bool). others_of b (words_of (c ∷ cs))) h ∙ words_blank c cs h

pub head_other : (c : ℕ) (cs : List ℕ) → is_blank c ≡ false → head_word (c ∷ cs) ≡ c ∷ head_word cs
head_other c cs h = ap (λ (b : Bool). first_of b (words_of (c ∷ cs))) h ∙ ap (first_of false) (words_other c cs h)

pub others_other : (c : ℕ) (cs : List ℕ) → is_blank c ≡ false → other_words (c ∷ cs) ≡ other_words cs
others_other c cs h = ap (λ (b : Bool). others_of b (words_of (c ∷ cs))) h ∙ ap (others_of false) (words_other c cs h)

-- words of characters of names leave no room for `&`
pub blank_no_ampersand : (c : ℕ) → is_blank c ≡ true → nat_eq c 38 ≡ false
blank_no_ampersand c h = grind (arith, nat_tests)

pub name_no_ampersand : (c : ℕ) → in_name c ≡ true → nat_eq c 38 ≡ false
name_no_ampersand c h = grind (arith, nat_tests)

pub name_not_blank : (c : ℕ) → in_name c ≡ true → is_blank c ≡ false
name_not_blank c h = grind (arith, nat_tests)

abbrev pub no_ampersand : ℕ → Bool
no_ampersand c = not (nat_eq c 38)

abbrev pub in_names : List (List ℕ) → Bool
in_names words = list_all (list_all in_name) words

split_words : (b : Bool) (words : List (List ℕ)) → list_all in_name (first_of b words) ≡ true → in_names (others_of b words) ≡ true → in_names words ≡ true
split_words true words f o = o
split_words false [] f o = refl
split_words false (word ∷ words) f o = and_from (list_all in_name word) (in_names words) f o

pub words_free : (cs : List ℕ) → in_names (words_of cs) ≡ true → list_all no_ampersand cs ≡ true
words_free [] h = refl
words_free (c ∷ cs) h = at (is_blank c) refl (words_free cs)
  where
    at : (b : Bool) → is_blank c ≡ b → (in_names (words_of cs) ≡ true → list_all no_ampersand cs ≡ true) → list_all no_ampersand (c ∷ cs) ≡ true
    at true e ih = and_from (no_ampersand c) (list_all no_ampersand cs) (ap not (blank_no_ampersand c e)) (ih (ap in_names (sym (words_blank c cs e)) ∙ h))
    at false e ih =
        let p = and_parts (list_all in_name (c ∷ head_word cs)) (in_names (other_words cs)) (ap in_names (sym (words_other c cs e)) ∙ h) in
        let q = and_parts (in_name c) (list_all in_name (head_word cs)) p.0 in
        and_from (no_ampersand c) (list_all no_ampersand cs) (ap not (name_no_ampersand c q.0)) (ih (split_words (begins_blank cs) (words_of cs) q.1 p.1))
