-- Values, character by character.
use Rattle.std.proofs.Common.{arith, ◌≡◌, ℕ, Bool, true, false, not, ◌&&◌, ◌||◌, List, [], ◌∷◌, ◌++◌, Option, Some, None, refl, sym, ◌∙◌, ap, append-nil, append_assoc}
use Rattle.std.specs.Prelude.{if◌then◌else◌, nat_eq, bytes_eq}
use Rattle.std.specs.List.{list_all, list_any}
use Rattle.std.proofs.lemmas.Bool.{and_parts, and_from}
use Rattle.std.proofs.lemmas.Bool.Decides.{nat_tests}
use Rattle.std.proofs.lemmas.Slice.Eq.{bytes_eq-Decides}
use Rattle.xml_text.specs.Characters.{is_blank}
use Rattle.xml_text.specs.Names.{begins_name, in_name, is_name, is_name_token}
use Rattle.dtd_model.specs.Lawful.{is_lawful_kind}
use Rattle.dtd_model.specs.References.{Reference, is_reference, is_known, is_some}
use Rattle.dtd_model.specs.Table.{Kind, cdata, id, idref, idrefs, nmtoken, nmtokens, one_of, Presence, implied, required, with_default, fixed, Declared}
use Rattle.page_model.specs.Attributes.{words_of, is_one_word, are_words, has_kind, has_fixed}
use Rattle.page_model.specs.Parts.{up_to_semicolon, has_semicolon, reference_of, refers_by}
use Rattle.piece_steps.specs.Insides.{accepted, accepts}
use Rattle.page_model.specs.OpenValues.{OpenReference, in_entity, at_number, in_decimal, in_hexadecimal, OpenValue, in_text, in_reference, in_fixed, in_choice, in_words}
use Rattle.page_steps.specs.ReferenceSteps.{reference_step, reference_good}
use Rattle.page_steps.specs.ValueSteps.{kind_start, value_start, has_names, has_many, begins_word, words_step, choice_step, in_reference_of, text_step, semicolon_step, kept_step, may_stand, value_step, is_chosen, value_good}
use Rattle.reference_steps.specs.Laws.{is_right_reference, may_have}
use Rattle.reference_steps.proofs.References.{references_accepted}
use Rattle.reference_steps.proofs.Words.{head_word, other_words, words_blank, words_other, head_blank, others_blank, head_other, others_other, no_ampersand, in_names, words_free, name_not_blank, name_no_ampersand}

-- reading on from a state
abbrev pub read_on : List (List ℕ) → Declared → OpenValue → List ℕ → Bool
read_on entities d v cs = accepts (value_step entities d) (value_good entities d) v cs

-- one character more: where it may not stand there is no value
one_more : (entities : List (List ℕ)) (d : Declared) (v : OpenValue) (c : ℕ) (cs : List ℕ) (rest : Bool) → (may_stand c ≡ true → accepted (kept_step entities d.kind v c) (λ g. read_on entities d g cs) ≡ (list_all may_stand cs && rest)) → read_on entities d v (c ∷ cs) ≡ (list_all may_stand (c ∷ cs) && rest)
one_more entities d v c cs rest f = at (may_stand c) f
  where
    at : (b : Bool) → (b ≡ true → accepted (kept_step entities d.kind v c) (λ g. read_on entities d g cs) ≡ (list_all may_stand cs && rest))
        → accepted (if b then kept_step entities d.kind v c else None) (λ g. read_on entities d g cs) ≡ ((b && list_all may_stand cs) && rest)
    at true f = f refl
    at false f = refl

and_false : (x : Bool) → (x && false) ≡ false
and_false true = refl
and_false false = refl

-- CDATA.

abbrev right : List (List ℕ) → Reference → Bool
right entities r = is_right_reference entities r

-- what is behind a `&`, up to its `;`
abbrev referred : List (List ℕ) → OpenReference → List ℕ → Bool
referred entities r cs = has_semicolon cs && accepts reference_step (reference_good entities) r (up_to_semicolon cs)

no_second : (r : OpenReference) (c : ℕ) → nat_eq c 38 ≡ true → reference_step r c ≡ None
no_second (in_entity []) c h = let e : c ≡ 38 = grind arith in ap (reference_step (in_entity [])) e
no_second (in_entity (n ∷ name)) c h = let e : c ≡ 38 = grind arith in ap (reference_step (in_entity (n ∷ name))) e
no_second at_number c h = let e : c ≡ 38 = grind arith in ap (reference_step at_number) e
no_second (in_decimal n) c h = let e : c ≡ 38 = grind arith in ap (reference_step (in_decimal n)) e
no_second (in_hexadecimal None) c h = let e : c ≡ 38 = grind arith in ap (reference_step (in_hexadecimal None)) e
no_second (in_hexadecimal (Some n)) c h = let e : c ≡ 38 = grind arith in ap (reference_step (in_hexadecimal (Some n))) e

semicolon_plain : (c : ℕ) → nat_eq c 59 ≡ true → nat_eq c 38 ≡ false
semicolon_plain c h = grind (arith, nat_tests)

abbrev TextIs : List (List ℕ) → Declared → List ℕ → Type 0
TextIs entities d cs = read_on entities d in_text cs ≡ (list_all may_stand cs && refers_by (right entities) cs)

abbrev ReferenceIs : List (List ℕ) → Declared → List ℕ → OpenReference → Type 0
ReferenceIs entities d cs r = read_on entities d (in_reference r) cs ≡ (list_all may_stand cs && (referred entities r cs && refers_by (right entities) cs))

-- a character of a reference, or its `;`
reference_more : (entities : List (List ℕ)) (d : Declared) (c : ℕ) (cs : List ℕ) (r : OpenReference) → TextIs entities d cs → ((g : OpenReference) → ReferenceIs entities d cs g)
    → accepted (semicolon_step entities r c) (λ g. read_on entities d g cs) ≡ (list_all may_stand cs && (referred entities r (c ∷ cs) && refers_by (right entities) (c ∷ cs)))
reference_more entities d c cs r text others = at (nat_eq c 59) refl
  where
    R : Bool → Bool
    R b = (if b then has_semicolon cs && right entities (reference_of (up_to_semicolon cs)) else true) && refers_by (right entities) cs

    good_is : (g : Bool) → accepted (if g then Some in_text else None) (λ g. read_on entities d g cs) ≡ (list_all may_stand cs && (g && refers_by (right entities) cs))
    good_is true = text
    good_is false = sym (and_false (list_all may_stand cs))

    stepped : (o : Option OpenReference) → ((b : Bool) → nat_eq c 38 ≡ b → b ≡ true → o ≡ None) → accepted (in_reference_of o) (λ g. read_on entities d g cs)
        ≡ (list_all may_stand cs && ((has_semicolon cs && accepted o (λ g. accepts reference_step (reference_good entities) g (up_to_semicolon cs))) && ((if nat_eq c 38 then has_semicolon cs && right entities (reference_of (up_to_semicolon cs)) else true) && refers_by (right entities) cs)))
    stepped None f = sym (ap (λ (b : Bool). list_all may_stand cs && (b && ((if nat_eq c 38 then has_semicolon cs && right entities (reference_of (up_to_semicolon cs)) else true) && refers_by (right entities) cs))) (and_false (has_semicolon cs)) ∙ and_false (list_all may_stand cs))
    stepped (Some g) f = others g ∙ ap (λ (b : Bool). list_all may_stand cs && (referred entities g cs && ((if b then has_semicolon cs && right entities (reference_of (up_to_semicolon cs)) else true) && refers_by (right entities) cs))) (sym (plain (nat_eq c 38) refl))
      where
        plain : (b : Bool) → nat_eq c 38 ≡ b → nat_eq c 38 ≡ false
        plain true e = let z = f true e refl in cc
        plain false e = e

    at : (b : Bool) → nat_eq c 59 ≡ b → accepted (if b then (if reference_good entities r then Some in_text else None) else in_reference_of (reference_step r c)) (λ g. read_on entities d g cs)
        ≡ (list_all may_stand cs && (((b || has_semicolon cs) && accepts reference_step (reference_good entities) r (if b then [] else c ∷ up_to_semicolon cs)) && ((if nat_eq c 38 then has_semicolon cs && right entities (reference_of (up_to_semicolon cs)) else true) && refers_by (right entities) cs)))
    at true e =
        good_is (reference_good entities r)
        ∙ ap (λ (b : Bool). list_all may_stand cs && (reference_good entities r && ((if b then has_semicolon cs && right entities (reference_of (up_to_semicolon cs)) else true) && refers_by (right entities) cs))) (sym (semicolon_plain c e))
    at false e = stepped (reference_step r c) (λ b h q. no_second r c (h ∙ q))

both : (entities : List (List ℕ)) (d : Declared) (cs : List ℕ) → TextIs entities d cs × ((r : OpenReference) → ReferenceIs entities d cs r)
both entities d [] = (refl, λ r. refl)
both entities d (c ∷ cs) = (
  one_more entities d in_text c cs (refers_by (right entities) (c ∷ cs)) (λ h. at (nat_eq c 38) (both entities d cs)),
  λ r. one_more entities d (in_reference r) c cs (referred entities r (c ∷ cs) && refers_by (right entities) (c ∷ cs)) (λ h. reference_more entities d c cs r (both entities d cs).0 (both entities d cs).1),
)
  where
    at : (b : Bool) → TextIs entities d cs × ((r : OpenReference) → ReferenceIs entities d cs r)
        → read_on entities d (if b then in_reference (in_entity []) else in_text) cs ≡ (list_all may_stand cs && ((if b then has_semicolon cs && right entities (reference_of (up_to_semicolon cs)) else true) && refers_by (right entities) cs))
    at true ih = ih.1 (in_entity []) ∙ ap (λ (b : Bool). list_all may_stand cs && ((has_semicolon cs && b) && refers_by (right entities) cs)) (references_accepted entities (up_to_semicolon cs))
    at false ih = ih.0

-- both tests of references at once
refers_both : (f g : Reference → Bool) (cs : List ℕ) → refers_by (λ r. f r && g r) cs ≡ (refers_by f cs && refers_by g cs)
refers_both f g [] = refl
refers_both f g (c ∷ cs) = ap (λ (b : Bool). (if nat_eq c 38 then has_semicolon cs && (f (reference_of (up_to_semicolon cs)) && g (reference_of (up_to_semicolon cs))) else true) && b) (refers_both f g cs)
    ∙ at (nat_eq c 38) (has_semicolon cs) (f (reference_of (up_to_semicolon cs))) (g (reference_of (up_to_semicolon cs))) (refers_by f cs) (refers_by g cs)
  where
    at : (a s x y p q : Bool) → ((if a then s && (x && y) else true) && (p && q)) ≡ (((if a then s && x else true) && p) && ((if a then s && y else true) && q))
    at true true true true true q = refl
    at true true true true false q = refl
    at true true true false true q = refl
    at true true true false false q = refl
    at true true false y p q = refl
    at true false x y p q = refl
    at false s x y p q = refl

-- where no `&` stands, nothing is referred to
pub refers_none : (test : Reference → Bool) (cs : List ℕ) → list_all no_ampersand cs ≡ true → refers_by test cs ≡ true
refers_none test [] h = refl
refers_none test (c ∷ cs) h =
    let p = and_parts (no_ampersand c) (list_all no_ampersand cs) h in
    and_from _ (refers_by test cs) (at (nat_eq c 38) p.0) (refers_none test cs p.1)
  where
    at : (b : Bool) → not b ≡ true → (if b then has_semicolon cs && test (reference_of (up_to_semicolon cs)) else true) ≡ true
    at true h = cc
    at false h = refl

-- Fixed values.

fixed_accepted : (entities : List (List ℕ)) (d : Declared) (cs value : List ℕ) → read_on entities d (in_fixed value) cs ≡ (list_all may_stand cs && value_good entities d (in_fixed (value ++ cs)))
fixed_accepted entities d [] value = ap (λ (w : List ℕ). value_good entities d (in_fixed w)) (sym (append-nil value))
fixed_accepted entities d (c ∷ cs) value = one_more entities d (in_fixed value) c cs (value_good entities d (in_fixed (value ++ c ∷ cs))) (λ h.
    fixed_accepted entities d cs (value ++ c ∷ []) ∙ ap (λ (w : List ℕ). list_all may_stand cs && value_good entities d (in_fixed w)) (append_assoc value (c ∷ []) cs))

-- Names and name tokens.

abbrev word_test : Kind → List ℕ → Bool
word_test kind = if has_names kind then is_name else is_name_token

abbrev is_nil : List (List ℕ) → Bool
is_nil [] = true
is_nil (word ∷ words) = false

-- the words are those that may still come, where one stands before them or none does
abbrev come : Kind → Bool → List (List ℕ) → Bool
come kind true words = if has_many kind then list_all (word_test kind) words else is_nil words
come kind false words = if has_many kind then are_words (word_test kind) words else is_one_word (word_test kind) words

come_none : (kind : Kind) → come kind true [] ≡ true
come_none kind = at (has_many kind)
  where
    at : (b : Bool) → (if b then true else true) ≡ true
    at true = refl
    at false = refl

begin_none : (kind : Kind) → come kind false [] ≡ false
begin_none kind = at (has_many kind)
  where
    at : (b : Bool) → (if b then false else false) ≡ false
    at true = refl
    at false = refl

test_is : (kind : Kind) (c : ℕ) (word : List ℕ) → word_test kind (c ∷ word) ≡ (begins_word kind c && list_all in_name word)
test_is kind c word = at (has_names kind)
  where
    at : (b : Bool) → (if b then is_name else is_name_token) (c ∷ word) ≡ ((if b then begins_name c else in_name c) && list_all in_name word)
    at true = refl
    at false = refl

-- a word and those behind it
come_word : (kind : Kind) (one : Bool) (c : ℕ) (word : List ℕ) (words : List (List ℕ)) → come kind one ((c ∷ word) ∷ words) ≡ (((not one || has_many kind) && begins_word kind c) && (list_all in_name word && come kind true words))
come_word kind one c word words = unfolded one ∙ at one (has_many kind)
  where
    assoc : (x y z : Bool) → ((x && y) && z) ≡ (x && (y && z))
    assoc true y z = refl
    assoc false y z = refl

    last : (words : List (List ℕ)) → is_one_word (word_test kind) ((c ∷ word) ∷ words) ≡ (begins_word kind c && (list_all in_name word && is_nil words))
    last [] = test_is kind c word ∙ sym (ap (λ (b : Bool). begins_word kind c && b) (and_true (list_all in_name word)))
      where
        and_true : (x : Bool) → (x && true) ≡ x
        and_true true = refl
        and_true false = refl
    last (w ∷ ws) = sym (ap (λ (b : Bool). begins_word kind c && b) (and_false (list_all in_name word)) ∙ and_false (begins_word kind c))

    unfolded : (one : Bool) → come kind one ((c ∷ word) ∷ words) ≡ (if one then (if has_many kind then word_test kind (c ∷ word) && list_all (word_test kind) words else false) else (if has_many kind then word_test kind (c ∷ word) && list_all (word_test kind) words else is_one_word (word_test kind) ((c ∷ word) ∷ words)))
    unfolded true = refl
    unfolded false = refl

    many : (word_test kind (c ∷ word) && list_all (word_test kind) words) ≡ (begins_word kind c && (list_all in_name word && list_all (word_test kind) words))
    many = ap (λ (b : Bool). b && list_all (word_test kind) words) (test_is kind c word) ∙ assoc (begins_word kind c) (list_all in_name word) (list_all (word_test kind) words)

    at : (one m : Bool) → (if one then (if m then word_test kind (c ∷ word) && list_all (word_test kind) words else false) else (if m then word_test kind (c ∷ word) && list_all (word_test kind) words else is_one_word (word_test kind) ((c ∷ word) ∷ words)))
        ≡ (((not one || m) && begins_word kind c) && (list_all in_name word && (if m then list_all (word_test kind) words else is_nil words)))
    at true true = many
    at true false = refl
    at false true = many
    at false false = last words

abbrev InsideIs : List (List ℕ) → Declared → List ℕ → Type 0
InsideIs entities d cs = (one : Bool) → read_on entities d (in_words true one) cs ≡ (list_all may_stand cs && (list_all in_name (head_word cs) && come d.kind true (other_words cs)))

abbrev OutsideIs : List (List ℕ) → Declared → List ℕ → Type 0
OutsideIs entities d cs = (one : Bool) → read_on entities d (in_words false one) cs ≡ (list_all may_stand cs && come d.kind one (words_of cs))

inside_more : (entities : List (List ℕ)) (d : Declared) (c : ℕ) (cs : List ℕ) (one : Bool) → InsideIs entities d cs → OutsideIs entities d cs
    → accepted (kept_step entities d.kind (in_words true one) c) (λ g. read_on entities d g cs) ≡ (list_all may_stand cs && (list_all in_name (head_word (c ∷ cs)) && come d.kind true (other_words (c ∷ cs))))
inside_more entities d c cs one inner outer = at (is_blank c) refl
  where
    L : Bool
    L = list_all may_stand cs

    goal : List ℕ → List (List ℕ) → Bool
    goal word words = list_all may_stand cs && (list_all in_name word && come d.kind true words)

    named : (b : Bool) → in_name c ≡ b → accepted (if b then Some (in_words true one) else None) (λ g. read_on entities d g cs) ≡ (list_all may_stand cs && ((b && list_all in_name (head_word cs)) && come d.kind true (other_words cs)))
    named true h = inner one
    named false h = sym (and_false (list_all may_stand cs))

    at : (b : Bool) → is_blank c ≡ b → accepted (if b then Some (in_words false true) else (if in_name c then Some (in_words true one) else None)) (λ g. read_on entities d g cs)
        ≡ (list_all may_stand cs && (list_all in_name (head_word (c ∷ cs)) && come d.kind true (other_words (c ∷ cs))))
    at true e = outer true ∙ ap (λ (ws : List (List ℕ)). list_all may_stand cs && come d.kind true ws) (sym (others_blank c cs e)) ∙ ap (λ (w : List ℕ). list_all may_stand cs && (list_all in_name w && come d.kind true (other_words (c ∷ cs)))) (sym (head_blank c cs e))
    at false e = named (in_name c) refl ∙ ap (λ (ws : List (List ℕ)). list_all may_stand cs && (list_all in_name (c ∷ head_word cs) && come d.kind true ws)) (sym (others_other c cs e)) ∙ ap (λ (w : List ℕ). list_all may_stand cs && (list_all in_name w && come d.kind true (other_words (c ∷ cs)))) (sym (head_other c cs e))

outside_more : (entities : List (List ℕ)) (d : Declared) (c : ℕ) (cs : List ℕ) (one : Bool) → InsideIs entities d cs → OutsideIs entities d cs
    → accepted (kept_step entities d.kind (in_words false one) c) (λ g. read_on entities d g cs) ≡ (list_all may_stand cs && come d.kind one (words_of (c ∷ cs)))
outside_more entities d c cs one inner outer = at (is_blank c) refl
  where
    begun : (b : Bool) → accepted (if b then Some (in_words true one) else None) (λ g. read_on entities d g cs) ≡ (list_all may_stand cs && (b && (list_all in_name (head_word cs) && come d.kind true (other_words cs))))
    begun true = inner one
    begun false = sym (and_false (list_all may_stand cs))

    at : (b : Bool) → is_blank c ≡ b → accepted (if b then Some (in_words false one) else (if (not one || has_many d.kind) && begins_word d.kind c then Some (in_words true one) else None)) (λ g. read_on entities d g cs)
        ≡ (list_all may_stand cs && come d.kind one (words_of (c ∷ cs)))
    at true e = outer one ∙ ap (λ (ws : List (List ℕ)). list_all may_stand cs && come d.kind one ws) (sym (words_blank c cs e))
    at false e =
        begun ((not one || has_many d.kind) && begins_word d.kind c)
        ∙ ap (λ (b : Bool). list_all may_stand cs && b) (sym (come_word d.kind one c (head_word cs) (other_words cs)))
        ∙ ap (λ (ws : List (List ℕ)). list_all may_stand cs && come d.kind one ws) (sym (words_other c cs e))

words_both : (entities : List (List ℕ)) (d : Declared) (cs : List ℕ) → InsideIs entities d cs × OutsideIs entities d cs
words_both entities d [] = (λ one. sym (come_none d.kind), none)
  where
    none : (one : Bool) → one ≡ come d.kind one []
    none true = sym (come_none d.kind)
    none false = sym (begin_none d.kind)
words_both entities d (c ∷ cs) = (
  λ one. one_more entities d (in_words true one) c cs _ (λ h. inside_more entities d c cs one (words_both entities d cs).0 (words_both entities d cs).1),
  λ one. one_more entities d (in_words false one) c cs _ (λ h. outside_more entities d c cs one (words_both entities d cs).0 (words_both entities d cs).1),
)

-- Choices.

abbrev AreNames : Kind → Type 0
AreNames kind = (word : List ℕ) → is_chosen kind word ≡ true → list_all in_name word ≡ true

not_chosen : (kind : Kind) → AreNames kind → (xs : List ℕ) (c : ℕ) (cs : List ℕ) → in_name c ≡ false → is_chosen kind (xs ++ c ∷ cs) ≡ false
not_chosen kind names xs c cs h = at (is_chosen kind (xs ++ c ∷ cs)) refl
  where
    none : (xs : List ℕ) → list_all in_name (xs ++ c ∷ cs) ≡ true → ⊥
    none [] e = let z = sym h ∙ (and_parts (in_name c) (list_all in_name cs) e).0 in cc
    none (x ∷ xs) e = none xs (and_parts (in_name x) (list_all in_name (xs ++ c ∷ cs)) e).1

    at : (b : Bool) → is_chosen kind (xs ++ c ∷ cs) ≡ b → b ≡ false
    at true e = absurd (none xs (names (xs ++ c ∷ cs) e))
    at false e = refl

and_true : (x : Bool) → (x && true) ≡ x
and_true true = refl
and_true false = refl

spaced_accepted : (entities : List (List ℕ)) (d : Declared) (cs : List ℕ) (n : ℕ) (word : List ℕ) → read_on entities d (in_choice (n ∷ word) true) cs ≡ (list_all may_stand cs && (is_chosen d.kind (n ∷ word) && is_nil (words_of cs)))
spaced_accepted entities d [] n word = sym (and_true (is_chosen d.kind (n ∷ word)))
spaced_accepted entities d (c ∷ cs) n word = one_more entities d (in_choice (n ∷ word) true) c cs _ (λ h. at (is_blank c) refl (spaced_accepted entities d cs n word))
  where
    at : (b : Bool) → is_blank c ≡ b → read_on entities d (in_choice (n ∷ word) true) cs ≡ (list_all may_stand cs && (is_chosen d.kind (n ∷ word) && is_nil (words_of cs)))
        → accepted (if b then Some (in_choice (n ∷ word) true) else None) (λ g. read_on entities d g cs) ≡ (list_all may_stand cs && (is_chosen d.kind (n ∷ word) && is_nil (words_of (c ∷ cs))))
    at true e ih = ih ∙ ap (λ (ws : List (List ℕ)). list_all may_stand cs && (is_chosen d.kind (n ∷ word) && is_nil ws)) (sym (words_blank c cs e))
    at false e ih = sym (ap (λ (ws : List (List ℕ)). list_all may_stand cs && (is_chosen d.kind (n ∷ word) && is_nil ws)) (words_other c cs e) ∙ ap (λ (b : Bool). list_all may_stand cs && b) (and_false (is_chosen d.kind (n ∷ word))) ∙ and_false (list_all may_stand cs))

word_accepted : (entities : List (List ℕ)) (d : Declared) → AreNames d.kind → (cs : List ℕ) (n : ℕ) (word : List ℕ)
    → read_on entities d (in_choice (n ∷ word) false) cs ≡ (list_all may_stand cs && (is_chosen d.kind (n ∷ (word ++ head_word cs)) && is_nil (other_words cs)))
word_accepted entities d names [] n word = ap (λ (w : List ℕ). is_chosen d.kind (n ∷ w)) (sym (append-nil word)) ∙ sym (and_true (is_chosen d.kind (n ∷ (word ++ []))))
word_accepted entities d names (c ∷ cs) n word = one_more entities d (in_choice (n ∷ word) false) c cs _ (λ h. at (is_blank c) refl (word_accepted entities d names cs n (word ++ c ∷ [])))
  where
    goal : List ℕ → List (List ℕ) → Bool
    goal w ws = list_all may_stand cs && (is_chosen d.kind (n ∷ (word ++ w)) && is_nil ws)

    named : (b : Bool) → in_name c ≡ b → read_on entities d (in_choice (n ∷ (word ++ c ∷ [])) false) cs ≡ (list_all may_stand cs && (is_chosen d.kind (n ∷ ((word ++ c ∷ []) ++ head_word cs)) && is_nil (other_words cs)))
        → accepted (if b then Some (in_choice (n ∷ (word ++ c ∷ [])) false) else None) (λ g. read_on entities d g cs) ≡ (list_all may_stand cs && (is_chosen d.kind (n ∷ (word ++ c ∷ head_word cs)) && is_nil (other_words cs)))
    named true h ih = ih ∙ ap (λ (w : List ℕ). list_all may_stand cs && (is_chosen d.kind (n ∷ w) && is_nil (other_words cs))) (append_assoc word (c ∷ []) (head_word cs))
    named false h ih = sym (ap (λ (b : Bool). list_all may_stand cs && (b && is_nil (other_words cs))) (not_chosen d.kind names (n ∷ word) c (head_word cs) h) ∙ and_false (list_all may_stand cs))

    at : (b : Bool) → is_blank c ≡ b → read_on entities d (in_choice (n ∷ (word ++ c ∷ [])) false) cs ≡ (list_all may_stand cs && (is_chosen d.kind (n ∷ ((word ++ c ∷ []) ++ head_word cs)) && is_nil (other_words cs)))
        → accepted (if b then Some (in_choice (n ∷ word) true) else (if in_name c then Some (in_choice (n ∷ (word ++ c ∷ [])) false) else None)) (λ g. read_on entities d g cs)
        ≡ (list_all may_stand cs && (is_chosen d.kind (n ∷ (word ++ head_word (c ∷ cs))) && is_nil (other_words (c ∷ cs))))
    at true e ih =
        spaced_accepted entities d cs n word
        ∙ ap (λ (w : List ℕ). list_all may_stand cs && (is_chosen d.kind (n ∷ w) && is_nil (words_of cs))) (sym (append-nil word))
        ∙ ap (λ (ws : List (List ℕ)). list_all may_stand cs && (is_chosen d.kind (n ∷ (word ++ [])) && is_nil ws)) (sym (others_blank c cs e))
        ∙ ap (λ (w : List ℕ). list_all may_stand cs && (is_chosen d.kind (n ∷ (word ++ w)) && is_nil (other_words (c ∷ cs)))) (sym (head_blank c cs e))
    at false e ih =
        named (in_name c) refl ih
        ∙ ap (λ (ws : List (List ℕ)). list_all may_stand cs && (is_chosen d.kind (n ∷ (word ++ c ∷ head_word cs)) && is_nil ws)) (sym (others_other c cs e))
        ∙ ap (λ (w : List ℕ). list_all may_stand cs && (is_chosen d.kind (n ∷ (word ++ w)) && is_nil (other_words (c ∷ cs)))) (sym (head_other c cs e))

choice_accepted : (entities : List (List ℕ)) (d : Declared) → AreNames d.kind → (cs : List ℕ) → read_on entities d (in_choice [] false) cs ≡ (list_all may_stand cs && is_one_word (is_chosen d.kind) (words_of cs))
choice_accepted entities d names [] = refl
choice_accepted entities d names (c ∷ cs) = one_more entities d (in_choice [] false) c cs _ (λ h. at (is_blank c) refl (choice_accepted entities d names cs))
  where
    one : (word : List ℕ) (words : List (List ℕ)) → (is_chosen d.kind word && is_nil words) ≡ is_one_word (is_chosen d.kind) (word ∷ words)
    one word [] = and_true (is_chosen d.kind word)
    one word (w ∷ ws) = and_false (is_chosen d.kind word)

    named : (b : Bool) → in_name c ≡ b → accepted (if b then Some (in_choice (c ∷ []) false) else None) (λ g. read_on entities d g cs) ≡ (list_all may_stand cs && (is_chosen d.kind (c ∷ head_word cs) && is_nil (other_words cs)))
    named true h = word_accepted entities d names cs c []
    named false h = sym (ap (λ (b : Bool). list_all may_stand cs && (b && is_nil (other_words cs))) (not_chosen d.kind names [] c (head_word cs) h) ∙ and_false (list_all may_stand cs))

    at : (b : Bool) → is_blank c ≡ b → read_on entities d (in_choice [] false) cs ≡ (list_all may_stand cs && is_one_word (is_chosen d.kind) (words_of cs))
        → accepted (if b then Some (in_choice [] false) else (if in_name c then Some (in_choice (c ∷ []) false) else None)) (λ g. read_on entities d g cs) ≡ (list_all may_stand cs && is_one_word (is_chosen d.kind) (words_of (c ∷ cs)))
    at true e ih = ih ∙ ap (λ (ws : List (List ℕ)). list_all may_stand cs && is_one_word (is_chosen d.kind) ws) (sym (words_blank c cs e))
    at false e ih =
        named (in_name c) refl
        ∙ ap (λ (b : Bool). list_all may_stand cs && b) (one (c ∷ head_word cs) (other_words cs))
        ∙ ap (λ (ws : List (List ℕ)). list_all may_stand cs && is_one_word (is_chosen d.kind) ws) (sym (words_other c cs e))

-- All kinds.

-- the words are names, so nothing is referred to
abbrev Named : (List ℕ → Bool) → Type 0
Named test = (word : List ℕ) → test word ≡ true → list_all in_name word ≡ true

name_named : Named is_name
name_named [] h = cc
name_named (c ∷ cs) h = let p = and_parts (begins_name c) (list_all in_name cs) h in and_from (in_name c) (list_all in_name cs) (begins c p.0) p.1
  where
    begins : (c : ℕ) → begins_name c ≡ true → in_name c ≡ true
    begins c h = grind (arith, nat_tests)

token_named : Named is_name_token
token_named [] h = cc
token_named (c ∷ cs) h = h

one_named : (test : List ℕ → Bool) → Named test → (words : List (List ℕ)) → is_one_word test words ≡ true → in_names words ≡ true
one_named test f [] h = cc
one_named test f (word ∷ []) h = and_from (list_all in_name word) true (f word h) refl
one_named test f (word ∷ second ∷ words) h = cc

all_named : (test : List ℕ → Bool) → Named test → (words : List (List ℕ)) → list_all test words ≡ true → in_names words ≡ true
all_named test f [] h = refl
all_named test f (word ∷ words) h = let p = and_parts (test word) (list_all test words) h in and_from (list_all in_name word) (in_names words) (f word p.0) (all_named test f words p.1)

are_named : (test : List ℕ → Bool) → Named test → (words : List (List ℕ)) → are_words test words ≡ true → in_names words ≡ true
are_named test f [] h = cc
are_named test f (word ∷ words) h = all_named test f (word ∷ words) h

chosen_named : (tokens : List (List ℕ)) → list_all is_name_token tokens ≡ true → Named (λ word. list_any (bytes_eq word) tokens)
chosen_named [] h word e = cc
chosen_named (t ∷ tokens) h word e = at (bytes_eq word t) refl e (λ k q. chosen_named tokens k word q)
  where
    p : (is_name_token t ≡ true) × (list_all is_name_token tokens ≡ true)
    p = and_parts (is_name_token t) (list_all is_name_token tokens) h

    at : (b : Bool) → bytes_eq word t ≡ b → (b || list_any (bytes_eq word) tokens) ≡ true → (list_all is_name_token tokens ≡ true → list_any (bytes_eq word) tokens ≡ true → list_all in_name word ≡ true) → list_all in_name word ≡ true
    at true q e ih = ap (list_all in_name) ((bytes_eq-Decides word t).0 q) ∙ token_named t p.0
    at false q e ih = ih p.1 e

abbrev the : List ℕ → Kind → Presence → Declared
the name kind presence = record { name = name; kind = kind; presence = presence }

abbrev refers : List (List ℕ) → List ℕ → Bool
refers entities value = refers_by is_reference value && refers_by (is_known entities) value

words_refer : (entities : List (List ℕ)) (value : List ℕ) → in_names (words_of value) ≡ true → refers entities value ≡ true
words_refer entities value h = let f = words_free value h in and_from _ _ (refers_none is_reference value f) (refers_none (is_known entities) value f)

implied_by : (l h r : Bool) → (h ≡ true → r ≡ true) → (l && h) ≡ (l && (r && (h && true)))
implied_by l true r f = ap (λ (b : Bool). l && (b && true)) (sym (f refl))
implied_by l false r f = ap (λ (b : Bool). l && b) (sym (and_false r))

kind_accepted : (entities : List (List ℕ)) (name : List ℕ) (kind : Kind) (presence : Presence) (value : List ℕ) → is_lawful_kind kind ≡ true
    → read_on entities (the name kind presence) (kind_start kind) value ≡ (list_all may_stand value && (refers entities value && (has_kind kind value && true)))
kind_accepted entities name cdata presence value h =
    (both entities (the name cdata presence) value).0 ∙ ap (λ (b : Bool). list_all may_stand value && b) (refers_both is_reference (is_known entities) value ∙ sym (and_true (refers entities value)))
kind_accepted entities name id presence value h =
    (words_both entities (the name id presence) value).1 false ∙ implied_by _ _ (refers entities value) (λ e. words_refer entities value (one_named is_name name_named (words_of value) e))
kind_accepted entities name idref presence value h =
    (words_both entities (the name idref presence) value).1 false ∙ implied_by _ _ (refers entities value) (λ e. words_refer entities value (one_named is_name name_named (words_of value) e))
kind_accepted entities name idrefs presence value h =
    (words_both entities (the name idrefs presence) value).1 false ∙ implied_by _ _ (refers entities value) (λ e. words_refer entities value (are_named is_name name_named (words_of value) e))
kind_accepted entities name nmtoken presence value h =
    (words_both entities (the name nmtoken presence) value).1 false ∙ implied_by _ _ (refers entities value) (λ e. words_refer entities value (one_named is_name_token token_named (words_of value) e))
kind_accepted entities name nmtokens presence value h =
    (words_both entities (the name nmtokens presence) value).1 false ∙ implied_by _ _ (refers entities value) (λ e. words_refer entities value (are_named is_name_token token_named (words_of value) e))
kind_accepted entities name (one_of tokens) presence value h =
    choice_accepted entities (the name (one_of tokens) presence) (chosen_named tokens h) value
    ∙ implied_by _ _ (refers entities value) (λ e. words_refer entities value (one_named (λ word. list_any (bytes_eq word) tokens) (chosen_named tokens h) (words_of value) e))

by_presence : (entities : List (List ℕ)) (name : List ℕ) (kind : Kind) (presence : Presence) (value : List ℕ) → is_lawful_kind kind ≡ true → read_on entities (the name kind presence) (value_start (the name kind presence)) value ≡ may_have entities (the name kind presence) value
by_presence entities name kind (fixed wanted) value h = fixed_accepted entities (the name kind (fixed wanted)) value []
by_presence entities name kind implied value h = kind_accepted entities name kind implied value h
by_presence entities name kind required value h = kind_accepted entities name kind required value h
by_presence entities name kind with_default value h = kind_accepted entities name kind with_default value h

pub values_accepted : (entities : List (List ℕ)) (d : Declared) (value : List ℕ) → is_lawful_kind d.kind ≡ true → read_on entities d (value_start d) value ≡ may_have entities d value
values_accepted entities d value h = by_presence entities d.name d.kind d.presence value h
