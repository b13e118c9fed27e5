-- The words of the XML declaration, read in turn.
use Rattle.std.proofs.Common.{◌≡◌, ℕ, Bool, true, false, not, ◌&&◌, ◌||◌, List, [], ◌∷◌, ◌++◌, Option, Some, None, refl, sym, ◌∙◌, ap, subst, arith, append-nil, append_assoc}
use Rattle.std.specs.Prelude.{if◌then◌else◌, nat_eq, codes, bytes_eq}
use Rattle.std.specs.Char.{to_ascii_lowercase}
use Rattle.std.specs.List.{list_all}
use Rattle.std.specs.Str.{str_eq_ignore_ascii_case}
use Rattle.std.proofs.lemmas.Bool.{and_parts, and_from}
use Rattle.std.proofs.lemmas.Bool.Decides.{nat_tests}
use Rattle.std.proofs.lemmas.Slice.Eq.{bytes_eq-Decides}
use Rattle.xml_text.specs.Characters.{is_character}
use Rattle.dtd_model.specs.References.{is_reference}
use Rattle.page_model.specs.Parts.{Attribute, IsAttribute, AreAttributes, may_be_quoted, refers_by}
use Rattle.page_model.specs.Prolog.{is_version, is_encoding, is_standalone, may_follow_version, is_in_order}
use Rattle.piece_steps.specs.Insides.{accepted, accepts}
use Rattle.page_model.specs.OpenValues.{in_fixed}
use Rattle.page_steps.specs.TagSteps.{may_be_word, is_word_value, word_step, word_good, of_declaration}
use Rattle.page_steps.specs.ValueSteps.{may_stand}
use Rattle.attribute_steps.specs.Among.{May, AllMay}
use Rattle.attribute_steps.proofs.Quotes.{to_quoted, from_quoted}
use Rattle.reference_steps.proofs.Values.{refers_none}
use Rattle.reference_steps.proofs.Words.{no_ampersand}

same : (a b : List ℕ) → bytes_eq a b ≡ true → a ≡ b
same a b e = (bytes_eq-Decides a b).0 e

-- Values.

value_is : (name cs value : List ℕ) → accepts (λ v c. word_step v c) (word_good name) (in_fixed value) cs ≡ (list_all may_stand cs && is_word_value name (value ++ cs))
value_is name [] value = ap (is_word_value name) (sym (append-nil value))
value_is name (c ∷ cs) value = at (may_stand c) (value_is name cs (value ++ c ∷ []))
  where
    at : (b : Bool) → accepts (λ v c. word_step v c) (word_good name) (in_fixed (value ++ c ∷ [])) cs ≡ (list_all may_stand cs && is_word_value name ((value ++ c ∷ []) ++ cs))
        → accepted (if b then Some (in_fixed (value ++ c ∷ [])) else None) (λ g. accepts (λ v c. word_step v c) (word_good name) g cs) ≡ ((b && list_all may_stand cs) && is_word_value name (value ++ c ∷ cs))
    at true ih = ih ∙ ap (λ (w : List ℕ). list_all may_stand cs && is_word_value name w) (append_assoc value (c ∷ []) cs)
    at false ih = refl

lower_plain : (c d : ℕ) → nat_eq d 38 ≡ false → nat_eq (to_ascii_lowercase c) d ≡ true → nat_eq (to_ascii_lowercase 38) d ≡ false → nat_eq c 38 ≡ false
lower_plain c d h e f = at (nat_eq c 38) refl
  where
    is_it : (a b : ℕ) → nat_eq a b ≡ true → a ≡ b
    is_it a b e = grind (arith, nat_tests)

    at : (b : Bool) → nat_eq c 38 ≡ b → b ≡ false
    at true q = let z : true ≡ false = sym e ∙ ap (λ (x : ℕ). nat_eq (to_ascii_lowercase x) d) (is_it c 38 q) ∙ f in cc
    at false q = refl

no_one : (x : Bool) → (x && false) ≡ true → ⊥
no_one true e = cc
no_one false e = cc

no_two : (x y : Bool) → (x && (y && false)) ≡ true → ⊥
no_two true y e = no_one y e
no_two false y e = cc

no_three : (x y z : Bool) → (x && (y && (z && false))) ≡ true → ⊥
no_three true y z e = no_two y z e
no_three false y z e = cc

no_four : (x y z w : Bool) → (x && (y && (z && (w && false)))) ≡ true → ⊥
no_four true y z w e = no_three y z w e
no_four false y z w e = cc

no_five : (x y z w v : Bool) → (x && (y && (z && (w && (v && false))))) ≡ true → ⊥
no_five true y z w v e = no_four y z w v e
no_five false y z w v e = cc

record Five (x y z w v : Bool) : Type 0 where
  first : x ≡ true
  second : y ≡ true
  third : z ≡ true
  fourth : w ≡ true
  fifth : v ≡ true

five : (x y z w v : Bool) → (x && (y && (z && (w && (v && true))))) ≡ true → Five x y z w v
five true true true true true e = record { first = refl; second = refl; third = refl; fourth = refl; fifth = refl }
five true true true true false e = cc
five true true true false v e = cc
five true true false w v e = cc
five true false z w v e = cc
five false y z w v e = cc

abbrev is_letter : ℕ → ℕ → Bool
is_letter c d = nat_eq (to_ascii_lowercase c) d

all_five : (a b c d f : ℕ) → no_ampersand a ≡ true → no_ampersand b ≡ true → no_ampersand c ≡ true → no_ampersand d ≡ true → no_ampersand f ≡ true → list_all no_ampersand (a ∷ b ∷ c ∷ d ∷ f ∷ []) ≡ true
all_five a b c d f p q r s t =
    and_from (no_ampersand a) _ p (and_from (no_ampersand b) _ q (and_from (no_ampersand c) _ r (and_from (no_ampersand d) _ s (and_from (no_ampersand f) true t refl))))

-- `UTF-8` in any case holds no `&`
plain_encoding : (value : List ℕ) → str_eq_ignore_ascii_case value (codes "UTF-8") ≡ true → list_all no_ampersand value ≡ true
plain_encoding [] e = refl
plain_encoding (a ∷ []) e = absurd (no_one (is_letter a 117) e)
plain_encoding (a ∷ b ∷ []) e = absurd (no_two (is_letter a 117) (is_letter b 116) e)
plain_encoding (a ∷ b ∷ c ∷ []) e = absurd (no_three (is_letter a 117) (is_letter b 116) (is_letter c 102) e)
plain_encoding (a ∷ b ∷ c ∷ d ∷ []) e = absurd (no_four (is_letter a 117) (is_letter b 116) (is_letter c 102) (is_letter d 45) e)
plain_encoding (a ∷ b ∷ c ∷ d ∷ f ∷ []) e =
    let l = five (is_letter a 117) (is_letter b 116) (is_letter c 102) (is_letter d 45) (is_letter f 56) e in
    all_five a b c d f (ap not (lower_plain a 117 refl l.first refl)) (ap not (lower_plain b 116 refl l.second refl)) (ap not (lower_plain c 102 refl l.third refl)) (ap not (lower_plain d 45 refl l.fourth refl)) (ap not (lower_plain f 56 refl l.fifth refl))
plain_encoding (a ∷ b ∷ c ∷ d ∷ f ∷ g ∷ more) e = absurd (no_five (is_letter a 117) (is_letter b 116) (is_letter c 102) (is_letter d 45) (is_letter f 56) e)

plain_by : (value word : List ℕ) → bytes_eq value word ≡ true → list_all no_ampersand word ≡ true → list_all no_ampersand value ≡ true
plain_by value word e h = ap (list_all no_ampersand) (same value word e) ∙ h

-- a word of the declaration refers to nothing
plain_word : (name value : List ℕ) → is_word_value name value ≡ true → list_all no_ampersand value ≡ true
plain_word name value e = at (bytes_eq name (codes "version")) (bytes_eq name (codes "encoding")) (bytes_eq value (codes "yes")) refl (bytes_eq value (codes "no")) refl e
  where
    at : (x y a : Bool) → bytes_eq value (codes "yes") ≡ a → (b : Bool) → bytes_eq value (codes "no") ≡ b
        → (if x then bytes_eq value (codes "1.0") else (if y then str_eq_ignore_ascii_case value (codes "UTF-8") else a || b)) ≡ true → list_all no_ampersand value ≡ true
    at true y a p b q e = plain_by value (codes "1.0") e refl
    at false true a p b q e = plain_encoding value e
    at false false true p b q e = plain_by value (codes "yes") p refl
    at false false false p true q e = plain_by value (codes "no") q refl
    at false false false p false q e = cc

-- One word.

-- a word of the declaration as page_model asks
pub record IsWord (names : List (List ℕ)) (x : Attribute) : Type 0 where
  pub is : IsAttribute x
  pub may : may_be_word names x.name ≡ true
  pub value : is_word_value x.name x.value ≡ true

pub to_may : (names : List (List ℕ)) (x : Attribute) → IsWord names x → May of_declaration names x
to_may names x w =
    let q = to_quoted x.quote x.value w.is.characters in
    record {
      some_space = w.is.some_space;
      blank_space = w.is.blank_space;
      named = w.is.named;
      blank_before = w.is.blank_before;
      blank_after = w.is.blank_after;
      quoted = w.is.quoted;
      free = q.free;
      may = w.may;
      accepted = value_is x.name x.value [] ∙ and_from (list_all may_stand x.value) (is_word_value x.name x.value) q.stand w.value;
    }

pub from_may : (names : List (List ℕ)) (x : Attribute) → May of_declaration names x → IsWord names x
from_may names x h =
    let p = and_parts (list_all may_stand x.value) (is_word_value x.name x.value) (sym (value_is x.name x.value []) ∙ h.accepted) in
    record {
      is = record {
        some_space = h.some_space;
        blank_space = h.blank_space;
        named = h.named;
        blank_before = h.blank_before;
        blank_after = h.blank_after;
        quoted = h.quoted;
        characters = from_quoted x.quote x.value p.0 h.free;
        references = refers_none is_reference x.value (plain_word x.name x.value p.1);
      };
      may = h.may;
      value = p.1;
    }

-- All words: the version, maybe the encoding, and whether it stands alone.

if_true : {A : Type 0} (b : Bool) (x y : A) → b ≡ true → (if b then x else y) ≡ x
if_true true x y h = refl
if_true false x y h = cc

-- a word of this name has one of its values
version_value : (x : Attribute) → bytes_eq x.name (codes "version") ≡ true → is_word_value x.name x.value ≡ bytes_eq x.value (codes "1.0")
version_value x e = ap (λ (n : List ℕ). is_word_value n x.value) (same x.name (codes "version") e)

encoding_value : (x : Attribute) → bytes_eq x.name (codes "encoding") ≡ true → is_word_value x.name x.value ≡ str_eq_ignore_ascii_case x.value (codes "UTF-8")
encoding_value x e = ap (λ (n : List ℕ). is_word_value n x.value) (same x.name (codes "encoding") e)

standalone_value : (x : Attribute) → bytes_eq x.name (codes "standalone") ≡ true → is_word_value x.name x.value ≡ (bytes_eq x.value (codes "yes") || bytes_eq x.value (codes "no"))
standalone_value x e = ap (λ (n : List ℕ). is_word_value n x.value) (same x.name (codes "standalone") e)

or_left : (a b : Bool) → a ≡ true → (a || b) ≡ true
or_left true b e = refl
or_left false b e = cc

or_right : (a b : Bool) → b ≡ true → (a || b) ≡ true
or_right true b e = refl
or_right false b e = e

to_version : (x : Attribute) → IsAttribute x → is_version x ≡ true → IsWord [] x
to_version x h e = let p = and_parts (bytes_eq x.name (codes "version")) (bytes_eq x.value (codes "1.0")) e in record { is = h; may = p.0; value = version_value x p.0 ∙ p.1 }

to_second : (v : List ℕ) (x : Attribute) → IsAttribute x → (is_encoding x || is_standalone x) ≡ true → IsWord (v ∷ []) x
to_second v x h e = at (is_encoding x) refl e
  where
    at : (b : Bool) → is_encoding x ≡ b → (b || is_standalone x) ≡ true → IsWord (v ∷ []) x
    at true q e =
        let p = and_parts (bytes_eq x.name (codes "encoding")) (str_eq_ignore_ascii_case x.value (codes "UTF-8")) q in
        record { is = h; may = or_left (bytes_eq x.name (codes "encoding")) (bytes_eq x.name (codes "standalone")) p.0; value = encoding_value x p.0 ∙ p.1 }
    at false q e =
        let p = and_parts (bytes_eq x.name (codes "standalone")) (bytes_eq x.value (codes "yes") || bytes_eq x.value (codes "no")) e in
        record { is = h; may = or_right (bytes_eq x.name (codes "encoding")) (bytes_eq x.name (codes "standalone")) p.0; value = standalone_value x p.0 ∙ p.1 }

to_third : (v : List ℕ) (e x : Attribute) → IsAttribute x → is_encoding e ≡ true → is_standalone x ≡ true → IsWord (v ∷ e.name ∷ []) x
to_third v e x h q s =
    let p = and_parts (bytes_eq e.name (codes "encoding")) (str_eq_ignore_ascii_case e.value (codes "UTF-8")) q in
    let r = and_parts (bytes_eq x.name (codes "standalone")) (bytes_eq x.value (codes "yes") || bytes_eq x.value (codes "no")) s in
    record { is = h; may = and_from (bytes_eq e.name (codes "encoding")) (bytes_eq x.name (codes "standalone")) p.0 r.0; value = standalone_value x r.0 ∙ r.1 }

pub to_all : (xs : List Attribute) → AreAttributes xs → is_in_order xs ≡ true → AllMay of_declaration [] xs
to_all [] h e = cc
to_all (a ∷ []) h e = let p = and_parts (is_version a) true e in (to_may [] a (to_version a h.0 p.0), tt)
to_all (a ∷ b ∷ []) h e =
    let p = and_parts (is_version a) (is_encoding b || is_standalone b) e in
    (to_may [] a (to_version a h.0 p.0), (to_may (a.name ∷ []) b (to_second a.name b h.1.0 p.1), tt))
to_all (a ∷ b ∷ c ∷ []) h e =
    let p = and_parts (is_version a) (is_encoding b && is_standalone c) e in
    let q = and_parts (is_encoding b) (is_standalone c) p.1 in
    (to_may [] a (to_version a h.0 p.0), (to_may (a.name ∷ []) b (to_second a.name b h.1.0 (or_left (is_encoding b) (is_standalone b) q.0)), (to_may (a.name ∷ b.name ∷ []) c (to_third a.name b c h.1.1.0 q.0 q.1), tt)))
to_all (a ∷ b ∷ c ∷ d ∷ more) h e = let p = and_parts (is_version a) false e in cc

from_version : (x : Attribute) → IsWord [] x → is_version x ≡ true
from_version x w = and_from (bytes_eq x.name (codes "version")) (bytes_eq x.value (codes "1.0")) w.may (sym (version_value x w.may) ∙ w.value)

from_standalone : (x : Attribute) → bytes_eq x.name (codes "standalone") ≡ true → is_word_value x.name x.value ≡ true → is_standalone x ≡ true
from_standalone x e v = and_from (bytes_eq x.name (codes "standalone")) (bytes_eq x.value (codes "yes") || bytes_eq x.value (codes "no")) e (sym (standalone_value x e) ∙ v)

from_encoding : (x : Attribute) → bytes_eq x.name (codes "encoding") ≡ true → is_word_value x.name x.value ≡ true → is_encoding x ≡ true
from_encoding x e v = and_from (bytes_eq x.name (codes "encoding")) (str_eq_ignore_ascii_case x.value (codes "UTF-8")) e (sym (encoding_value x e) ∙ v)

from_second : (v : List ℕ) (x : Attribute) → IsWord (v ∷ []) x → (is_encoding x || is_standalone x) ≡ true
from_second v x w = at (bytes_eq x.name (codes "encoding")) refl w.may
  where
    at : (b : Bool) → bytes_eq x.name (codes "encoding") ≡ b → (b || bytes_eq x.name (codes "standalone")) ≡ true → (is_encoding x || is_standalone x) ≡ true
    at true q e = or_left (is_encoding x) (is_standalone x) (from_encoding x q w.value)
    at false q e = or_right (is_encoding x) (is_standalone x) (from_standalone x e w.value)

pub from_all : (xs : List Attribute) → AllMay of_declaration [] xs → (xs ≡ [] → ⊥) → AreAttributes xs × (is_in_order xs ≡ true)
from_all [] h some = absurd (some refl)
from_all (a ∷ []) h some = let w = from_may [] a h.0 in ((w.is, tt), and_from (is_version a) true (from_version a w) refl)
from_all (a ∷ b ∷ []) h some =
    let w = from_may [] a h.0 in
    let u = from_may (a.name ∷ []) b h.1.0 in
    ((w.is, (u.is, tt)), and_from (is_version a) (is_encoding b || is_standalone b) (from_version a w) (from_second a.name b u))
from_all (a ∷ b ∷ c ∷ []) h some =
    let w = from_may [] a h.0 in
    let u = from_may (a.name ∷ []) b h.1.0 in
    let t = from_may (a.name ∷ b.name ∷ []) c h.1.1.0 in
    let p = and_parts (bytes_eq b.name (codes "encoding")) (bytes_eq c.name (codes "standalone")) t.may in
    ((w.is, (u.is, (t.is, tt))), and_from (is_version a) (is_encoding b && is_standalone c) (from_version a w) (and_from (is_encoding b) (is_standalone c) (from_encoding b p.0 u.value) (from_standalone c p.1 t.value)))
from_all (a ∷ b ∷ c ∷ d ∷ more) h some = let t = from_may (a.name ∷ b.name ∷ c.name ∷ []) d h.1.1.1.0 in let z = t.may in cc
