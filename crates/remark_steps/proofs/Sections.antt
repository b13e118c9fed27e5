-- A CDATA section is left at its end.
use Rattle.std.proofs.Common.{◌≡◌, ℕ, Bool, true, false, ◌&&◌, ◌||◌, List, [], ◌∷◌, ◌++◌, Option, Some, refl, sym, ◌∙◌, ap, subst}
use Rattle.std.specs.Prelude.{if◌then◌else◌, nat_eq, codes}
use Rattle.std.specs.List.{list_all}
use Rattle.std.proofs.lemmas.Bool.{and_parts, and_from}
use Rattle.xml_text.specs.Characters.{is_character}
use Rattle.xml_text.specs.Texts.{holds}
use Rattle.page_model.specs.Parts.{IsSection}
use Rattle.piece_steps.specs.Insides.{Turn, on, out, stop, turned, past}
use Rattle.remark_steps.specs.Turns.{section_turn}
use Rattle.remark_steps.specs.Laws.{IsLeft, SectionsLeft}
use Rattle.remark_steps.proofs.Tests.{some_same, or_parts, or_none, and_none, and_second, not_it, is_it}

abbrev NoEnd : List ℕ → Type 0
NoEnd cs = holds (codes "]]>") cs ≡ false

abbrev on_by : Turn ℕ → List ℕ → Option (List ℕ)
on_by t cs = turned t (λ g. past section_turn g cs) cs

abbrev Goes : ℕ → List ℕ → List ℕ → Type 0
Goes brackets text rest = past section_turn brackets (text ++ (codes "]]>" ++ rest)) ≡ Some rest

-- none of the last characters is `]`, one is, or two
record FromAll (text rest : List ℕ) : Type 0 where
  none : NoEnd text → Goes 0 text rest
  one : NoEnd (93 ∷ text) → Goes 1 text rest
  two : NoEnd (93 ∷ 93 ∷ text) → Goes 2 text rest

rest_of : (c : ℕ) (cs : List ℕ) → NoEnd (c ∷ cs) → NoEnd cs
rest_of c cs h = (or_parts _ _ h).1

more : (c : ℕ) (cs rest : List ℕ) → is_character c ≡ true → FromAll cs rest → FromAll (c ∷ cs) rest
more c cs rest h ih = record {
  none = λ e. ap (λ (b : Bool). on_by (if b then (if nat_eq c 62 && false then out else (if nat_eq c 93 then on 1 else on 0)) else stop) (cs ++ (codes "]]>" ++ rest))) h ∙ none (nat_eq c 62) (nat_eq c 93) refl e;
  one = λ e. ap (λ (b : Bool). on_by (if b then (if nat_eq c 62 && false then out else (if nat_eq c 93 then on 2 else on 0)) else stop) (cs ++ (codes "]]>" ++ rest))) h ∙ one (nat_eq c 62) (nat_eq c 93) refl e;
  two = λ e. ap (λ (b : Bool). on_by (if b then (if nat_eq c 62 && true then out else (if nat_eq c 93 then on 2 else on 0)) else stop) (cs ++ (codes "]]>" ++ rest))) h ∙ two (nat_eq c 62) refl (nat_eq c 93) refl e;
}
  where
    none_by : (b : Bool) → nat_eq c 93 ≡ b → NoEnd (c ∷ cs) → on_by (if b then on 1 else on 0) (cs ++ (codes "]]>" ++ rest)) ≡ Some rest
    none_by true q e = ih.one (ap (λ (x : ℕ). holds (codes "]]>") (x ∷ cs)) (sym (is_it c 93 q)) ∙ e)
    none_by false q e = ih.none (or_parts _ _ e).1

    none : (a b : Bool) → nat_eq c 93 ≡ b → NoEnd (c ∷ cs) → on_by (if a && false then out else (if b then on 1 else on 0)) (cs ++ (codes "]]>" ++ rest)) ≡ Some rest
    none true b q e = none_by b q e
    none false b q e = none_by b q e

    one_by : (b : Bool) → nat_eq c 93 ≡ b → NoEnd (93 ∷ c ∷ cs) → on_by (if b then on 2 else on 0) (cs ++ (codes "]]>" ++ rest)) ≡ Some rest
    one_by true q e = ih.two (ap (λ (x : ℕ). holds (codes "]]>") (93 ∷ x ∷ cs)) (sym (is_it c 93 q)) ∙ e)
    one_by false q e = ih.none (or_parts _ _ (or_parts _ _ e).1).1

    one : (a b : Bool) → nat_eq c 93 ≡ b → NoEnd (93 ∷ c ∷ cs) → on_by (if a && false then out else (if b then on 2 else on 0)) (cs ++ (codes "]]>" ++ rest)) ≡ Some rest
    one true b q e = one_by b q e
    one false b q e = one_by b q e

    two : (a : Bool) → nat_eq c 62 ≡ a → (b : Bool) → nat_eq c 93 ≡ b → NoEnd (93 ∷ 93 ∷ c ∷ cs) → on_by (if a && true then out else (if b then on 2 else on 0)) (cs ++ (codes "]]>" ++ rest)) ≡ Some rest
    two true p b q e = let z : NoEnd (93 ∷ 93 ∷ 62 ∷ cs) = ap (λ (x : ℕ). holds (codes "]]>") (93 ∷ 93 ∷ x ∷ cs)) (sym (is_it c 62 p)) ∙ e in cc
    two false p true q e =
        let z : NoEnd (93 ∷ 93 ∷ 93 ∷ cs) = ap (λ (x : ℕ). holds (codes "]]>") (93 ∷ 93 ∷ x ∷ cs)) (sym (is_it c 93 q)) ∙ e in
        ih.two z
    two false p false q e = ih.none (rest_of c cs (rest_of 93 (c ∷ cs) (rest_of 93 (93 ∷ c ∷ cs) e)))

from_all : (text rest : List ℕ) → list_all is_character text ≡ true → FromAll text rest
from_all [] rest all = record { none = λ e. refl; one = λ e. refl; two = λ e. refl }
from_all (c ∷ cs) rest all = let p = and_parts (is_character c) (list_all is_character cs) all in more c cs rest p.0 (from_all cs rest p.1)

-- Back.

abbrev Is : List ℕ → List ℕ → Type 0
Is cs rest = IsLeft IsSection (codes "]]>") cs rest

record IntoAll (cs rest : List ℕ) : Type 0 where
  none : past section_turn 0 cs ≡ Some rest → Is cs rest
  one : past section_turn 1 cs ≡ Some rest → Is (93 ∷ cs) rest
  two : past section_turn 2 cs ≡ Some rest → Is (93 ∷ 93 ∷ cs) rest

-- what begins no end with the characters behind it
plain : (c : ℕ) (cs : List ℕ) → nat_eq c 93 ≡ false → NoEnd cs → NoEnd (c ∷ cs)
plain c [] q e = or_none _ _ (and_none _ _ (not_it c 93 q)) e
plain c (d ∷ cs) q e = or_none _ _ (and_none _ _ (not_it c 93 q)) e

one_plain : (c : ℕ) (cs : List ℕ) → nat_eq c 93 ≡ false → NoEnd (c ∷ cs) → NoEnd (93 ∷ c ∷ cs)
one_plain c [] q e = or_none _ _ (and_none _ _ (not_it c 93 q)) e
one_plain c (d ∷ cs) q e = or_none _ _ (and_none _ _ (not_it c 93 q)) e

two_plain : (c : ℕ) (cs : List ℕ) → nat_eq c 62 ≡ false → NoEnd (93 ∷ c ∷ cs) → NoEnd (93 ∷ 93 ∷ c ∷ cs)
two_plain c cs q e = or_none _ _ (and_none _ _ (not_it c 62 q)) e

abbrev before : (c : ℕ) (cs rest : List ℕ) → is_character c ≡ true → (l : Is cs rest) → NoEnd (c ∷ l.text) → Is (c ∷ cs) rest
before c cs rest h l e = record {
  text = c ∷ l.text;
  spelled = ap (λ (w : List ℕ). c ∷ w) l.spelled;
  is = record { characters = and_from (is_character c) (list_all is_character l.text) h l.is.characters; no_end = e };
}

-- one more `]` before two
third : (cs rest : List ℕ) → Is (93 ∷ 93 ∷ cs) rest → Is (93 ∷ 93 ∷ 93 ∷ cs) rest
third cs rest l = before 93 (93 ∷ 93 ∷ cs) rest refl l (at l.text l.spelled l.is.no_end)
  where
    one_bracket : (b : Bool) → ((b && false) || false) ≡ false
    one_bracket true = refl
    one_bracket false = refl

    at : (text : List ℕ) → text ++ (codes "]]>" ++ rest) ≡ 93 ∷ 93 ∷ cs → NoEnd text → NoEnd (93 ∷ text)
    at [] e n = refl
    at (a ∷ []) e n = let q : a ≡ 93 = cc in ap (λ (x : ℕ). holds (codes "]]>") (93 ∷ x ∷ [])) q
    at (a ∷ b ∷ text) e n = let q : b ≡ 93 = cc in or_none _ _ (and_second _ _ (and_none _ _ (ap (nat_eq 62) q))) n

into_more : (c : ℕ) (cs rest : List ℕ) → IntoAll cs rest → IntoAll (c ∷ cs) rest
into_more c cs rest ih = record {
  none = λ e. none (is_character c) refl (nat_eq c 62) (nat_eq c 93) refl e;
  one = λ e. one (is_character c) refl (nat_eq c 62) (nat_eq c 93) refl e;
  two = λ e. two (is_character c) refl (nat_eq c 62) refl (nat_eq c 93) refl e;
}
  where
    none_by : is_character c ≡ true → (b : Bool) → nat_eq c 93 ≡ b → on_by (if b then on 1 else on 0) cs ≡ Some rest → Is (c ∷ cs) rest
    none_by h true q e = subst (λ (x : ℕ). Is (x ∷ cs) rest) (sym (is_it c 93 q)) (ih.one e)
    none_by h false q e = let l = ih.none e in before c cs rest h l (plain c l.text q l.is.no_end)

    none : (a : Bool) → is_character c ≡ a → (x b : Bool) → nat_eq c 93 ≡ b → on_by (if a then (if x && false then out else (if b then on 1 else on 0)) else stop) cs ≡ Some rest → Is (c ∷ cs) rest
    none true h true b q e = none_by h b q e
    none true h false b q e = none_by h b q e
    none false h x b q e = cc

    one_by : is_character c ≡ true → (b : Bool) → nat_eq c 93 ≡ b → on_by (if b then on 2 else on 0) cs ≡ Some rest → Is (93 ∷ c ∷ cs) rest
    one_by h true q e = subst (λ (x : ℕ). Is (93 ∷ x ∷ cs) rest) (sym (is_it c 93 q)) (ih.two e)
    one_by h false q e =
        let l = ih.none e in
        let n = plain c l.text q l.is.no_end in
        before 93 (c ∷ cs) rest refl (before c cs rest h l n) (one_plain c l.text q n)

    one : (a : Bool) → is_character c ≡ a → (x b : Bool) → nat_eq c 93 ≡ b → on_by (if a then (if x && false then out else (if b then on 2 else on 0)) else stop) cs ≡ Some rest → Is (93 ∷ c ∷ cs) rest
    one true h true b q e = one_by h b q e
    one true h false b q e = one_by h b q e
    one false h x b q e = cc

    two : (a : Bool) → is_character c ≡ a → (x : Bool) → nat_eq c 62 ≡ x → (b : Bool) → nat_eq c 93 ≡ b → on_by (if a then (if x && true then out else (if b then on 2 else on 0)) else stop) cs ≡ Some rest → Is (93 ∷ 93 ∷ c ∷ cs) rest
    two true h true p b q e = record {
      text = [];
      spelled = ap (λ (w : List ℕ). 93 ∷ 93 ∷ 62 ∷ w) (sym (some_same cs rest e)) ∙ ap (λ (x : ℕ). 93 ∷ 93 ∷ x ∷ cs) (sym (is_it c 62 p));
      is = record { characters = refl; no_end = refl };
    }
    two true h false p true q e = subst (λ (x : ℕ). Is (93 ∷ 93 ∷ x ∷ cs) rest) (sym (is_it c 93 q)) (third cs rest (ih.two e))
    two true h false p false q e =
        let l = ih.none e in
        let n = plain c l.text q l.is.no_end in
        let m = one_plain c l.text q n in
        before 93 (93 ∷ c ∷ cs) rest refl (before 93 (c ∷ cs) rest refl (before c cs rest h l n) m) (two_plain c l.text p m)
    two false h x p b q e = cc

into_all : (cs rest : List ℕ) → IntoAll cs rest
into_all [] rest = record { none = λ e. cc; one = λ e. cc; two = λ e. cc }
into_all (c ∷ cs) rest = into_more c cs rest (into_all cs rest)

pub sections_left : SectionsLeft
sections_left = (λ text rest h. (from_all text rest h.characters).none h.no_end, λ cs rest e. (into_all cs rest).none e)
