-- An instruction is left at its end.
use Rattle.std.proofs.Common.{◌≡◌, ℕ, Bool, true, false, ◌&&◌, List, [], ◌∷◌, ◌++◌, Option, Some, refl, sym, ◌∙◌, ap, subst}
use Rattle.std.specs.Prelude.{if◌then◌else◌, nat_eq, codes}
use Rattle.std.specs.List.{list_all}
use Rattle.std.proofs.lemmas.Bool.{and_parts, and_from}
use Rattle.xml_text.specs.Characters.{is_character}
use Rattle.xml_text.specs.Texts.{holds}
use Rattle.piece_steps.specs.Insides.{Turn, on, out, stop, turned, past}
use Rattle.remark_steps.specs.Turns.{instruction_turn}
use Rattle.remark_steps.specs.Laws.{IsLeft, IsData, InstructionsLeft}
use Rattle.remark_steps.proofs.Tests.{some_same, or_parts, or_none, and_none, not_it, is_it}

abbrev NoEnd : List ℕ → Type 0
NoEnd cs = holds (codes "?>") cs ≡ false

abbrev on_by : Turn Bool → List ℕ → Option (List ℕ)
on_by t cs = turned t (λ g. past instruction_turn g cs) cs

abbrev Goes : Bool → List ℕ → List ℕ → Type 0
Goes asked text rest = past instruction_turn asked (text ++ (codes "?>" ++ rest)) ≡ Some rest

record FromBoth (text rest : List ℕ) : Type 0 where
  none : NoEnd text → Goes false text rest
  one : NoEnd (63 ∷ text) → Goes true text rest

more : (c : ℕ) (cs rest : List ℕ) → is_character c ≡ true → FromBoth cs rest → FromBoth (c ∷ cs) rest
more c cs rest h ih = record {
  none = λ e. ap (λ (b : Bool). on_by (if b then (if nat_eq c 62 && false then out else on (nat_eq c 63)) else stop) (cs ++ (codes "?>" ++ rest))) h ∙ none (nat_eq c 62) (nat_eq c 63) refl e;
  one = λ e. ap (λ (b : Bool). on_by (if b then (if nat_eq c 62 && true then out else on (nat_eq c 63)) else stop) (cs ++ (codes "?>" ++ rest))) h ∙ one (nat_eq c 62) refl e;
}
  where
    none_by : (b : Bool) → nat_eq c 63 ≡ b → NoEnd (c ∷ cs) → on_by (on b) (cs ++ (codes "?>" ++ rest)) ≡ Some rest
    none_by true q e = ih.one (ap (λ (x : ℕ). holds (codes "?>") (x ∷ cs)) (sym (is_it c 63 q)) ∙ e)
    none_by false q e = ih.none (or_parts _ _ e).1

    none : (a b : Bool) → nat_eq c 63 ≡ b → NoEnd (c ∷ cs) → on_by (if a && false then out else on b) (cs ++ (codes "?>" ++ rest)) ≡ Some rest
    none true b q e = none_by b q e
    none false b q e = none_by b q e

    one : (a : Bool) → nat_eq c 62 ≡ a → NoEnd (63 ∷ c ∷ cs) → on_by (if a && true then out else on (nat_eq c 63)) (cs ++ (codes "?>" ++ rest)) ≡ Some rest
    one true p e = let z : NoEnd (63 ∷ 62 ∷ cs) = ap (λ (x : ℕ). holds (codes "?>") (63 ∷ x ∷ cs)) (sym (is_it c 62 p)) ∙ e in cc
    one false p e = none_by (nat_eq c 63) refl (or_parts _ _ e).1

from_both : (text rest : List ℕ) → list_all is_character text ≡ true → FromBoth text rest
from_both [] rest all = record { none = λ e. refl; one = λ e. refl }
from_both (c ∷ cs) rest all = let p = and_parts (is_character c) (list_all is_character cs) all in more c cs rest p.0 (from_both cs rest p.1)

-- Back.

abbrev Is : List ℕ → List ℕ → Type 0
Is cs rest = IsLeft IsData (codes "?>") cs rest

record IntoBoth (cs rest : List ℕ) : Type 0 where
  none : past instruction_turn false cs ≡ Some rest → Is cs rest
  one : past instruction_turn true cs ≡ Some rest → Is (63 ∷ cs) rest

plain : (c : ℕ) (cs : List ℕ) → nat_eq c 63 ≡ false → NoEnd cs → NoEnd (c ∷ cs)
plain c [] q e = or_none _ _ (and_none _ _ (not_it c 63 q)) e
plain c (d ∷ cs) q e = or_none _ _ (and_none _ _ (not_it c 63 q)) e

asked_plain : (c : ℕ) (cs : List ℕ) → nat_eq c 62 ≡ false → NoEnd (c ∷ cs) → NoEnd (63 ∷ c ∷ cs)
asked_plain c cs q e = or_none _ _ (and_none _ _ (not_it c 62 q)) e

abbrev before : (c : ℕ) (cs rest : List ℕ) → is_character c ≡ true → (l : Is cs rest) → NoEnd (c ∷ l.text) → Is (c ∷ cs) rest
before c cs rest h l e = record {
  text = c ∷ l.text;
  spelled = ap (λ (w : List ℕ). c ∷ w) l.spelled;
  is = record { characters = and_from (is_character c) (list_all is_character l.text) h l.is.characters; no_end = e };
}

second : (cs rest : List ℕ) → Is (63 ∷ cs) rest → Is (63 ∷ 63 ∷ cs) rest
second cs rest l = before 63 (63 ∷ cs) rest refl l (at l.text l.spelled l.is.no_end)
  where
    at : (text : List ℕ) → text ++ (codes "?>" ++ rest) ≡ 63 ∷ cs → NoEnd text → NoEnd (63 ∷ text)
    at [] e n = refl
    at (a ∷ text) e n = let q : a ≡ 63 = cc in asked_plain a text (ap (λ (x : ℕ). nat_eq x 62) q) n

into_more : (c : ℕ) (cs rest : List ℕ) → IntoBoth cs rest → IntoBoth (c ∷ cs) rest
into_more c cs rest ih = record { none = λ e. none (is_character c) refl (nat_eq c 62) (nat_eq c 63) refl e; one = λ e. one (is_character c) refl (nat_eq c 62) refl (nat_eq c 63) refl e }
  where
    none_by : is_character c ≡ true → (b : Bool) → nat_eq c 63 ≡ b → on_by (on b) cs ≡ Some rest → Is (c ∷ cs) rest
    none_by h true q e = subst (λ (x : ℕ). Is (x ∷ cs) rest) (sym (is_it c 63 q)) (ih.one e)
    none_by h false q e = let l = ih.none e in before c cs rest h l (plain c l.text q l.is.no_end)

    none : (a : Bool) → is_character c ≡ a → (x b : Bool) → nat_eq c 63 ≡ b → on_by (if a then (if x && false then out else on b) else stop) cs ≡ Some rest → Is (c ∷ cs) rest
    none true h true b q e = none_by h b q e
    none true h false b q e = none_by h b q e
    none false h x b q e = cc

    one : (a : Bool) → is_character c ≡ a → (x : Bool) → nat_eq c 62 ≡ x → (b : Bool) → nat_eq c 63 ≡ b → on_by (if a then (if x && true then out else on b) else stop) cs ≡ Some rest → Is (63 ∷ c ∷ cs) rest
    one true h true p b q e = record {
      text = [];
      spelled = ap (λ (w : List ℕ). 63 ∷ 62 ∷ w) (sym (some_same cs rest e)) ∙ ap (λ (x : ℕ). 63 ∷ x ∷ cs) (sym (is_it c 62 p));
      is = record { characters = refl; no_end = refl };
    }
    one true h false p true q e = subst (λ (x : ℕ). Is (63 ∷ x ∷ cs) rest) (sym (is_it c 63 q)) (second cs rest (ih.one e))
    one true h false p false q e =
        let l = ih.none e in
        let n = plain c l.text q l.is.no_end in
        before 63 (c ∷ cs) rest refl (before c cs rest h l n) (asked_plain c l.text p n)
    one false h x p b q e = cc

into_both : (cs rest : List ℕ) → IntoBoth cs rest
into_both [] rest = record { none = λ e. cc; one = λ e. cc }
into_both (c ∷ cs) rest = into_more c cs rest (into_both cs rest)

pub instructions_left : InstructionsLeft
instructions_left = (λ text rest h. (from_both text rest h.characters).none h.no_end, λ cs rest e. (into_both cs rest).none e)
