-- A comment is left at its end.
use Rattle.std.proofs.Common.{◌≡◌, ℕ, Bool, true, false, List, [], ◌∷◌, ◌++◌, Option, Some, refl, sym, ◌∙◌, ap, subst}
use Rattle.std.specs.Prelude.{if◌then◌else◌, nat_eq, codes}
use Rattle.std.specs.List.{list_all}
use Rattle.std.proofs.lemmas.Bool.{and_parts, and_from}
use Rattle.xml_text.specs.Characters.{is_character}
use Rattle.xml_text.specs.Texts.{holds}
use Rattle.page_model.specs.Parts.{IsComment}
use Rattle.piece_steps.specs.Insides.{Turn, on, out, stop, turned, past}
use Rattle.remark_steps.specs.Turns.{comment_turn}
use Rattle.remark_steps.specs.Laws.{IsLeft, CommentsLeft}
use Rattle.remark_steps.proofs.Tests.{some_same, or_parts, or_none, and_none, not_it, is_it}

abbrev NoEnd : List ℕ → Type 0
NoEnd cs = holds (codes "--") cs ≡ false

-- reading on behind a character
abbrev on_by : Turn ℕ → List ℕ → Option (List ℕ)
on_by t cs = turned t (λ g. past comment_turn g cs) cs

abbrev Goes : ℕ → List ℕ → List ℕ → Type 0
Goes dashes text rest = past comment_turn dashes (text ++ (codes "-->" ++ rest)) ≡ Some rest

-- none of the last characters is `-`, or one is
record FromBoth (text rest : List ℕ) : Type 0 where
  none : NoEnd (text ++ codes "-") → Goes 0 text rest
  one : NoEnd (45 ∷ (text ++ codes "-")) → Goes 1 text rest

more : (c : ℕ) (cs rest : List ℕ) → is_character c ≡ true → FromBoth cs rest → FromBoth (c ∷ cs) rest
more c cs rest h ih = record {
  none = λ e. ap (λ (b : Bool). on_by (if b then (if nat_eq c 45 then on 1 else on 0) else stop) (cs ++ (codes "-->" ++ rest))) h ∙ none (nat_eq c 45) refl e;
  one = λ e. ap (λ (b : Bool). on_by (if b then (if nat_eq c 45 then on 2 else on 0) else stop) (cs ++ (codes "-->" ++ rest))) h ∙ one (nat_eq c 45) refl e;
}
  where
    none : (b : Bool) → nat_eq c 45 ≡ b → NoEnd (c ∷ (cs ++ codes "-")) → on_by (if b then on 1 else on 0) (cs ++ (codes "-->" ++ rest)) ≡ Some rest
    none true q e = ih.one (ap (λ (x : ℕ). holds (codes "--") (x ∷ (cs ++ codes "-"))) (sym (is_it c 45 q)) ∙ e)
    none false q e = ih.none (or_parts _ _ e).1

    one : (b : Bool) → nat_eq c 45 ≡ b → NoEnd (45 ∷ c ∷ (cs ++ codes "-")) → on_by (if b then on 2 else on 0) (cs ++ (codes "-->" ++ rest)) ≡ Some rest
    one true q e = let z : NoEnd (45 ∷ 45 ∷ (cs ++ codes "-")) = ap (λ (x : ℕ). holds (codes "--") (45 ∷ x ∷ (cs ++ codes "-"))) (sym (is_it c 45 q)) ∙ e in cc
    one false q e = ih.none (or_parts _ _ (or_parts _ _ e).1).1

from_both : (text rest : List ℕ) → list_all is_character text ≡ true → FromBoth text rest
from_both [] rest all = record { none = λ e. refl; one = λ e. cc }
from_both (c ∷ cs) rest all = let p = and_parts (is_character c) (list_all is_character cs) all in more c cs rest p.0 (from_both cs rest p.1)

-- Back: what is left is a comment, with the `-` that stand before.

abbrev Is : List ℕ → List ℕ → Type 0
Is cs rest = IsLeft IsComment (codes "-->") cs rest

record IntoAll (cs rest : List ℕ) : Type 0 where
  none : past comment_turn 0 cs ≡ Some rest → Is cs rest
  one : past comment_turn 1 cs ≡ Some rest → Is (45 ∷ cs) rest
  two : past comment_turn 2 cs ≡ Some rest → Is (45 ∷ 45 ∷ cs) rest

-- a character before a comment that begins no `--` with it
abbrev before : (c : ℕ) (cs rest : List ℕ) → is_character c ≡ true → nat_eq c 45 ≡ false → Is cs rest → Is (c ∷ cs) rest
before c cs rest h q l = record {
  text = c ∷ l.text;
  spelled = ap (λ (w : List ℕ). c ∷ w) l.spelled;
  is = record {
    characters = and_from (is_character c) (list_all is_character l.text) h l.is.characters;
    no_end = or_none _ _ (and_none _ _ (not_it c 45 q)) l.is.no_end;
  };
}

-- and a `-` before that character
before_dash : (c : ℕ) (cs rest : List ℕ) → is_character c ≡ true → nat_eq c 45 ≡ false → Is cs rest → Is (45 ∷ c ∷ cs) rest
before_dash c cs rest h q l =
    let m = before c cs rest h q l in
    record {
      text = 45 ∷ c ∷ l.text;
      spelled = ap (λ (w : List ℕ). 45 ∷ c ∷ w) l.spelled;
      is = record { characters = m.is.characters; no_end = or_none _ _ (and_none _ _ (not_it c 45 q)) m.is.no_end };
    }

into_more : (c : ℕ) (cs rest : List ℕ) → IntoAll cs rest → IntoAll (c ∷ cs) rest
into_more c cs rest ih = record { none = λ e. none (is_character c) refl (nat_eq c 45) refl e; one = λ e. one (is_character c) refl (nat_eq c 45) refl e; two = λ e. two (is_character c) (nat_eq c 62) refl e }
  where
    none : (a : Bool) → is_character c ≡ a → (b : Bool) → nat_eq c 45 ≡ b → on_by (if a then (if b then on 1 else on 0) else stop) cs ≡ Some rest → Is (c ∷ cs) rest
    none true h true q e = subst (λ (x : ℕ). Is (x ∷ cs) rest) (sym (is_it c 45 q)) (ih.one e)
    none true h false q e = before c cs rest h q (ih.none e)
    none false h b q e = cc

    one : (a : Bool) → is_character c ≡ a → (b : Bool) → nat_eq c 45 ≡ b → on_by (if a then (if b then on 2 else on 0) else stop) cs ≡ Some rest → Is (45 ∷ c ∷ cs) rest
    one true h true q e = subst (λ (x : ℕ). Is (45 ∷ x ∷ cs) rest) (sym (is_it c 45 q)) (ih.two e)
    one true h false q e = before_dash c cs rest h q (ih.none e)
    one false h b q e = cc

    two : (a : Bool) (b : Bool) → nat_eq c 62 ≡ b → on_by (if a then (if b then out else stop) else stop) cs ≡ Some rest → Is (45 ∷ 45 ∷ c ∷ cs) rest
    two true true q e = record {
      text = [];
      spelled = ap (λ (w : List ℕ). 45 ∷ 45 ∷ 62 ∷ w) (sym (some_same cs rest e)) ∙ ap (λ (x : ℕ). 45 ∷ 45 ∷ x ∷ cs) (sym (is_it c 62 q));
      is = record { characters = refl; no_end = refl };
    }
    two true false q e = cc
    two false b q e = cc

into_all : (cs rest : List ℕ) → IntoAll cs rest
into_all [] rest = record { none = λ e. cc; one = λ e. cc; two = λ e. cc }
into_all (c ∷ cs) rest = into_more c cs rest (into_all cs rest)

pub comments_left : CommentsLeft
comments_left = (λ text rest h. (from_both text rest h.characters).none h.no_end, λ cs rest e. (into_all cs rest).none e)
