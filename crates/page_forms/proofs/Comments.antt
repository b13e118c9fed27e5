-- Comments.
use Rattle.std.proofs.Common.{◌≡◌, ◌⊎◌, inl, inr, ℕ, Bool, true, false, List, [], ◌∷◌, ◌++◌, refl, sym, ◌∙◌, ap, subst, arith}
use Rattle.std.specs.Prelude.{nat_eq, not, ◌==◌, ◌&&◌, ◌||◌, codes}
use Rattle.std.specs.List.{list_all, starts_with}
use Rattle.std.proofs.lemmas.Bool.{and_parts, and_from, or_parts, eqb-true, eq-eqb, ne_eqb, eqb-false, not-true, not_from_false}
use Rattle.xml_text.specs.Characters.{is_character}
use Rattle.xml_text.specs.Texts.{holds}
use Rattle.page_model.specs.Parts.{comment, leaf_then, IsComment}
use Rattle.page_model.specs.Pieces.{Piece, leaf, piece_then}
use Rattle.page_forms.specs.Laws.{CommentsAreSpelled}
use Rattle.page_forms.specs.Remarks.{comment_form}
use Rattle.page_forms.specs.Words.{other_than}
use Rattle.page_forms.proofs.Spelling.{Spells, One, Chained, Runs, over, further, spells_chain, spells_either, spells_star, spells_word, spells_as, is_form_of}
use Rattle.page_forms.proofs.OneCharacter.{spells_other, Other}

-- a character of the text, or `-` and a character
abbrev Step : List ℕ → Type 0
Step cs = Other 45 cs ⊎ Chained (λ ds. codes "-" ≡ ds) (Other 45) cs

-- a character is not this one, as the search for a word tests it
pub is_other_than : (b c : ℕ) → not (c == b) ≡ true → nat_eq b c ≡ false
is_other_than b c h = ne_eqb b c (λ q. eqb-false c b (not-true (c == b) h) (sym q))

pub not_this_one : (b c : ℕ) → nat_eq b c ≡ false → not (c == b) ≡ true
not_this_one b c h = not_from_false (c == b) (ne_eqb c b (λ q. eqb-false b c h (sym q)))

-- what a comment is, character by character
character_more : (c : ℕ) (cs : List ℕ) → (is_character c && not (c == 45)) ≡ true → IsComment cs → IsComment (c ∷ cs)
character_more c cs h p =
    let a = and_parts (is_character c) (not (c == 45)) h in
    record {
      characters = and_from (is_character c) (list_all is_character cs) a.0 p.characters;
      no_end = at (nat_eq 45 c) (is_other_than 45 c a.1) p.no_end;
    }
  where
    at : (x : Bool) → x ≡ false → holds (codes "--") (cs ++ codes "-") ≡ false
        → ((x && starts_with nat_eq (cs ++ codes "-") (codes "-")) || holds (codes "--") (cs ++ codes "-")) ≡ false
    at true e h = cc
    at false e h = h

dash_more : (c : ℕ) (cs : List ℕ) → (is_character c && not (c == 45)) ≡ true → IsComment (c ∷ cs) → IsComment (45 ∷ c ∷ cs)
dash_more c cs h p =
    let a = and_parts (is_character c) (not (c == 45)) h in
    record { characters = p.characters; no_end = at (nat_eq 45 c) (is_other_than 45 c a.1) p.no_end }
  where
    at : (x : Bool) → x ≡ false → holds (codes "--") (c ∷ (cs ++ codes "-")) ≡ false → ((x && true) || holds (codes "--") (c ∷ (cs ++ codes "-"))) ≡ false
    at true e h = cc
    at false e h = h

stepped : {first more : List ℕ} → Step first → IsComment more → IsComment (first ++ more)
stepped {more = more} (inl o) p = subst (λ (z : List ℕ). IsComment (z ++ more)) o.is (character_more o.character more o.passes p)
stepped {more = more} (inr k) p =
    let o = k.goes_on in
    let q : 45 ∷ o.character ∷ [] ≡ k.first ++ k.second = ap (λ (z : List ℕ). z ++ (o.character ∷ [])) k.begins ∙ ap (λ (z : List ℕ). k.first ++ z) o.is in
    subst (λ (z : List ℕ). IsComment (z ++ more)) (q ∙ k.is) (dash_more o.character more o.passes (character_more o.character more o.passes p))

is_comment : {cs : List ℕ} → Runs Step cs → IsComment cs
is_comment over = record { characters = refl; no_end = refl }
is_comment (further s r) = stepped s (is_comment r)

one_step : (c : ℕ) (cs : List ℕ) → is_character c ≡ true → nat_eq 45 c ≡ false → Runs Step cs → Runs Step (c ∷ cs)
one_step c cs h e r = further {first = c ∷ []} (inl (record { character = c; passes = and_from (is_character c) (not (c == 45)) h (not_this_one 45 c e); is = refl })) r

two_steps : (c d : ℕ) (cs : List ℕ) → nat_eq 45 c ≡ true → is_character d ≡ true → nat_eq 45 d ≡ false → Runs Step cs → Runs Step (c ∷ d ∷ cs)
two_steps c d cs q h e r = further {first = c ∷ d ∷ []} (inr (record {
  first = c ∷ [];
  second = d ∷ [];
  begins = ap (λ (z : ℕ). z ∷ []) (eqb-true 45 c q);
  goes_on = record { character = d; passes = and_from (is_character d) (not (d == 45)) h (not_this_one 45 d e); is = refl };
  is = refl;
})) r

cut : (cs : List ℕ) → list_all is_character cs ≡ true → holds (codes "--") (cs ++ codes "-") ≡ false → Runs Step cs
cut [] a h = over
cut (c ∷ []) a h = at (nat_eq 45 c) refl h
  where
    at : (x : Bool) → nat_eq 45 c ≡ x → ((x && true) || false) ≡ false → Runs Step (c ∷ [])
    at true e h = cc
    at false e h = one_step c [] (and_parts (is_character c) true a).0 e over
cut (c ∷ d ∷ cs) a h = at (nat_eq 45 c) refl (nat_eq 45 d) refl h (λ g. cut (d ∷ cs) p.1 g) (λ g. cut cs q.1 g)
  where
    p : (is_character c ≡ true) × (list_all is_character (d ∷ cs) ≡ true)
    p = and_parts (is_character c) (list_all is_character (d ∷ cs)) a

    q : (is_character d ≡ true) × (list_all is_character cs ≡ true)
    q = and_parts (is_character d) (list_all is_character cs) p.1

    -- of the rest behind the next character
    behind : (y : Bool) → ((y && starts_with nat_eq (cs ++ codes "-") (codes "-")) || holds (codes "--") (cs ++ codes "-")) ≡ false → holds (codes "--") (cs ++ codes "-") ≡ false
    behind y h = (or_parts (y && starts_with nat_eq (cs ++ codes "-") (codes "-")) (holds (codes "--") (cs ++ codes "-")) h).1

    at : (x : Bool) → nat_eq 45 c ≡ x → (y : Bool) → nat_eq 45 d ≡ y
        → ((x && (y && true)) || ((y && starts_with nat_eq (cs ++ codes "-") (codes "-")) || holds (codes "--") (cs ++ codes "-"))) ≡ false
        → (holds (codes "--") (d ∷ (cs ++ codes "-")) ≡ false → Runs Step (d ∷ cs)) → (holds (codes "--") (cs ++ codes "-") ≡ false → Runs Step cs) → Runs Step (c ∷ d ∷ cs)
    at true e true f h g k = cc
    at true e false f h g k = two_steps c d cs e q.0 f (k (behind false h))
    at false e y f h g k =
        one_step c (d ∷ cs) p.0 e (g (ap (λ (z : Bool). (z && starts_with nat_eq (cs ++ codes "-") (codes "-")) || holds (codes "--") (cs ++ codes "-")) f ∙ h))

-- the comments, by their characters
abbrev Parts : List ℕ → Type 0
Parts = Chained (λ cs. codes "<!--" ≡ cs) (Chained (Runs Step) (λ cs. codes "-->" ≡ cs))

into : (cs : List ℕ) → Parts cs → (p : Piece) × ((text : List ℕ) × (p ≡ leaf (comment text)) × IsComment text) × (piece_then p [] ≡ cs)
into cs c =
    let k = c.goes_on in
    let q : codes "<!--" ++ (k.first ++ codes "-->") ≡ c.first ++ c.second = ap (λ (z : List ℕ). z ++ (k.first ++ codes "-->")) c.begins ∙ ap (λ (z : List ℕ). c.first ++ z) (ap (λ (z : List ℕ). k.first ++ z) k.goes_on ∙ k.is) in
    (leaf (comment k.first), (k.first, refl, is_comment k.begins), q ∙ c.is)

from : (cs : List ℕ) → ((p : Piece) × ((text : List ℕ) × (p ≡ leaf (comment text)) × IsComment text) × (piece_then p [] ≡ cs)) → Parts cs
from cs q = at q.0 q.1.0 q.1.1 q.1.2 q.2
  where
    at : (p : Piece) (text : List ℕ) → p ≡ leaf (comment text) → IsComment text → piece_then p [] ≡ cs → Parts cs
    at p text e c i = record {
      first = codes "<!--";
      second = text ++ codes "-->";
      begins = refl;
      goes_on = record { first = text; second = codes "-->"; begins = cut text c.characters c.no_end; goes_on = refl; is = refl };
      is = sym (ap (λ (z : Piece). piece_then z []) e) ∙ i;
    }

pub comments_are_spelled : CommentsAreSpelled
unfolding comment_form
comments_are_spelled =
    is_form_of (spells_as (spells_chain (spells_word (codes "<!--") refl) (spells_chain (spells_star (spells_either other (spells_chain (spells_word (codes "-") refl) other))) (spells_word (codes "-->") refl))) into from)
  where
    other : Spells (other_than 45) (Other 45)
    other = spells_other 45 (omega arith)
