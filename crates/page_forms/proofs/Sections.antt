-- CDATA sections.
use Rattle.std.proofs.Common.{◌≡◌, ℕ, List, [], ◌∷◌, ◌++◌, refl, sym, ◌∙◌, ap, arith}
use Rattle.std.specs.Prelude.{codes}
use Rattle.page_model.specs.Parts.{section, IsSection}
use Rattle.page_model.specs.Pieces.{Piece, leaf, piece_then}
use Rattle.page_forms.specs.Laws.{SectionsAreSpelled}
use Rattle.page_forms.specs.Remarks.{section_form}
use Rattle.page_forms.proofs.Spelling.{Chained, spells_chain, spells_word, spells_as, is_form_of}
use Rattle.page_forms.proofs.UpTo.{UpTo, IsMark, spells_up_to}

abbrev Parts : List ℕ → Type 0
Parts = Chained (λ cs. codes "<![CDATA[" ≡ cs) (UpTo 93 2)

into : (cs : List ℕ) → Parts cs → (p : Piece) × ((text : List ℕ) × (p ≡ leaf (section text)) × IsSection text) × (piece_then p [] ≡ cs)
into cs c =
    let u = c.goes_on in (
      leaf (section u.text),
      (u.text, refl, record { characters = u.characters; no_end = u.no_end }),
      ap (λ (z : List ℕ). z ++ (u.text ++ codes "]]>")) c.begins ∙ ap (λ (z : List ℕ). c.first ++ z) u.is ∙ c.is,
    )

from : (cs : List ℕ) → ((p : Piece) × ((text : List ℕ) × (p ≡ leaf (section text)) × IsSection text) × (piece_then p [] ≡ cs)) → Parts cs
from cs q = at q.0 q.1.0 q.1.1 q.1.2 q.2
  where
    at : (p : Piece) (text : List ℕ) → p ≡ leaf (section text) → IsSection text → piece_then p [] ≡ cs → Parts cs
    at p text e s i = record {
      first = codes "<![CDATA[";
      second = text ++ codes "]]>";
      begins = refl;
      goes_on = record { text = text; characters = s.characters; no_end = s.no_end; is = refl };
      is = sym (ap (λ (z : Piece). piece_then z []) e) ∙ i;
    }

pub bracket : IsMark 93
bracket = record { small = omega arith; ascii = refl; character = refl; other = refl }

pub sections_are_spelled : SectionsAreSpelled
unfolding section_form
sections_are_spelled = is_form_of (spells_as (spells_chain (spells_word (codes "<![CDATA[") refl) (spells_up_to 93 1 bracket refl)) into from)
