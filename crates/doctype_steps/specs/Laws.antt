-- Laws of document type declarations, as statements.
use Rattle.std.specs.Prelude.{◌≡◌, ℕ, true, false, if◌then◌else◌, List, ◌∷◌, ◌++◌, Some, codes}
use Rattle.xml_text.specs.Characters.{is_character}
use Rattle.dtd_model.specs.declared.dtd.DoctypeRule.{DoctypeRule}
use Rattle.page_model.specs.Attributes.{doctype_fits}
use Rattle.page_model.specs.Prolog.{identifier_then, Doctype, IsDoctype}
use Rattle.piece_steps.specs.Insides.{Turn, stop, past}
use Rattle.page_model.specs.OpenDoctypes.{OpenDoctype, before_root}
use Rattle.page_steps.specs.DoctypeSteps.{doctype_turn}

-- what `doctype_turn` does, for characters of XML
abbrev pub turn : DoctypeRule → OpenDoctype → ℕ → Turn OpenDoctype
turn rule o c = if is_character c then doctype_turn rule o c else stop

-- what stands behind `<!DOCTYPE`
abbrev pub inside_then : Doctype → List ℕ → List ℕ
inside_then d rest = d.space ++ (codes "html" ++ identifier_then d.identifier (d.end_space ++ 62 ∷ rest))

-- the characters behind `<!DOCTYPE` are a declaration as the definition asks, its `>`, and the rest
pub record IsDoctypeThen (rule : DoctypeRule) (cs rest : List ℕ) : Type 0 where
  pub declared : Doctype
  pub spelled : inside_then declared rest ≡ cs
  pub is : IsDoctype declared
  pub fits : doctype_fits rule declared ≡ true

-- the machine of document type declarations leaves exactly behind one that is as the definition asks
abbrev pub DoctypesLeft : Type 0
DoctypesLeft = ((rule : DoctypeRule) (d : Doctype) (rest : List ℕ) → IsDoctype d → doctype_fits rule d ≡ true
    → past (turn rule) (before_root false) (inside_then d rest) ≡ Some rest)
    × ((rule : DoctypeRule) (cs rest : List ℕ) → past (turn rule) (before_root false) cs ≡ Some rest → IsDoctypeThen rule cs rest)
