-- Laws of the reader of a page behind openers, as statements.
use Rattle.std.specs.Prelude.{◌≡◌, ℕ, true, false, List, [], ◌∷◌, ◌++◌, codes}
use Rattle.std.specs.List.{list_all}
use Rattle.text_base.specs.declared.page_token.PageToken.{PageToken}
use Rattle.text_base.specs.declared.page_token.PageToken.TheVariants as token
use Rattle.dtd_model.specs.Table.{Table}
use Rattle.page_model.specs.Parts.{IsComment, IsSection, reference_of}
use Rattle.page_model.specs.Places.{Place, at_beginning, behind_mark, behind}
use Rattle.page_model.specs.Prolog.{Doctype}
use Rattle.piece_steps.specs.Readers.{Outcome, whole, ends}
use Rattle.piece_steps.proofs.Within.{is_none}
use Rattle.page_model.specs.Fronts.{Open, in_reference, in_comment, in_section, in_instruction, in_doctype}
use Rattle.page_model.specs.OpenDoctypes.{before_root}
use Rattle.page_model.specs.OpenValues.{in_entity}
use Rattle.page_steps.specs.PageSteps.{PageState, page_reader}
use Rattle.reference_steps.specs.Laws.{is_right_reference}
use Rattle.remark_steps.specs.Laws.{IsLeft, IsData}
use Rattle.doctype_steps.specs.Laws.{IsDoctypeThen}

-- what is kept of a place inside a piece
abbrev pub settle : Place → Place
settle at_beginning = at_beginning
settle behind_mark = behind_mark
settle (behind k) = behind 0

-- reading on in an open piece that began at the place
abbrev pub read : Table → Place → Open → List ℕ → Outcome Place PageToken PageState
read table place o text = ends (page_reader table) (record { place = settle place; inside = o }) text

-- the piece ends with these tokens, before the rest
abbrev pub ends_with : List PageToken → List ℕ → Outcome Place PageToken PageState
ends_with tokens rest = whole (behind 0) tokens rest

-- an end that was read, with what stands before it
pub record Ended (Is : List ℕ → List ℕ → Type 0) (tokens : List PageToken) (cs : List ℕ) (next : Place) (given : List PageToken)
    (rest : List ℕ) : Type 0 where
  pub is : Is cs rest
  pub leads : next ≡ behind 0
  pub gives : given ≡ tokens

-- from the open piece the reader comes to an end exactly behind such characters
pub record ReadsFrom (o : Open) (tokens : List PageToken) (Is : Table → List ℕ → List ℕ → Type 0) : Type 0 where
  pub complete : (table : Table) (place : Place) (cs rest : List ℕ) → Is table cs rest → read table place o cs ≡ ends_with tokens rest
  pub sound : (table : Table) (place next : Place) (cs : List ℕ) (given : List PageToken) (rest : List ℕ)
      → read table place o cs ≡ whole next given rest → Ended (Is table) tokens cs next given rest

-- a reference that is known, and its `;`
pub record IsReferenceThen (table : Table) (cs rest : List ℕ) : Type 0 where
  pub body : List ℕ
  pub spelled : body ++ 59 ∷ rest ≡ cs
  pub free : list_all (is_none 59) body ≡ true
  pub right : is_right_reference table.entities (reference_of body) ≡ true

-- behind `&` the reader comes to an end exactly behind a known reference and its `;`
abbrev pub ReferencesRead : Type 0
ReferencesRead = ReadsFrom (in_reference (in_entity [])) (token.Text ∷ []) (λ table cs rest. IsReferenceThen table cs rest)

-- behind `<!--` the reader comes to an end exactly behind the text of a comment and `-->`
abbrev pub CommentsRead : Type 0
CommentsRead = ReadsFrom (in_comment 0) (token.Misc ∷ []) (λ table cs rest. IsLeft IsComment (codes "-->") cs rest)

-- behind `<![CDATA[` the reader comes to an end exactly behind the text of a section and `]]>`
abbrev pub SectionsRead : Type 0
SectionsRead = ReadsFrom (in_section 0) (token.Text ∷ []) (λ table cs rest. IsLeft IsSection (codes "]]>") cs rest)

-- behind a target and white space the reader comes to an end exactly behind characters without `?>` and this
abbrev pub InstructionsRead : Type 0
InstructionsRead = ReadsFrom (in_instruction false) (token.Misc ∷ []) (λ table cs rest. IsLeft IsData (codes "?>") cs rest)

-- behind `<!DOCTYPE` the reader comes to an end exactly behind a document type declaration that the definition takes
abbrev pub DoctypesRead : Type 0
DoctypesRead = ReadsFrom (in_doctype (before_root false)) (token.Doctype ∷ []) (λ table cs rest. IsDoctypeThen table.doctype cs rest)
