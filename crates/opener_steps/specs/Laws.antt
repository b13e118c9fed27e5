-- Laws of the beginnings of pieces, as statements.
use Rattle.std.specs.Prelude.{◌≡◌, ℕ, true, false, List, [], ◌∷◌, ◌++◌, Some, codes}
use Rattle.text_base.specs.declared.page_token.PageToken.{PageToken}
use Rattle.xml_text.specs.Names.{begins_name}
use Rattle.dtd_model.specs.Table.{Table}
use Rattle.page_model.specs.PageTokens.{sort_token}
use Rattle.page_model.specs.Parts.{character, is_plain}
use Rattle.page_model.specs.Pieces.{may_follow, behind_leaf}
use Rattle.page_model.specs.Places.{Place, at_beginning, behind_mark}
use Rattle.page_model.specs.Valid.{sort_of}
use Rattle.piece_steps.specs.Readers.{Outcome, whole, ends}
use Rattle.page_model.specs.Fronts.{Open, nothing, in_reference, in_opener, in_tag_name, in_end_tag, in_comment, in_section, in_target, in_doctype}
use Rattle.page_model.specs.OpenDoctypes.{before_root}
use Rattle.page_model.specs.OpenValues.{in_entity}
use Rattle.page_steps.specs.PageSteps.{PageState, page_reader}
use Rattle.page_insides.specs.Laws.{read}

-- what the reader makes of a text where a piece begins
abbrev pub read_first : Table → Place → List ℕ → Outcome Place PageToken PageState
read_first table place text = ends (page_reader table) (record { place = place; inside = nothing }) text

-- how a text begins that was read to the end of a piece
pub data Begun (table : Table) (place : Place) : List ℕ → Place → List PageToken → List ℕ → Type 0 where
  less : (cs : List ℕ) (next : Place) (given : List PageToken) (rest : List ℕ)
      → read table place (in_opener (codes "<")) cs ≡ whole next given rest → Begun table place (60 ∷ cs) next given rest
  ampersand : (cs : List ℕ) (next : Place) (given : List PageToken) (rest : List ℕ)
      → read table place (in_reference (in_entity [])) cs ≡ whole next given rest → Begun table place (38 ∷ cs) next given rest
  order_mark : (rest : List ℕ) → place ≡ at_beginning → Begun table place (0xFEFF ∷ rest) behind_mark [] rest
  text : (c : ℕ) (rest : List ℕ) → may_follow place (character c) ≡ true → is_plain c ≡ true
      → Begun table place (c ∷ rest) (behind_leaf place (character c)) (sort_token (sort_of (character c)) ∷ []) rest

-- where a piece begins the reader goes on by `<`, by `&`, by the byte order mark or by a character, and in no other way
pub record FirstRead : Type 0 where
  pub at_less : (table : Table) (place : Place) (cs : List ℕ)
      → read_first table place (60 ∷ cs) ≡ read table place (in_opener (codes "<")) cs
  pub at_ampersand : (table : Table) (place : Place) (cs : List ℕ)
      → read_first table place (38 ∷ cs) ≡ read table place (in_reference (in_entity [])) cs
  pub at_mark : (table : Table) (rest : List ℕ) → read_first table at_beginning (0xFEFF ∷ rest) ≡ whole behind_mark [] rest
  pub at_text : (table : Table) (place : Place) (c : ℕ) (rest : List ℕ) → may_follow place (character c) ≡ true → is_plain c ≡ true
      → read_first table place (c ∷ rest) ≡ whole (behind_leaf place (character c)) (sort_token (sort_of (character c)) ∷ []) rest
  pub sound : (table : Table) (place next : Place) (cs : List ℕ) (given : List PageToken) (rest : List ℕ)
      → read_first table place cs ≡ whole next given rest → Begun table place cs next given rest

-- what `<!` and more opens
pub data Bang : Type 0 where
  comment_bang : Bang
  section_bang : Bang
  doctype_bang : Bang

-- the characters that open it
abbrev pub bang_word : Bang → List ℕ
bang_word comment_bang = codes "<!--"
bang_word section_bang = codes "<![CDATA["
bang_word doctype_bang = codes "<!DOCTYPE"

-- what is open behind these characters
abbrev pub bang_open : Bang → Open
bang_open comment_bang = in_comment 0
bang_open section_bang = in_section 0
bang_open doctype_bang = in_doctype (before_root false)

-- how a text goes on behind `<`
pub data Opened (table : Table) (place : Place) (out : Outcome Place PageToken PageState) : List ℕ → Type 0 where
  bang : (b : Bang) (cs left : List ℕ) → 60 ∷ cs ≡ bang_word b ++ left → read table place (bang_open b) left ≡ out
      → Opened table place out cs
  question : (left : List ℕ) → read table place (in_target (Some [])) left ≡ out → Opened table place out (63 ∷ left)
  slash : (left : List ℕ) → read table place (in_end_tag [] false) left ≡ out → Opened table place out (47 ∷ left)
  name : (n : ℕ) (left : List ℕ) → begins_name n ≡ true → read table place (in_tag_name (n ∷ [])) left ≡ out
      → Opened table place out (n ∷ left)

-- behind `<` the reader goes on by `!` and more, by `?`, by `/` or by the first character of a name, and in no other way
pub record OpenersRead : Type 0 where
  pub at_bang : (table : Table) (place : Place) (b : Bang) (cs left : List ℕ) → 60 ∷ cs ≡ bang_word b ++ left
      → read table place (in_opener (codes "<")) cs ≡ read table place (bang_open b) left
  pub at_question : (table : Table) (place : Place) (left : List ℕ)
      → read table place (in_opener (codes "<")) (63 ∷ left) ≡ read table place (in_target (Some [])) left
  pub at_slash : (table : Table) (place : Place) (left : List ℕ)
      → read table place (in_opener (codes "<")) (47 ∷ left) ≡ read table place (in_end_tag [] false) left
  pub at_name : (table : Table) (place : Place) (n : ℕ) (left : List ℕ) → begins_name n ≡ true
      → read table place (in_opener (codes "<")) (n ∷ left) ≡ read table place (in_tag_name (n ∷ [])) left
  pub sound : (table : Table) (place next : Place) (cs : List ℕ) (given : List PageToken) (rest : List ℕ)
      → read table place (in_opener (codes "<")) cs ≡ whole next given rest → Opened table place (whole next given rest) cs
