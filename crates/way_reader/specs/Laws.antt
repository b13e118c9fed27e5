-- The laws, as statements.
use Rattle.std.specs.Prelude.{◌≡◌, ◌⊎◌, ◌↔◌, ◌<◌, ⊤, ℕ, List, [], ◌∷◌, ◌++◌, Some, All}
use Rattle.text_base.specs.declared.page_token.PageToken.{PageToken}
use Rattle.byte_readers.specs.Reading.{emitted, tokens_over}
use Rattle.dtd_model.specs.Table.{Table}
use Rattle.derivatives.specs.Standing.{expr_at}
use Rattle.derivatives.specs.declared.arena.Arena.{Arena}
use Rattle.piece_steps.specs.Languages.{Language}
use Rattle.piece_steps.specs.Readers.{all_tokens}
use Rattle.piece_steps.specs.Reads.{Reads}
use Rattle.page_model.specs.PageTokens.{PageTokens}
use Rattle.page_model.specs.Places.{Place, at_beginning}
use Rattle.page_forms.specs.Forms.{Form, forms, IsOfOne}
use Rattle.form_reader.specs.FormReader.{byte_language}
use Rattle.form_reader.specs.Laws.{IsLawfulTable}
use Rattle.partial_derivatives.specs.Parts.{InTurn}
use Rattle.partial_derivatives.specs.declared.part.Part.TheVariants.{Whole}
use Rattle.way_reader.specs.declared.way.Way.{Way}
use Rattle.way_reader.specs.Ways.{place_of, way_reader, first_state, next_state, tokens_at, tokens_behind}

-- the text is one of this way, which gives these tokens and leads to this place
abbrev pub IsOfWay : Arena → Way → List ℕ → List PageToken → Place → Type 0
IsOfWay a way w tokens to = InTurn a way.parts w × (emitted way.emit ≡ tokens) × (place_of way.to ≡ to)

-- and so it is of one of the ways
abbrev pub IsOfSome : Arena → List Way → List ℕ → List PageToken → Place → Type 0
IsOfSome a [] w tokens to = ⊥
IsOfSome a (way ∷ ways) w tokens to = IsOfWay a way w tokens to ⊎ IsOfSome a ways w tokens to

-- the text is a lawful piece at this place, which gives these tokens and leads to that place
abbrev pub IsOfPiece : {Q : Type 0} → Language Place Q PageToken → Place → List ℕ → List PageToken → Place → Type 0
IsOfPiece {Q} l place w tokens to = (q : Q) × l.Lawful place q × (l.spell q ≡ w) × (l.tokens q ≡ tokens) × (l.after place q ≡ to)

-- the ways in which pieces begin have the texts of the lawful pieces there, each piece has some symbol, none goes on where another ends, and
-- of one text there is one outcome
pub record HavePieces {Q : Type 0} (l : Language Place Q PageToken) (a : Arena) (starts : Place → List Way) : Type 0 where
  pub texts : (place : Place) (w : List ℕ) (tokens : List PageToken) (to : Place)
      → IsOfSome a (starts place) w tokens to ↔ IsOfPiece l place w tokens to
  pub filled : (place : Place) (q : Q) → l.Lawful place q → l.spell q ≡ [] → ⊥
  pub alone : (place : Place) (q r : Q) (v : List ℕ) → l.Lawful place q → l.Lawful place r → l.spell q ++ v ≡ l.spell r
      → (v ≡ []) × (l.tokens q ≡ l.tokens r) × (l.after place q ≡ l.after place r)

-- the ways in which pieces begin have the texts of these forms
abbrev pub HaveTexts : (Place → List Form) → Arena → (Place → List Way) → Type 0
HaveTexts fs a starts = (place : Place) (w : List ℕ) (tokens : List PageToken) (to : Place)
    → IsOfSome a (starts place) w tokens to ↔ IsOfOne (fs place) w tokens to

-- the ways in which pieces of a page begin have the texts of the forms there
abbrev pub HaveForms : Table → Arena → (Place → List Way) → Type 0
HaveForms table a starts = HaveTexts (forms table) a starts

-- the way is the form as a whole
pub record IsWhole (a : Arena) (way : Way) (f : Form) : Type 0 where
  pub number : ℕ
  pub parts : way.parts ≡ Whole number ∷ []
  pub is : expr_at a number ≡ f.expression
  pub tokens : emitted way.emit ≡ f.tokens
  pub leads : place_of way.to ≡ f.leads_to

-- and so it is with each of them, in their order
abbrev pub AreWhole : Arena → List Way → List Form → Type 0
AreWhole a [] [] = ⊤
AreWhole a [] (f ∷ fs) = ⊥
AreWhole a (way ∷ ways) [] = ⊥
AreWhole a (way ∷ ways) (f ∷ fs) = IsWhole a way f × AreWhole a ways fs

-- ways that are the forms as a whole have their texts
abbrev pub WholeFormsHaveTexts : Type 0
WholeFormsHaveTexts = (fs : Place → List Form) (a : Arena) (starts : Place → List Way)
    → ((place : Place) → AreWhole a (starts place) (fs place))
    → HaveTexts fs a starts

-- by each lawful definition, where the ways have the texts of the forms, the reader reads the pieces of a page, and nothing else
abbrev pub WaysAreRead : Type 0
WaysAreRead = (table : Table) → IsLawfulTable table → (a : Arena) (starts : Place → List Way) → HaveForms table a starts
    → Reads (byte_language table) (way_reader a starts)

-- over each page of bytes the reader in memory puts out the tokens of the page
abbrev pub IsWayReaderOf : Table → Arena → (Place → List Way) → Type 0
IsWayReaderOf table a starts = (page : List ℕ) → All (λ byte. byte < 256) page
    → PageTokens table page (tokens_over (next_state a starts) (tokens_at a starts) (tokens_behind a starts) first_state page)

-- and so it is, by each lawful definition
abbrev pub PagesAreRead : Type 0
PagesAreRead = (table : Table) → IsLawfulTable table → (a : Arena) (starts : Place → List Way) → HaveForms table a starts
    → IsWayReaderOf table a starts

-- whatever the ways are, in memory the reader puts out over each text of bytes what it puts out as one of pieces
abbrev pub PutsTheSame : Type 0
PutsTheSame = (a : Arena) (starts : Place → List Way) (text : List ℕ) → All (λ byte. byte < 256) text
    → tokens_over (next_state a starts) (tokens_at a starts) (tokens_behind a starts) first_state text
    ≡ all_tokens (way_reader a starts) (Some ((way_reader a starts).first at_beginning)) text
