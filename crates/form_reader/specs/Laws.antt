-- What is promised of the reader by forms, as statements.
use Rattle.std.specs.Prelude.{◌≡◌, ◌↔◌, ℕ, true, List, [], ◌∷◌, ◌++◌, Some}
use Rattle.text_base.specs.declared.page_token.PageToken.{PageToken}
use Rattle.dtd_model.specs.Lawful.{is_lawful}
use Rattle.dtd_model.specs.Table.{Table}
use Rattle.piece_steps.specs.Reads.{Reads}
use Rattle.piece_steps.specs.Readers.{all_tokens}
use Rattle.page_model.specs.PageTokens.{PageTokens, IsLawful, piece_bytes}
use Rattle.page_model.specs.Pieces.{Piece}
use Rattle.page_model.specs.Places.{Place, at_beginning}
use Rattle.page_forms.specs.Forms.{forms}
use Rattle.form_reader.specs.FormReader.{live_all, form_reader, byte_language}

-- as the type of definitions keeps it
abbrev pub IsLawfulTable : Table → Type 0
IsLawfulTable table = is_lawful table.elements table.entities ≡ true

-- by each lawful definition the reader reads the pieces of a page, byte by byte, and nothing else
abbrev pub FormsAreRead : Type 0
FormsAreRead = (table : Table) → IsLawfulTable table → Reads (byte_language table) (form_reader table)

-- so the tokens of a page are what it puts out over the page, and no others
abbrev pub PageTokensAreRead : Type 0
PageTokensAreRead = (table : Table) → IsLawfulTable table → (bytes : List ℕ) (tokens : List PageToken)
    → PageTokens table bytes tokens ↔ (tokens ≡ all_tokens (form_reader table) (Some ((form_reader table).first at_beginning)) bytes)

-- behind some bytes no form is live exactly where no more bytes make them a lawful piece
abbrev pub FailsAtOnce : Type 0
FailsAtOnce = (table : Table) → IsLawfulTable table → (place : Place) (b : ℕ) (bs : List ℕ)
    → (live_all (b ∷ bs) (forms table place) ≡ [])
    ↔ ((p : Piece) (more : List ℕ) → IsLawful table place p → piece_bytes p ≡ (b ∷ bs) ++ more → ⊥)
