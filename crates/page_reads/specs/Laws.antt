-- The tokens of a page, read byte by byte, as statements.
use Rattle.std.specs.Prelude.{◌≡◌, ◌↔◌, ℕ, true, List}
use Rattle.text_base.specs.declared.page_token.PageToken.{PageToken}
use Rattle.dtd_model.specs.Lawful.{is_lawful}
use Rattle.dtd_model.specs.Table.{Table}
use Rattle.page_model.specs.PageTokens.{PageTokens}
use Rattle.piece_steps.specs.Reads.{Reads}
use Rattle.page_steps.specs.PageSteps.{page_reader, page_language}
use Rattle.page_step_laws.specs.Laws.{read_tokens}

-- as the type of definitions keeps it
abbrev pub IsLawfulTable : Table → Type 0
IsLawfulTable table = is_lawful table.elements table.entities ≡ true

-- under a lawful definition the reader reads the pieces of a page and nothing else
abbrev pub PiecesRead : Type 0
PiecesRead = (table : Table) → IsLawfulTable table → Reads (page_language table) (page_reader table)

-- under a lawful definition a page's tokens are what the reader by bytes puts out over it, and no others
abbrev pub PageTokensRead : Type 0
PageTokensRead = (table : Table) → IsLawfulTable table → (bytes : List ℕ) (tokens : List PageToken)
    → PageTokens table bytes tokens ↔ (tokens ≡ read_tokens table bytes)
