-- Readers of pages.
use Rattle.std.specs.Prelude.{◌<◌, ℕ, List, All}
use Rattle.text_base.specs.declared.page_token.PageToken.{PageToken}
use Rattle.dtd_model.specs.Table.{Table}
use Rattle.page_model.specs.PageTokens.{PageTokens}
use Rattle.byte_readers.specs.Reading.{tokens_over}

-- over each page of bytes the reader puts out the tokens of the page
abbrev pub ReadsPages : {S : Type 0} → Table → (S → ℕ → S) → (S → ℕ → List PageToken) → (S → List PageToken) → S → Type 0
ReadsPages table next puts lasts first = (page : List ℕ) → All (λ byte. byte < 256) page
    → PageTokens table page (tokens_over next puts lasts first page)
