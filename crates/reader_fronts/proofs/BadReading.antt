-- What a reader of pages puts out behind a bad front.
use Rattle.std.proofs.Common.{◌≡◌, ◌<◌, ℕ, List, ◌++◌, All, sym, ◌∙◌}
use Rattle.std.proofs.lemmas.List.Elements.{All-append}
use Rattle.text_base.specs.declared.page_token.PageToken.{PageToken}
use Rattle.dtd_model.specs.Table.{Table}
use Rattle.page_model.specs.PageTokens.{PageTokens}
use Rattle.page_reads.specs.Laws.{IsLawfulTable}
use Rattle.page_narrowing.specs.Laws.{NarrowTokensRead}
use Rattle.byte_readers.specs.Reading.{tokens_over}
use Rattle.page_reader.specs.declared.state.ReaderState.{ReaderState}
use Rattle.page_reader.specs.States.{first_state}
use Rattle.reader_fronts.specs.Laws.{EndsBad}
use Rattle.reader_fronts.proofs.BadFronts.{tokens_of, with_more, alone}

module _ (table : Table) (next : ReaderState → ℕ → ReaderState) (puts : ReaderState → ℕ → List PageToken) (lasts : ReaderState → List PageToken)
    (law : NarrowTokensRead) (lawful : IsLawfulTable table)
    (reads : (page : List ℕ) → All (λ byte. byte < 256) page → PageTokens table page (tokens_over next puts lasts first_state page)) where
  -- a page has one list of tokens
  one : (page : List ℕ) (first second : List PageToken) → PageTokens table page first → PageTokens table page second → first ≡ second
  one page first second p q = (law table lawful page first).0 p ∙ sym ((law table lawful page second).0 q)

  pub ends_bad : EndsBad table next puts lasts
  ends_bad bytes more f here behind =
      one (bytes ++ more) (tokens_over next puts lasts first_state (bytes ++ more)) (tokens_of table bytes f)
      (reads (bytes ++ more) (All-append (λ byte. byte < 256) bytes more here behind)) (with_more table bytes more f)
      ∙ sym (one bytes (tokens_over next puts lasts first_state bytes) (tokens_of table bytes f) (reads bytes here) (alone table bytes f))
