-- The reader puts out what the reader of pages puts out.
use Rattle.std.proofs.Common.{◌≡◌, ℕ, List, [], ◌∷◌, ◌++◌, Option, Some, None, refl, sym, ◌∙◌, ap, subst}
use Rattle.text_base.specs.declared.page_token.PageToken.{PageToken}
use Rattle.dtd_model.specs.Table.{Table}
use Rattle.piece_steps.specs.Readers.{to_state, put_out, last_tokens}
use Rattle.character_steps.specs.Encoded.{Held}
use Rattle.page_model.specs.PageTokens.{PageTokens}
use Rattle.page_steps.specs.PageSteps.{PageState}
use Rattle.page_narrowing.specs.Passing.{narrow_reader}
use Rattle.byte_readers.specs.Reading.{tokens_over}
use Rattle.open_pieces.specs.Views.{plain_place, plain_state, plain_held}
use Rattle.open_pieces.specs.declared.open.OpenPiece.{OpenPiece}
use Rattle.open_pieces.specs.declared.state.HeldState.{HeldState}
use Rattle.open_pieces.specs.declared.state.PagePlace.{PagePlace}
use Rattle.page_model.specs.Fronts.{Open}
use Rattle.page_model.specs.Places.{Place}
use Rattle.state_codes.specs.Codes.{coded_open, coded_place}
use Rattle.state_codes.proofs.OneToOne.{plain_coded_held}
use Rattle.page_reader.specs.declared.state.ReaderState.{ReaderState}
use Rattle.page_reader.specs.declared.state.ReaderState.TheVariants.{Failed, Reading}
use Rattle.page_reader.specs.States.{coded, first_state, next_state, tokens_at, tokens_behind}
use Rattle.page_reader.specs.Laws.{IsReaderOf}
use Rattle.merged_reader.specs.Merging.{merged_begun, merged_held}
use Rattle.merged_reader.specs.NumbersInMemory.{merged_open}
use Rattle.merged_reader.specs.States.{merged_state, merged, merged_next}
use Rattle.merged_reader.specs.Laws.{IsMergedReaderOf}
use Rattle.merged_reader.proofs.Full.{merged_option, merged_leads, merged_puts, merged_last}
use Rattle.merged_reader.proofs.InMemory.{coded_merged, plain_merged}

-- in memory as in the definition
abbrev in_memory : PagePlace → OpenPiece → List ℕ → ReaderState
in_memory place o begun = Reading (record { state = record { place = place; inside = o }; begun = begun })

merged_coded : (o : Option (Held PageState)) → merged (coded o) ≡ coded (merged_option o)
merged_coded None = refl
merged_coded (Some h) =
    ap (λ (g : Held PageState). in_memory (coded_place h.state.place) (merged_open (coded_open h.state.inside)) (merged_begun g.state h.begun)) (plain_coded_held h)
    ∙ ap (λ (o : OpenPiece). in_memory (coded_place h.state.place) o (merged_begun h.state h.begun)) (coded_merged h.state.inside)

abbrev in_definition : Place → Open → List ℕ → Held PageState
in_definition place o begun = record { state = record { place = place; inside = o }; begun = begun }

plain_merged_held : (h : HeldState) → plain_held (merged_state h) ≡ merged_held (plain_held h)
plain_merged_held h =
    ap (λ (o : Open). in_definition (plain_place h.state.place) o (merged_begun (plain_state h.state) h.begun)) (plain_merged h.state.inside)

module _ (table : Table) where
  abbrev moved : Held PageState → ℕ → Option (Held PageState)
  moved h b = to_state (narrow_reader table) ((narrow_reader table).step h b)

  pub same_next : (s : ReaderState) (b : ℕ) → merged (next_state table (merged s) b) ≡ merged (next_state table s b)
  same_next Failed b = refl
  same_next (Reading h) b =
      ap (λ (g : Held PageState). merged (coded (moved g b))) (plain_merged_held h)
      ∙ merged_coded (moved (merged_held (plain_held h)) b)
      ∙ ap coded (merged_leads table (plain_held h) b)
      ∙ sym (merged_coded (moved (plain_held h) b))

  same_puts : (s : ReaderState) (b : ℕ) → tokens_at table (merged s) b ≡ tokens_at table s b
  same_puts Failed b = refl
  same_puts (Reading h) b =
      ap (λ (g : Held PageState). put_out (narrow_reader table) ((narrow_reader table).step g b)) (plain_merged_held h)
      ∙ merged_puts table (plain_held h) b

  pub same_lasts : (s : ReaderState) → tokens_behind table (merged s) ≡ tokens_behind table s
  same_lasts Failed = refl
  same_lasts (Reading h) =
      ap (λ (g : Held PageState). last_tokens (narrow_reader table) g) (plain_merged_held h) ∙ merged_last table (plain_held h)

  same_tokens : (s : ReaderState) (text : List ℕ)
      → tokens_over (merged_next table) (tokens_at table) (tokens_behind table) (merged s) text
      ≡ tokens_over (next_state table) (tokens_at table) (tokens_behind table) s text
  same_tokens s [] = same_lasts s
  same_tokens s (b ∷ bs) =
      ap (λ (t : ReaderState). tokens_at table (merged s) b ++ tokens_over (merged_next table) (tokens_at table) (tokens_behind table) t bs) (same_next s b)
      ∙ ap (λ (x : List PageToken). tokens_at table (merged s) b ++ x) (same_tokens (next_state table s b) bs)
      ∙ ap (λ (x : List PageToken). x ++ tokens_over (next_state table) (tokens_at table) (tokens_behind table) (next_state table s b) bs) (same_puts s b)

  pub is_merged_reader : IsReaderOf table → IsMergedReaderOf table
  is_merged_reader reads page bytes = subst (PageTokens table page) (sym (same_tokens first_state page)) (reads page bytes)
