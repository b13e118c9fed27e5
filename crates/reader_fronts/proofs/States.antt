-- The states in memory behind a text are those of the definition, and those of the reader with fewer states stand for them.
use Rattle.std.proofs.Common.{◌≡◌, ℕ, List, [], ◌∷◌, Option, Some, None, refl, sym, ◌∙◌, ap}
use Rattle.dtd_model.specs.Table.{Table}
use Rattle.piece_steps.specs.Readers.{to_state, state_after}
use Rattle.character_steps.specs.Encoded.{Held, at_state}
use Rattle.page_steps.specs.PageSteps.{PageState}
use Rattle.page_step_laws.specs.Laws.{beginning}
use Rattle.page_reads.specs.Laws.{IsLawfulTable}
use Rattle.page_narrowing.specs.Passing.{narrow_reader}
use Rattle.exact_fronts.specs.Laws.{EqualFronts}
use Rattle.state_codes.proofs.OneToOne.{plain_coded_held}
use Rattle.page_reader.specs.declared.state.ReaderState.{ReaderState}
use Rattle.page_reader.specs.States.{coded, first_state, next_state}
use Rattle.merged_reader.specs.States.{merged, merged_next}
use Rattle.merged_reader.proofs.Tokens.{same_next}
use Rattle.reader_fronts.specs.Laws.{state_over, LeadsAlike}

module _ (table : Table) where
  state_coded : (o : Option (Held PageState)) (text : List ℕ)
      → state_over (next_state table) (coded o) text ≡ coded (state_after (narrow_reader table) o text)
  state_coded None [] = refl
  state_coded (Some h) [] = refl
  state_coded None (b ∷ bs) = state_coded None bs
  state_coded (Some h) (b ∷ bs) =
      ap (λ (g : Held PageState). state_over (next_state table) (coded (to_state (narrow_reader table) ((narrow_reader table).step g b))) bs) (plain_coded_held h)
      ∙ state_coded (to_state (narrow_reader table) ((narrow_reader table).step h b)) bs

  state_merged : (s : ReaderState) (text : List ℕ)
      → state_over (merged_next table) (merged s) text ≡ merged (state_over (next_state table) s text)
  state_merged s [] = refl
  state_merged s (b ∷ bs) =
      ap (λ (t : ReaderState). state_over (merged_next table) t bs) (same_next table s b) ∙ state_merged (next_state table s b) bs

  pub plain_alike : EqualFronts → IsLawfulTable table → LeadsAlike table (next_state table)
  plain_alike law lawful first second f h g =
      state_coded (Some (at_state beginning)) first
      ∙ ap coded (law table lawful first second f h g)
      ∙ sym (state_coded (Some (at_state beginning)) second)

  pub merged_alike : EqualFronts → IsLawfulTable table → LeadsAlike table (merged_next table)
  merged_alike law lawful first second f h g =
      state_merged first_state first
      ∙ ap merged (plain_alike law lawful first second f h g)
      ∙ sym (state_merged first_state second)
