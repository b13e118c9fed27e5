-- A state and the one that stands for it, by its open character and its open number.
use Rattle.std.proofs.Common.{◌≡◌, ℕ, Bool, Option, Some, None, refl, sym, ◌∙◌, ap}
use Rattle.std.specs.Prelude.{if◌then◌else◌}
use Rattle.dtd_model.specs.Table.{Table}
use Rattle.piece_steps.specs.Readers.{to_state, put_out, last_tokens}
use Rattle.character_steps.specs.Encoded.{Held}
use Rattle.page_steps.specs.PageSteps.{PageState}
use Rattle.page_narrowing.specs.Passing.{narrow_reader}
use Rattle.merged_reader.specs.Alike.{representative}
use Rattle.merged_reader.specs.Merging.{merged_held}
use Rattle.merged_reader.specs.Numbers.{merged_numbers}
use Rattle.merged_reader.proofs.Held.{begun_held, begun_option, begun_moves, begun_last}
use Rattle.merged_reader.proofs.NumberMoves.{alike_same, numbered, numbered_option, numbers_lead, numbers_put, numbers_last}

abbrev pub merged_option : Option (Held PageState) → Option (Held PageState)
merged_option None = None
merged_option (Some h) = Some (merged_held h)

either : (h : Held PageState) → merged_held h ≡ begun_held (numbered h)
either h =
    ap (λ (b : Bool). let g : Held PageState = record { state = merged_numbers h.state; begun = if b then representative h.begun else h.begun } in g)
    (sym (alike_same h.state.place h.state.inside))

character_last : (o : Option (Held PageState)) → merged_option o ≡ begun_option (numbered_option o)
character_last None = refl
character_last (Some h) = ap (λ (g : Held PageState). Some g) (either h)

number_last : (o : Option (Held PageState)) → merged_option o ≡ numbered_option (begun_option o)
number_last None = refl
number_last (Some h) = refl

module _ (table : Table) where
  abbrev behind : Held PageState → ℕ → Option (Held PageState)
  behind h b = to_state (narrow_reader table) ((narrow_reader table).step h b)

  pub merged_leads : (h : Held PageState) (b : ℕ) → merged_option (behind (merged_held h) b) ≡ merged_option (behind h b)
  merged_leads h b =
      character_last (behind (merged_held h) b)
      ∙ ap begun_option (numbers_lead table (begun_held h) b)
      ∙ sym (character_last (behind (begun_held h) b))
      ∙ number_last (behind (begun_held h) b)
      ∙ ap numbered_option (begun_moves table h b).leads
      ∙ sym (number_last (behind h b))

  pub merged_puts : (h : Held PageState) (b : ℕ)
      → put_out (narrow_reader table) ((narrow_reader table).step (merged_held h) b) ≡ put_out (narrow_reader table) ((narrow_reader table).step h b)
  merged_puts h b = numbers_put table (begun_held h) b ∙ (begun_moves table h b).puts

  pub merged_last : (h : Held PageState) → last_tokens (narrow_reader table) (merged_held h) ≡ last_tokens (narrow_reader table) h
  merged_last h = numbers_last table (begun_held h) ∙ begun_last table h
