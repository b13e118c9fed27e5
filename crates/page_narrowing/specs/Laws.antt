-- The reader of pages that fails at once, as statements.
use Rattle.std.specs.Prelude.{◌≡◌, ◌↔◌, ℕ, true, List, ◌++◌, Some}
use Rattle.std.specs.List.{Any}
use Rattle.text_base.specs.declared.page_token.PageToken.{PageToken}
use Rattle.dtd_model.specs.Table.{Table}
use Rattle.page_model.specs.PageTokens.{PageTokens}
use Rattle.page_model.specs.Places.{Place}
use Rattle.piece_steps.specs.Readers.{go, state_after, all_tokens}
use Rattle.character_steps.specs.Encoded.{Held, at_state}
use Rattle.page_steps.specs.PageSteps.{PageState}
use Rattle.page_step_laws.specs.Laws.{beginning}
use Rattle.page_reads.specs.Laws.{IsLawfulTable}
use Rattle.page_endings.specs.Ending.{some_name_begins}
use Rattle.page_narrowing.specs.Passing.{passes, narrow_reader}

-- what the narrowed reader puts out over a page
abbrev pub narrow_tokens : Table → List ℕ → List PageToken
narrow_tokens table bytes = all_tokens (narrow_reader table) (Some (at_state beginning)) bytes

-- these are the tokens of the page
abbrev pub NarrowTokensRead : Type 0
NarrowTokensRead = (table : Table) → IsLawfulTable table → (bytes : List ℕ) (tokens : List PageToken)
    → PageTokens table bytes tokens ↔ (tokens ≡ narrow_tokens table bytes)

-- what the narrowed reader keeps of each state that it meets
abbrev pub IsKept : Table → Held PageState → Type 0
IsKept table h = passes table h ≡ true

-- the state before a piece is one that passes
abbrev pub FirstKept : Type 0
FirstKept = (table : Table) (place : Place) → IsKept table ((narrow_reader table).first place)

-- each state that a step of the narrowed reader leads to passes
abbrev pub StepsKeep : Type 0
StepsKeep = (table : Table) (h g : Held PageState) (b : ℕ) → (narrow_reader table).step h b ≡ go g → IsKept table g

-- each state that the narrowed reader is in behind some bytes of a page passes
abbrev pub MetKept : Type 0
MetKept = (table : Table) (bytes : List ℕ) (h : Held PageState)
    → state_after (narrow_reader table) (Some (at_state beginning)) bytes ≡ Some h → IsKept table h

-- the test of names tells that one of them begins so
abbrev pub BeginningsTold : Type 0
BeginningsTold = (names : List (List ℕ)) (front : List ℕ)
    → (some_name_begins names front ≡ true) ↔ Any (λ (name : List ℕ). (more : List ℕ) × (name ≡ front ++ more)) names
