-- What readers by the loose forms and by the coarse one tell, and the machines that they make.
use Rattle.std.specs.Prelude.{◌≡◌, ◌↔◌, ◌<◌, ℕ, false, List, All}
use Rattle.text_base.specs.declared.letter.Letter.{Letter}
use Rattle.text_base.specs.declared.page_token.PageToken.{PageToken}
use Rattle.dtd_model.specs.Table.{Table}
use Rattle.derivatives.specs.Expressions.{Matches, star}
use Rattle.derivatives.specs.declared.arena.Arena.{Arena}
use Rattle.page_model.specs.Broken.{Broken}
use Rattle.page_model.specs.Places.{Place}
use Rattle.tag_sums.specs.Nesting.{nest_of, is_balanced}
use Rattle.page_decision.specs.declared.goal.Goal.{Goal}
use Rattle.page_decision.specs.Goals.{IsGood}
use Rattle.page_decision.specs.Echoes.{PutsTokens}
use Rattle.page_decision.specs.Machines.{IsBrokenMachine}
use Rattle.echoing_machine.specs.Echoes.{EchoStep, EchoEnd}
use Rattle.form_reader.specs.Laws.{IsLawfulTable}
use Rattle.way_reader.specs.Cuts.{Tells, way_tokens}
use Rattle.way_reader.specs.declared.way.Way.{Way}
use Rattle.way_reader.specs.declared.way.WayState.{WayState}
use Rattle.way_reader.specs.Laws.{HaveTexts}
use Rattle.way_reader.specs.Ways.{first_state, next_state, tokens_at, tokens_behind}
use Rattle.coarse_forms.specs.CoarseForms.{coarse_form}
use Rattle.coarse_forms.specs.Languages.{coarse_forms}
use Rattle.broken_forms.specs.LooseForms.{loose_forms}

-- the page is no coarse pieces in turn
abbrev pub IsCoarselyBroken : List ℕ → Type 0
IsCoarselyBroken page = Matches (star coarse_form) page → ⊥

-- by ways that have the texts of the loose forms, one bad token over a page of bytes that is broken, and none over another
abbrev pub LooseTellsBroken : Type 0
LooseTellsBroken = (table : Table) (a : Arena) (starts : Place → List Way) → HaveTexts (loose_forms table) a starts
    → (page : List ℕ) → All (λ byte. byte < 256) page → Tells (Broken table page) (way_tokens a starts page)

-- the same by the coarse form, of pages that are coarsely broken
abbrev pub CoarseTellsBroken : Type 0
CoarseTellsBroken = (a : Arena) (starts : Place → List Way) → HaveTexts coarse_forms a starts
    → (page : List ℕ) → All (λ byte. byte < 256) page → Tells (IsCoarselyBroken page) (way_tokens a starts page)

-- one byte of the machine that echoes with the reader by these ways
abbrev pub WayStep : Arena → (Place → List Way) → WayState → ℕ → WayState → List Letter → Type 0
WayStep a starts = EchoStep (next_state a starts) (tokens_at a starts) (tokens_behind a starts)

-- and its end
abbrev pub WayEnd : Arena → (Place → List Way) → WayState → List Letter → Type 0
WayEnd a starts = EchoEnd (next_state a starts) (tokens_at a starts) (tokens_behind a starts)

-- what it puts out over a page
abbrev pub WayPuts : Arena → (Place → List Way) → List ℕ → List PageToken → Type 0
WayPuts a starts = PutsTokens first_state (WayStep a starts) (WayEnd a starts)

-- by the loose forms its tokens are not nested exactly where the page is broken
abbrev pub LooseMissesNone : Type 0
LooseMissesNone = (table : Table) (a : Arena) (starts : Place → List Way) → HaveTexts (loose_forms table) a starts
    → (page : List ℕ) (tokens : List PageToken) → All (λ byte. byte < 256) page → WayPuts a starts page tokens
    → (is_balanced (nest_of tokens) ≡ false) ↔ Broken table page

-- by the coarse one exactly where it is coarsely broken
abbrev pub CoarseMissesNone : Type 0
CoarseMissesNone = (a : Arena) (starts : Place → List Way) → HaveTexts coarse_forms a starts
    → (page : List ℕ) (tokens : List PageToken) → All (λ byte. byte < 256) page → WayPuts a starts page tokens
    → (is_balanced (nest_of tokens) ≡ false) ↔ IsCoarselyBroken page

-- a page that is broken by a lawful definition is good by no goal
abbrev pub BrokenIsNotGood : Type 0
BrokenIsNotGood = (table : Table) → IsLawfulTable table → (page : List ℕ) → Broken table page → (goal : Goal) → IsGood goal table page → ⊥

-- so the machine of the loose forms finds pages that are good by no goal
abbrev pub LooseFindsBroken : Type 0
LooseFindsBroken = (table : Table) → IsLawfulTable table → (a : Arena) (starts : Place → List Way) → HaveTexts (loose_forms table) a starts
    → IsBrokenMachine table first_state (WayStep a starts) (WayEnd a starts)

-- and that of the coarse one finds such pages, whatever the definition
abbrev pub CoarseFindsBroken : Type 0
CoarseFindsBroken = (table : Table) → IsLawfulTable table → (a : Arena) (starts : Place → List Way) → HaveTexts coarse_forms a starts
    → IsBrokenMachine table first_state (WayStep a starts) (WayEnd a starts)
