-- Texts that are pieces in turn, and what a reader tells of them where no piece has tokens.
use Rattle.std.specs.Prelude.{◌≡◌, ◌↔◌, ℕ, Bool, true, false, List, [], ◌∷◌}
use Rattle.text_base.specs.declared.page_token.PageToken.{PageToken}
use Rattle.text_base.specs.declared.page_token.PageToken.TheVariants as token
use Rattle.byte_readers.specs.Reading.{tokens_over}
use Rattle.derivatives.specs.declared.arena.Arena.{Arena}
use Rattle.page_model.specs.Places.{Place, at_beginning}
use Rattle.piece_steps.specs.Languages.{Language, AllLawful, spelled_then}
use Rattle.way_reader.specs.declared.way.Way.{Way}
use Rattle.way_reader.specs.Ways.{first_state, next_state, tokens_at, tokens_behind}

-- the page is lawful pieces in turn
abbrev pub IsCut : {Q : Type 0} → Language Place Q PageToken → List ℕ → Type 0
IsCut {Q} l page = (qs : List Q) × AllLawful l at_beginning qs × (spelled_then l qs [] ≡ page)

-- nothing, or one bad token
abbrev pub told : Bool → List PageToken
told true = []
told false = token.Bad ∷ []

-- the tokens are one bad one where the statement holds, and none where it does not
abbrev pub Tells : Type 0 → List PageToken → Type 0
Tells P tokens = (fits : Bool) × (tokens ≡ told fits) × (P ↔ (fits ≡ false))

-- what the reader by these ways puts out over a page
abbrev pub way_tokens : Arena → (Place → List Way) → List ℕ → List PageToken
way_tokens a starts page = tokens_over (next_state a starts) (tokens_at a starts) (tokens_behind a starts) first_state page
