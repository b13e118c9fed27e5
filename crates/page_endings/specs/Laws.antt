-- Behind each open piece that passes the test some text ends a piece, as statements.
use Rattle.std.specs.Prelude.{◌≡◌, ℕ, true, List, []}
use Rattle.text_base.specs.declared.page_token.PageToken.{PageToken}
use Rattle.dtd_model.specs.Lawful.{is_lawful}
use Rattle.dtd_model.specs.Table.{Table}
use Rattle.page_model.specs.Places.{Place}
use Rattle.piece_steps.specs.Readers.{go, whole, ends}
use Rattle.character_steps.specs.Bytes.{is_begun}
use Rattle.character_steps.specs.Encoded.{Held, encoded}
use Rattle.page_model.specs.Fronts.{Open}
use Rattle.page_steps.specs.PageSteps.{PageState, page_step, page_reader, page_hold}
use Rattle.page_endings.specs.Ending.{open_can_end, can_end}
use Rattle.page_endings.specs.Shapes.{IsShaped}

-- what is open at a place
abbrev pub at_open : Place → Open → PageState
at_open place o = record { place = place; inside = o }

-- some characters end a piece behind it, at each place
abbrev pub Ends : Table → Open → Type 0
Ends table o = (text : List ℕ) × ((place : Place) → (behind : Place) × (tokens : List PageToken)
    × (ends (page_reader table) (at_open place o) text ≡ whole behind tokens []))

-- by a lawful definition some characters end each open piece that passes and has a shape that the steps keep
abbrev pub CharactersEnd : Type 0
CharactersEnd = (table : Table) → is_lawful table.elements table.entities ≡ true → (o : Open)
    → open_can_end table o ≡ true → IsShaped table o → Ends table o

-- the steps keep the shapes
abbrev pub ShapesKept : Type 0
ShapesKept = (table : Table) (s g : PageState) (c : ℕ) → page_step table s c ≡ go g → IsShaped table s.inside → IsShaped table g.inside

-- By bytes.

-- what the steps by bytes keep: the shape, and only first bytes of a character
abbrev pub IsHeldShaped : Table → Held PageState → Type 0
IsHeldShaped table h = IsShaped table h.state.inside × (is_begun h.begun ≡ true)

-- the steps by bytes keep that
abbrev pub BytesKept : Type 0
BytesKept = (table : Table) (h g : Held PageState) (b : ℕ) → (encoded (page_reader table) page_hold).step h b ≡ go g
    → IsHeldShaped table h → IsHeldShaped table g

-- by a lawful definition some bytes end the piece of each state that passes and is so
abbrev pub BytesEnd : Type 0
BytesEnd = (table : Table) → is_lawful table.elements table.entities ≡ true → (h : Held PageState)
    → can_end table h ≡ true → IsHeldShaped table h → (bytes : List ℕ) × (behind : Place) × (tokens : List PageToken)
    × (ends (encoded (page_reader table) page_hold) h bytes ≡ whole behind tokens [])

-- and each state passes from which some bytes end a piece
abbrev pub EndsCan : Type 0
EndsCan = (table : Table) (h : Held PageState) (bytes rest : List ℕ) (behind : Place) (tokens : List PageToken)
    → ends (encoded (page_reader table) page_hold) h bytes ≡ whole behind tokens rest → can_end table h ≡ true
