-- A reader of pages by forms: its state is what is left of each form that a text can still be of.
use Rattle.std.specs.Prelude.{ℕ, Bool, true, false, if◌then◌else◌, List, [], ◌∷◌, Option, Some, None}
use Rattle.text_base.specs.declared.page_token.PageToken.{PageToken}
use Rattle.text_base.specs.declared.page_token.PageToken.TheVariants as token
use Rattle.dtd_model.specs.Table.{Table}
use Rattle.derivatives.specs.Expressions.{Expr, nothing}
use Rattle.derivatives.specs.Derivatives as derivatives
use Rattle.derivatives.specs.Derivatives.{may_end}
use Rattle.piece_steps.specs.Languages.{Language}
use Rattle.piece_steps.specs.Readers.{Move, go, done, fail, Reader}
use Rattle.page_model.specs.PageTokens.{IsLawful, piece_bytes, piece_tokens}
use Rattle.page_model.specs.Pieces.{Piece, after}
use Rattle.page_model.specs.Places.{Place}
use Rattle.page_forms.specs.Forms.{Form, forms}

-- the forms that are live, and whether some of a piece is read
pub record State : Type 0 where
  pub begun : Bool
  pub live : List Form

-- the form with this expression, where that is not `nothing`, before others
abbrev pub kept : Expr → Form → List Form → List Form
kept nothing f others = others
kept e f others = record { expression = e; tokens = f.tokens; leads_to = f.leads_to } ∷ others

-- what is left of the forms behind a byte
abbrev pub live_behind : ℕ → List Form → List Form
live_behind b [] = []
live_behind b (f ∷ fs) = kept (derivatives.after b f.expression) f (live_behind b fs)

-- and behind a text
abbrev pub live_all : List ℕ → List Form → List Form
live_all [] fs = fs
live_all (b ∷ bs) fs = live_all bs (live_behind b fs)

-- the first form of which a text ends here
abbrev pub ended : List Form → Option Form
ended [] = None
ended (f ∷ fs) = if may_end f.expression then Some f else ended fs

-- a piece ends where a form may end; none can come of the text where no form is live
abbrev pub move_by : List Form → Option Form → Move Place PageToken State
move_by live (Some f) = done f.leads_to f.tokens
move_by [] None = fail
move_by (f ∷ fs) None = go (record { begun = true; live = f ∷ fs })

-- one byte
abbrev pub step : State → ℕ → Move Place PageToken State
step s b = move_by (live_behind b s.live) (ended (live_behind b s.live))

-- where a piece begins, all forms at the place are live
abbrev pub form_reader : Table → Reader Place PageToken State
form_reader table = record { first = λ place. record { begun = false; live = forms table place }; step = step; is_open = λ s. s.begun; bad = token.Bad }

-- the lawful pieces of a page, by their bytes
abbrev pub byte_language : Table → Language Place Piece PageToken
byte_language table = record { Lawful = IsLawful table; spell = piece_bytes; after = after; tokens = piece_tokens table }
