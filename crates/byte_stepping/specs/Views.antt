-- The move of the definition that a move in memory stands for, and a part of `decoded` of character_steps that the code has as a call.
use Rattle.std.specs.Prelude.{ℕ, if◌then◌else◌, List, [], ◌∷◌, Option, Some, None}
use Rattle.text_base.specs.declared.page_token.PageToken.{PageToken}
use Rattle.xml_text.specs.Characters.{is_character}
use Rattle.page_model.specs.Places.{Place}
use Rattle.piece_steps.specs.Readers.{Move, go, done, fail}
use Rattle.byte_readers.specs.Reading.{emitted}
use Rattle.open_pieces.specs.Views.{plain_place}
use Rattle.byte_stepping.specs.declared.state_move.StateMove.{StateMove}
use Rattle.byte_stepping.specs.declared.state_move.StateMove.TheVariants.{Go, Done, Fail}

-- by what its states stand for
abbrev pub plain_move_by : {S H : Type 0} → (S → H) → StateMove S → Move Place PageToken H
plain_move_by plain (Go s) = go (plain s)
plain_move_by plain (Done place tokens) = done (plain_place place) (emitted tokens)
plain_move_by plain Fail = fail

-- the character, where it is one of XML and nothing stands behind it
abbrev pub alone : ℕ → List ℕ → Option ℕ
alone c [] = if is_character c then Some c else None
alone c (b ∷ behind) = None
