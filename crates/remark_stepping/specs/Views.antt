-- The move of the definition that a move in memory stands for.
use Rattle.piece_steps.specs.Readers.{go, done, fail}
use Rattle.page_steps.specs.PageSteps.{OpenMove}
use Rattle.byte_readers.specs.Reading.{emitted}
use Rattle.open_pieces.specs.Views.{plain_open, plain_place}
use Rattle.remark_stepping.specs.declared.page_move.PageMove.{PageMove}
use Rattle.remark_stepping.specs.declared.page_move.PageMove.TheVariants.{Go, Done, Fail}

-- the plain form of a move
abbrev pub plain_move : PageMove → OpenMove
plain_move (Go o) = go (plain_open o)
plain_move (Done place tokens) = done (plain_place place) (emitted tokens)
plain_move Fail = fail
