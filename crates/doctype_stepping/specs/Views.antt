-- The turn of the definition that a turn in memory stands for.
use Rattle.std.specs.Prelude.{ℕ, Bool, true, false, ◌==◌, ◌&&◌, if◌then◌else◌, List, Some, codes}
use Rattle.xml_text.specs.Characters.{is_blank}
use Rattle.page_model.specs.Parts.{is_quote}
use Rattle.piece_steps.specs.Insides.{Turn, on, out, stop}
use Rattle.page_model.specs.OpenDoctypes as doctype
use Rattle.page_steps.specs.DoctypeSteps.{is_wanted, end_turn}
use Rattle.open_pieces.specs.Views.{plain_doctype}
use Rattle.doctype_stepping.specs.declared.turn.DoctypeTurn.{DoctypeTurn}
use Rattle.doctype_stepping.specs.declared.turn.DoctypeTurn.TheVariants.{On, Out, Stop}

-- the plain form of a turn
abbrev pub plain_turn : DoctypeTurn → Turn doctype.OpenDoctype
plain_turn (On o) = on (plain_doctype o)
plain_turn Out = out
plain_turn Stop = stop

-- at the end of a public literal that the definition names
abbrev pub wanted_turn : List ℕ → Turn doctype.OpenDoctype
wanted_turn text = if is_wanted (Some text) then on (doctype.behind_public false) else stop

-- parts of `doctype_turn` that go by no rule
abbrev pub before_next : Bool → ℕ → Turn doctype.OpenDoctype
before_next spaced c = if is_blank c then on (doctype.before_root true)
    else (if c == 104 && spaced then on (doctype.in_root (codes "h")) else stop)

-- behind a public literal: white space, or a quote behind some, which opens the system literal
abbrev pub behind_public_next : Bool → ℕ → Turn doctype.OpenDoctype
behind_public_next spaced c = if is_blank c then on (doctype.behind_public true)
    else (if is_quote c && spaced then on (doctype.in_system c) else stop)

-- in a system literal: its quote, or one more character
abbrev pub system_next : ℕ → ℕ → Turn doctype.OpenDoctype
system_next quote c = if c == quote then on doctype.behind_system else on (doctype.in_system quote)

-- behind a system literal: white space, or the end
abbrev pub behind_system_next : ℕ → Turn doctype.OpenDoctype
behind_system_next c = if is_blank c then on doctype.behind_system else end_turn true c
