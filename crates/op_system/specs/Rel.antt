-- Which outputs an operation has on an input (PHP manual, each function under its name).
use Rattle.std.specs.Prelude.{◌≡◌, List, ℕ, IsUtf8, Contains}
use Rattle.string_functions.specs.Html.{html_of}
use Rattle.string_functions.specs.Pieces.{pieces_of, replaced_text}
use Rattle.string_functions.specs.Cut.{part_of, IsFactor}
use Rattle.string_functions.specs.Case.{lower_of, upper_of, first_upper_of}
use Rattle.string_functions.specs.Trim.{trim_of}
use Rattle.string_functions.specs.Breaks.{breaks_of}
use Rattle.string_functions.specs.Url.{url_of, raw_url_of}
use Rattle.string_functions.specs.Slashes.{slashes_of}
use Rattle.op_system.specs.declared.op.Op.{Op}
use Rattle.op_system.specs.declared.op.Op.TheVariants.{Same, Any, Html, Replace, Cut, Factor, Lower, Upper, First, Trim, Breaks, Url, RawUrl, Slashes, Piece}

-- `Html` has no output on what is no UTF-8; `Factor` has each part of the text, and `Piece` each piece; `Any` has none here, since what it
-- may give is said by its bytes alone
abbrev pub Rel : Op → List ℕ → List ℕ → Type 0
Rel Same input output = output ≡ input
Rel Any input output = ⊥
Rel Html input output = IsUtf8 input × (output ≡ html_of input)
Rel (Replace search with) input output = output ≡ replaced_text search with input
Rel (Cut start len) input output = output ≡ part_of input start len
Rel Factor input output = IsFactor input output
Rel Lower input output = output ≡ lower_of input
Rel Upper input output = output ≡ upper_of input
Rel First input output = output ≡ first_upper_of input
Rel (Trim left right) input output = output ≡ trim_of left right input
Rel Breaks input output = output ≡ breaks_of input
Rel Url input output = output ≡ url_of input
Rel RawUrl input output = output ≡ raw_url_of input
Rel Slashes input output = output ≡ slashes_of input
Rel (Piece sep) input output = Contains (pieces_of sep input) output
