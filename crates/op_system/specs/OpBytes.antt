-- Which bytes the outputs of an operation may have.
use Rattle.std.specs.Prelude.{◌≡◌, ◌⊎◌, ℕ, IsTrue, Contains, codes}
use Rattle.std.specs.Char.{to_ascii_lowercase, to_ascii_uppercase}
use Rattle.string_functions.specs.Html.{html_of_byte}
use Rattle.string_functions.specs.Breaks.{is_line_end}
use Rattle.string_functions.specs.Url.{url_of_byte, raw_url_of_byte}
use Rattle.string_functions.specs.Slashes.{slashes_of_byte}
use Rattle.op_system.specs.declared.op.Op.{Op}
use Rattle.op_system.specs.declared.op.Op.TheVariants.{Same, Any, Html, Replace, Cut, Factor, Lower, Upper, First, Trim, Breaks, Url, RawUrl, Slashes, Piece}

-- the byte may stand in an output on an input of these bytes; the input of `Any` is its subject and its replacement together
abbrev pub OutputByte : Op → (ℕ → Type 0) → ℕ → Type 0
OutputByte Same In c = In c
OutputByte Any In c = In c
OutputByte Html In c = (b : ℕ) × In b × Contains (html_of_byte b) c
OutputByte (Replace search with) In c = In c ⊎ Contains with c
OutputByte (Cut start len) In c = In c
OutputByte Factor In c = In c
OutputByte Lower In c = (b : ℕ) × In b × (c ≡ to_ascii_lowercase b)
OutputByte Upper In c = (b : ℕ) × In b × (c ≡ to_ascii_uppercase b)
OutputByte First In c = In c ⊎ ((b : ℕ) × In b × (c ≡ to_ascii_uppercase b))
OutputByte (Trim left right) In c = In c
OutputByte Breaks In c = In c ⊎ (Contains (codes "<br />") c × ((b : ℕ) × In b × IsTrue (is_line_end b)))
OutputByte Url In c = (b : ℕ) × In b × Contains (url_of_byte b) c
OutputByte RawUrl In c = (b : ℕ) × In b × Contains (raw_url_of_byte b) c
OutputByte Slashes In c = (b : ℕ) × In b × Contains (slashes_of_byte b) c
OutputByte (Piece sep) In c = In c
