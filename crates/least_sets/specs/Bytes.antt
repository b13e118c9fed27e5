-- Which bytes an operation puts into its outputs: some whatever it reads, and some for each byte that it reads.
use Rattle.std.specs.Prelude.{◌≡◌, ◌⊎◌, ℕ, IsTrue, Contains, codes}
use Rattle.std.specs.Char.{to_ascii_lowercase, to_ascii_uppercase}
use Rattle.string_functions.specs.Html.{html_of_byte}
use Rattle.string_functions.specs.Breaks.{is_line_end}
use Rattle.string_functions.specs.Url.{url_of_byte, raw_url_of_byte}
use Rattle.string_functions.specs.Slashes.{slashes_of_byte}
use Rattle.op_system.specs.declared.op.Op.{Op}
use Rattle.op_system.specs.declared.op.Op.TheVariants.{Html, Replace, Lower, Upper, First, Breaks, Url, RawUrl, Slashes}

-- the byte may stand in an output on any input
unfoldable pub Adds : Op → ℕ → Type 0
Adds (Replace search with) c = Contains with c
Adds _ c = ⊥

-- the second byte may stand in an output on an input that has the first
unfoldable pub Turns : Op → ℕ → ℕ → Type 0
Turns Html b c = Contains (html_of_byte b) c
Turns Lower b c = c ≡ to_ascii_lowercase b
Turns Upper b c = c ≡ to_ascii_uppercase b
Turns First b c = (c ≡ b) ⊎ (c ≡ to_ascii_uppercase b)
Turns Breaks b c = (c ≡ b) ⊎ (Contains (codes "<br />") c × IsTrue (is_line_end b))
Turns Url b c = Contains (url_of_byte b) c
Turns RawUrl b c = Contains (raw_url_of_byte b) c
Turns Slashes b c = Contains (slashes_of_byte b) c
Turns _ b c = c ≡ b
