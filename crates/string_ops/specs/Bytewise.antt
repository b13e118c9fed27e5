-- The machines that write each byte by itself, all in one state.
use Rattle.std.specs.Prelude.{ℕ, ◌==◌, ◌||◌, ◌&&◌, nat_le, List, [], ◌∷◌, map, if◌then◌else◌}
use Rattle.std.specs.Char.{to_ascii_lowercase, to_ascii_uppercase}
use Rattle.string_functions.specs.Case.{lower_of, upper_of}
use Rattle.string_functions.specs.Url.{is_kept_in_url, percent_of_byte, url_of_byte, raw_url_of_byte, url_of, raw_url_of}
use Rattle.string_functions.specs.Slashes.{slashes_of_byte, slashes_of}
use Rattle.fst_core.specs.declared.out.Out.{Out}
use Rattle.fst_core.specs.declared.out.Out.TheVariants.{Same, Shift, Byte}
use Rattle.string_ops.specs.declared.bytewise.Bytewise.{Bytewise}
use Rattle.string_ops.specs.declared.bytewise.Bytewise.TheVariants.{Lower, Upper, Url, RawUrl, Slashes}

-- what the function writes for a byte
abbrev pub written_for : Bytewise → ℕ → List ℕ
written_for Lower b = to_ascii_lowercase b ∷ []
written_for Upper b = to_ascii_uppercase b ∷ []
written_for Url b = url_of_byte b
written_for RawUrl b = raw_url_of_byte b
written_for Slashes b = slashes_of_byte b

-- what the machine puts out as it reads the byte
abbrev pub outs_of : Bytewise → ℕ → List Out
outs_of Lower b = if nat_le 65 b && nat_le b 90 then Shift 32 ∷ [] else Same ∷ []
outs_of Upper b = if nat_le 97 b && nat_le b 122 then Shift 224 ∷ [] else Same ∷ []
outs_of Url b = if is_kept_in_url b then Same ∷ [] else (if b == 32 then Byte 43 ∷ [] else map Byte (percent_of_byte b))
outs_of RawUrl b = if is_kept_in_url b || b == 126 then Same ∷ [] else map Byte (percent_of_byte b)
outs_of Slashes b = if b == 39 || b == 34 || b == 92 then Byte 92 ∷ Same ∷ [] else (if b == 0 then Byte 92 ∷ Byte 48 ∷ [] else Same ∷ [])

-- the one state goes on by each byte, and may end with nothing more
abbrev pub bytewise_rows : Bytewise → ℕ → ℕ → List (ℕ × List Out)
bytewise_rows kind s b = if s == 0 then (0, outs_of kind b) ∷ [] else []

-- the one state may end, with nothing more put out
abbrev pub bytewise_lasts : ℕ → List (List Out)
bytewise_lasts s = if s == 0 then [] ∷ [] else []

-- what the function makes of a text
abbrev pub bytewise_of : Bytewise → List ℕ → List ℕ
bytewise_of Lower text = lower_of text
bytewise_of Upper text = upper_of text
bytewise_of Url text = url_of text
bytewise_of RawUrl text = raw_url_of text
bytewise_of Slashes text = slashes_of text
