-- The functions that write each byte as some bytes.
use Rattle.std.specs.Prelude.{ℕ, List, flat_map}
use Rattle.string_functions.specs.Html.{html_of_byte}
use Rattle.string_functions.specs.Url.{url_of_byte, raw_url_of_byte}
use Rattle.string_functions.specs.Slashes.{slashes_of_byte}
use Rattle.php_builtins.specs.declared.encodings.Encoding.{Encoding}
use Rattle.php_builtins.specs.declared.encodings.Encoding.TheVariants.{Html, Url, RawUrl, Slashes}

-- what stands for a byte
abbrev pub bytes_for : Encoding → ℕ → List ℕ
bytes_for Html b = html_of_byte b
bytes_for Url b = url_of_byte b
bytes_for RawUrl b = raw_url_of_byte b
bytes_for Slashes b = slashes_of_byte b

-- a text with each byte written as what stands for it
abbrev pub encoded : Encoding → List ℕ → List ℕ
encoded encoding text = flat_map (bytes_for encoding) text
