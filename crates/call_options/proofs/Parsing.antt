-- The test for UTF-8, and the table of a file.
use Rattle.std.proofs.Common.{◌≡◌, ◌∙◌, refl, ap, ℕ, List, Bool, true, false, Option, None, IsUtf8}
use Rattle.std.specs.Str.{is_utf8}
use Rattle.std.proofs.lemmas.Str.{IsUtf8-from_is_utf8, is_utf8-from_IsUtf8}
use Rattle.std.specs.Prelude.{if◌then◌else◌}
use Rattle.toml.specs.Data.{Members}
use Rattle.toml.specs.Parse.{parse_document}
use Rattle.call_options.specs.Outcome.{parsed}

-- a file in UTF-8 is read by TOML
pub parsed-utf8 : (file : List ℕ) (r : Option Members) → IsUtf8 file → parse_document file ≡ r → parsed file ≡ r
parsed-utf8 file r u e = ap (λ b. if b then parse_document file else None) (is_utf8-from_IsUtf8 file u) ∙ e

-- a file that TOML refuses where it is UTF-8 has no table
pub parsed-refused : (file : List ℕ) → (IsUtf8 file → parse_document file ≡ None) → parsed file ≡ None
parsed-refused file refused = by (is_utf8 file) refl
  where
    by : (b : Bool) → is_utf8 file ≡ b → parsed file ≡ None
    by true u = ap (λ c. if c then parse_document file else None) u ∙ refused (IsUtf8-from_is_utf8 file u)
    by false u = ap (λ c. if c then parse_document file else None) u
