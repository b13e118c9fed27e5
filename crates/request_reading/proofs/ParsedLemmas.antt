-- The test for UTF-8, and the value of a file.
use Rattle.std.proofs.Common.{◌≡◌, refl, ap, ◌∙◌, ℕ, List, Bool, true, false, Option, None, IsUtf8}
use Rattle.std.specs.Str.{is_utf8}
use Rattle.std.proofs.lemmas.Str.{IsUtf8-from_is_utf8, is_utf8-from_IsUtf8}
use Rattle.std.specs.Prelude.{if◌then◌else◌}
use Rattle.serde_json.specs.Data.{Data}
use Rattle.serde_json.specs.Read.{read}
use Rattle.request_reading.specs.Outcome.{parsed}

-- a file in UTF-8 is read by JSON
pub parsed-utf8 : (file : List ℕ) (r : Option Data) → IsUtf8 file → read file ≡ r → parsed file ≡ r
parsed-utf8 file r u e = ap (λ b. if b then read file else None) (is_utf8-from_IsUtf8 file u) ∙ e

-- a file that JSON refuses where it is UTF-8 has no value
pub parsed-refused : (file : List ℕ) → (IsUtf8 file → read file ≡ None) → parsed file ≡ None
parsed-refused file refused = by (is_utf8 file) refl
  where
    by : (b : Bool) → is_utf8 file ≡ b → parsed file ≡ None
    by true u = ap (λ c. if c then read file else None) u ∙ refused (IsUtf8-from_is_utf8 file u)
    by false u = ap (λ c. if c then read file else None) u
