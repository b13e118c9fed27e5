-- UTF-8 as a test.
use Rattle.std.proofs.Common.{◌≡◌, ℕ, Bool, true, false, List, refl}
use Rattle.std.specs.Str.{is_utf8, IsUtf8}
use Rattle.std.proofs.lemmas.Str.{IsUtf8-from_is_utf8, is_utf8-from_IsUtf8}

pub is_text : (text : List ℕ) → IsUtf8 text → is_utf8 text ≡ true
is_text text h = is_utf8-from_IsUtf8 text h

pub is_no_text : (text : List ℕ) → ¬ (IsUtf8 text) → is_utf8 text ≡ false
is_no_text text h = by (is_utf8 text) refl where
  by : (b : Bool) → is_utf8 text ≡ b → is_utf8 text ≡ false
  by true e = absurd (h (IsUtf8-from_is_utf8 text e))
  by false e = e
