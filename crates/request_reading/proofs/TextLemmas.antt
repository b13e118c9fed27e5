-- Texts of XML's characters, as a test.
use Rattle.std.proofs.Common.{◌≡◌, ◌↔◌, ℕ, List, Bool, true, chars}
use Rattle.std.specs.Prelude.{IsTrue}
use Rattle.std.specs.List.{list_all}
use Rattle.std.specs.Str.{is_utf8}
use Rattle.std.proofs.lemmas.Bool.{and_parts, and_from}
use Rattle.std.proofs.lemmas.Bool.Decides.{same_from_decides}
use Rattle.std.proofs.lemmas.Str.{IsUtf8-from_is_utf8, is_utf8-from_IsUtf8}
use Rattle.xml_text.specs.Characters.{is_character}
use Rattle.xml_text.specs.Texts.{IsText}
use Rattle.request_reading.specs.Admission.{is_text}

pub text_is : (t : List ℕ) → is_text t ≡ true → IsText t
text_is t h =
    let parts = and_parts (is_utf8 t) (list_all is_character (chars t)) h in
    record { utf8 = IsUtf8-from_is_utf8 t parts.0; characters = parts.1 }

pub is_the_text : (t : List ℕ) → IsText t → is_text t ≡ true
is_the_text t h = and_from (is_utf8 t) (list_all is_character (chars t)) (is_utf8-from_IsUtf8 t h.utf8) h.characters

pub text_test : (r : Bool) (t : List ℕ) → IsTrue r ↔ IsText t → r ≡ is_text t
text_test r t h = same_from_decides r (is_text t) (h.0, h.1) (text_is t, is_the_text t)
