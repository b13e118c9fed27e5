-- What bytes are read as has these bytes.
use Rattle.std.proofs.Common.{◌≡◌, ℕ, Bool, true, false, ◌&&◌, List, [], ◌∷◌, Option, Some, None, refl, subst}
use Rattle.std.specs.Prelude.{if◌then◌else◌, bytes_eq}
use Rattle.std.specs.Char.{encode_utf8}
use Rattle.std.specs.Str.{chars}
use Rattle.std.proofs.lemmas.Bool.{and_parts}
use Rattle.std.proofs.lemmas.Slice.Eq.{bytes_eq-Decides}
use Rattle.xml_text.specs.Characters.{is_character}
use Rattle.character_steps.specs.Bytes.{only, decoded}

pub spelled : (bytes : List ℕ) (c : ℕ) → decoded bytes ≡ Some c → encode_utf8 c ≡ bytes
unfolding decoded
spelled bytes c e = at (chars bytes) e
  where
    same : (x y : ℕ) → (let z : Option ℕ = Some x in z ≡ Some y) → x ≡ y
    same x y e = cc

    by : (d : ℕ) (b : Bool) → (is_character d && bytes_eq (encode_utf8 d) bytes) ≡ b → (if b then Some d else None) ≡ Some c → encode_utf8 c ≡ bytes
    by d true h e = subst (λ (x : ℕ). encode_utf8 x ≡ bytes) (same d c e) ((bytes_eq-Decides (encode_utf8 d) bytes).0 (and_parts (is_character d) (bytes_eq (encode_utf8 d) bytes) h).1)
    by d false h e = cc

    at : (cs : List ℕ) → only cs bytes ≡ Some c → encode_utf8 c ≡ bytes
    at [] e = cc
    at (d ∷ []) e = by d (is_character d && bytes_eq (encode_utf8 d) bytes) refl e
    at (d ∷ f ∷ cs) e = cc
