-- Fixed values by their bytes.
use Rattle.std.proofs.Common.{◌≡◌, ℕ, Bool, true, false, List, [], ◌∷◌, refl, sym, ◌∙◌, ap, arith, IsUtf8}
use Rattle.std.specs.Prelude.{◌&&◌, bytes_eq}
use Rattle.std.specs.Char.{IsScalar}
use Rattle.std.specs.List.{list_all}
use Rattle.std.specs.Str.{chars, encode_utf8_all, all_scalars}
use Rattle.std.proofs.Math.Utf8.{scalar}
use Rattle.std.proofs.lemmas.Bool.{and_parts, and_from}
use Rattle.std.proofs.lemmas.Bool.Decides.{nat_tests}
use Rattle.std.proofs.lemmas.Str.{encodes-chars}
use Rattle.xml_text.specs.Characters.{is_character}
use Rattle.dtd_model.specs.Table.{Kind}
use Rattle.page_model.specs.Attributes.{has_kind}
use Rattle.page_model.specs.Parts.{may_be_quoted, refers_by}
use Rattle.page_model.proofs.Names.{same_bytes, equal_bytes}
use Rattle.dtd_model.specs.References.{is_reference, is_known}
use Rattle.page_forms.specs.Tags.{is_value, is_fixed_value}

is_scalar : (c : ℕ) → is_character c ≡ true → IsScalar c
is_scalar c h = grind (arith, nat_tests)

scalars : (q : ℕ) (cs : List ℕ) → list_all (may_be_quoted q) cs ≡ true → all_scalars cs ≡ true
scalars q [] h = refl
scalars q (c ∷ cs) h =
    let p = and_parts (may_be_quoted q c) (list_all (may_be_quoted q) cs) h in
    and_from (scalar c) (all_scalars cs) (is_scalar c (and_parts (is_character c) _ p.0).0) (scalars q cs p.1)

quoted : (entities : List (List ℕ)) (q : ℕ) (cs : List ℕ) → is_value entities q cs ≡ true → list_all (may_be_quoted q) cs ≡ true
quoted entities q cs h =
    let p = and_parts (list_all (may_be_quoted q) cs && refers_by is_reference cs) (refers_by (is_known entities) cs) h in
    (and_parts (list_all (may_be_quoted q) cs) (refers_by is_reference cs) p.0).0

-- bytes that are no UTF-8 are no value
pub no_value : (entities : List (List ℕ)) (k : Kind) (q : ℕ) (bytes : List ℕ) → (IsUtf8 bytes → ⊥) → false ≡ is_fixed_value entities k q bytes
no_value entities k q bytes none = at (is_fixed_value entities k q bytes) refl
  where
    at : (b : Bool) → is_fixed_value entities k q bytes ≡ b → false ≡ b
    at false e = refl
    at true e =
        let p = and_parts (bytes_eq (encode_utf8_all (chars bytes)) bytes) (is_value entities q (chars bytes) && has_kind k (chars bytes)) e in
        let r = and_parts (is_value entities q (chars bytes)) (has_kind k (chars bytes)) p.1 in
        absurd (none (chars bytes, (scalars q (chars bytes) (quoted entities q (chars bytes) r.0), same_bytes (encode_utf8_all (chars bytes)) bytes p.0)))

-- of UTF-8 it is the characters that count
pub value_by_characters : (entities : List (List ℕ)) (k : Kind) (q : ℕ) (bytes text cs : List ℕ) (b : Bool) → text ≡ bytes → IsUtf8 bytes → cs ≡ chars text → b ≡ (is_value entities q cs && has_kind k cs)
    → b ≡ is_fixed_value entities k q bytes
value_by_characters entities k q bytes text cs b same utf8 are is =
    is ∙ ap (λ (ds : List ℕ). is_value entities q ds && has_kind k ds) (are ∙ ap chars same)
    ∙ sym (ap (λ (t : Bool). t && (is_value entities q (chars bytes) && has_kind k (chars bytes))) (equal_bytes (encode_utf8_all (chars bytes)) bytes (encodes-chars bytes utf8)))
