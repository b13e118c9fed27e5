-- Equality of open attributes is exact.
use Rattle.std.specs.Prelude.{◌≡◌, ℕ, Bool, true, List}
use Rattle.std.proofs.Common.{ap}
use Rattle.std.proofs.lemmas.Map.Views.{exact_unsigned_eq}
use Rattle.text_base.specs.Exactness.{exact_bytes}
use Rattle.open_pieces.specs.Lists.{exact_bool, three}
use Rattle.open_pieces.specs.declared.value.OpenValue.{OpenValue}
use Rattle.open_pieces.specs.ValueExactness.{exact_value}
use Rattle.open_pieces.specs.declared.attribute.OpenAttribute.{OpenAttribute}
use Rattle.open_pieces.specs.declared.attribute.OpenAttribute.TheVariants as attribute
use Rattle.open_pieces.specs.contracts.attribute.OpenAttributePartialEq.TheImpl as attributes

exact_attribute_between : (a0 : Bool) (q : OpenAttribute) → (attributes.ghosts).eq (attribute.Between a0) q ≡ true
    → attribute.Between a0 ≡ q
exact_attribute_between a0 (attribute.Between b0) e = ap (λ (z : Bool). attribute.Between z) (exact_bool a0 b0 e)
exact_attribute_between a0 (attribute.Name b0) e = cc
exact_attribute_between a0 (attribute.BehindName b0) e = cc
exact_attribute_between a0 (attribute.BehindEquals b0) e = cc
exact_attribute_between a0 (attribute.Value b0 b1 b2) e = cc

exact_attribute_name : (a0 : List ℕ) (q : OpenAttribute) → (attributes.ghosts).eq (attribute.Name a0) q ≡ true → attribute.Name a0 ≡ q
exact_attribute_name a0 (attribute.Between b0) e = cc
exact_attribute_name a0 (attribute.Name b0) e = ap (λ (z : List ℕ). attribute.Name z) (exact_bytes a0 b0 e)
exact_attribute_name a0 (attribute.BehindName b0) e = cc
exact_attribute_name a0 (attribute.BehindEquals b0) e = cc
exact_attribute_name a0 (attribute.Value b0 b1 b2) e = cc

exact_attribute_behind_name : (a0 : List ℕ) (q : OpenAttribute) → (attributes.ghosts).eq (attribute.BehindName a0) q ≡ true
    → attribute.BehindName a0 ≡ q
exact_attribute_behind_name a0 (attribute.Between b0) e = cc
exact_attribute_behind_name a0 (attribute.Name b0) e = cc
exact_attribute_behind_name a0 (attribute.BehindName b0) e = ap (λ (z : List ℕ). attribute.BehindName z) (exact_bytes a0 b0 e)
exact_attribute_behind_name a0 (attribute.BehindEquals b0) e = cc
exact_attribute_behind_name a0 (attribute.Value b0 b1 b2) e = cc

exact_attribute_behind_equals : (a0 : List ℕ) (q : OpenAttribute) → (attributes.ghosts).eq (attribute.BehindEquals a0) q ≡ true
    → attribute.BehindEquals a0 ≡ q
exact_attribute_behind_equals a0 (attribute.Between b0) e = cc
exact_attribute_behind_equals a0 (attribute.Name b0) e = cc
exact_attribute_behind_equals a0 (attribute.BehindName b0) e = cc
exact_attribute_behind_equals a0 (attribute.BehindEquals b0) e = ap (λ (z : List ℕ). attribute.BehindEquals z) (exact_bytes a0 b0 e)
exact_attribute_behind_equals a0 (attribute.Value b0 b1 b2) e = cc

exact_attribute_value : (a0 : List ℕ) (a1 : ℕ) (a2 : OpenValue) (q : OpenAttribute)
    → (attributes.ghosts).eq (attribute.Value a0 a1 a2) q ≡ true → attribute.Value a0 a1 a2 ≡ q
exact_attribute_value a0 a1 a2 (attribute.Between b0) e = cc
exact_attribute_value a0 a1 a2 (attribute.Name b0) e = cc
exact_attribute_value a0 a1 a2 (attribute.BehindName b0) e = cc
exact_attribute_value a0 a1 a2 (attribute.BehindEquals b0) e = cc
exact_attribute_value a0 a1 a2 (attribute.Value b0 b1 b2) e =
    ap (λ (z : List ℕ × (ℕ × OpenValue)). attribute.Value z.0 z.1.0 z.1.1)
    (three exact_bytes exact_unsigned_eq exact_value a0 b0 a1 b1 a2 b2 e)

-- open attributes that are found equal are one
pub exact_attribute : (a b : OpenAttribute) → (attributes.ghosts).eq a b ≡ true → a ≡ b
exact_attribute (attribute.Between a0) q e = exact_attribute_between a0 q e
exact_attribute (attribute.Name a0) q e = exact_attribute_name a0 q e
exact_attribute (attribute.BehindName a0) q e = exact_attribute_behind_name a0 q e
exact_attribute (attribute.BehindEquals a0) q e = exact_attribute_behind_equals a0 q e
exact_attribute (attribute.Value a0 a1 a2) q e = exact_attribute_value a0 a1 a2 q e
