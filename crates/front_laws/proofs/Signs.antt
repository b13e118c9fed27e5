-- What stands directly behind a name is none of its characters.
use Rattle.std.proofs.Common.{◌≡◌, ◌≢◌, ◌⊎◌, inl, inr, ℕ, true, false, List, [], ◌∷◌, ◌++◌, refl, sym, subst}
use Rattle.std.specs.List.{list_all}
use Rattle.std.proofs.lemmas.Bool.{and_parts}
use Rattle.xml_text.specs.Characters.{is_blank}
use Rattle.xml_text.specs.Names.{in_name}
use Rattle.page_model.specs.Parts.{Attribute, attributes_then, AreAttributes}
use Rattle.page_model.specs.OpenTags.{OpenAttribute, between, in_attribute_name, behind_name, behind_equals, in_value, AttributeStands}
use Rattle.page_model.specs.OpenValues.{OpenValue}
use Rattle.front_laws.proofs.Attributes.{blank_not_name}

pub record Sign (text : List ℕ) : Type 0 where
  pub first : ℕ
  pub more : List ℕ
  pub is : text ≡ first ∷ more
  pub other : in_name first ≡ false

gap_sign : (gap behind : List ℕ) → (gap ≢ []) → list_all is_blank gap ≡ true → Sign (gap ++ behind)
gap_sign [] behind some h = absurd (some refl)
gap_sign (c ∷ cs) behind some h = record { first = c; more = cs ++ behind; is = refl; other = blank_not_name c (and_parts (is_blank c) (list_all is_blank cs) h).0 }

-- white space, if any, and then a character that is none of a name
pub space_sign : (space : List ℕ) (c : ℕ) → list_all is_blank space ≡ true → in_name c ≡ false → Sign (space ++ c ∷ [])
space_sign [] c h n = record { first = c; more = []; is = refl; other = n }
space_sign (d ∷ ds) c h n = record { first = d; more = ds ++ c ∷ []; is = refl; other = blank_not_name d (and_parts (is_blank d) (list_all is_blank ds) h).0 }

same_sign : (text other : List ℕ) → text ≡ other → Sign other → Sign text
same_sign text other e s = subst Sign (sym e) s

-- what is open among attributes
pub open_sign : (Stands : List ℕ → OpenValue → List ℕ → Type 0) (o : OpenAttribute) (rest : List ℕ) → AttributeStands Stands o rest → (rest ≢ []) → Sign rest
open_sign Stands (between spaced) [] (h, e) some = absurd (some refl)
open_sign Stands (between spaced) (c ∷ cs) (h, e) some = record { first = c; more = cs; is = refl; other = blank_not_name c (and_parts (is_blank c) (list_all is_blank cs) h).0 }
open_sign Stands (in_attribute_name name) rest (gap, e, (other, h), n) some = same_sign rest _ e (gap_sign gap name other h)
open_sign Stands (behind_name name) rest (gap, before, e, (other, h), n, b) some = same_sign rest _ e (gap_sign gap (name ++ before) other h)
open_sign Stands (behind_equals name) rest (gap, before, after, e, (other, h), n, k, l) some = same_sign rest _ e (gap_sign gap (name ++ (before ++ 61 ∷ after)) other h)
open_sign Stands (in_value name quote v) rest s some = same_sign rest _ s.is (gap_sign s.gap (name ++ (s.before ++ 61 ∷ (s.after ++ quote ∷ s.value))) s.some_gap.0 s.some_gap.1)

-- attributes, or what stands behind them
pub attributes_sign : (attributes : List Attribute) (rest : List ℕ) → AreAttributes attributes → (attributes ≢ []) ⊎ (rest ≢ []) → ((rest ≢ []) → Sign rest) → Sign (attributes_then attributes rest)
attributes_sign [] rest h (inl some) f = absurd (some refl)
attributes_sign [] rest h (inr some) f = f some
attributes_sign (x ∷ xs) rest h some f = gap_sign x.space _ h.0.some_space h.0.blank_space
