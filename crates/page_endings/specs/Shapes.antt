-- What the steps of the reader keep of each open piece.
use Rattle.std.specs.Prelude.{◌≡◌, ◌⊎◌, ℕ, Bool, true, false, List, ◌∷◌, Option, Some, None, codes}
use Rattle.dtd_model.specs.declared.dtd.DoctypeRule.{DoctypeRule}
use Rattle.dtd_model.specs.Table.{Presence, implied, required, with_default, fixed, Declared, Rule, Table}
use Rattle.page_model.specs.Attributes.{find_rule}
use Rattle.page_model.specs.Parts.{is_quote}
use Rattle.page_model.specs.Fronts.{Open, in_opener, in_tag, in_declaration, in_doctype, find_declared, IsFrontOf}
use Rattle.page_model.specs.OpenDoctypes.{OpenDoctype, in_root, in_word, in_public, in_system}
use Rattle.page_model.specs.OpenTags.{OpenAttribute, in_value}
use Rattle.page_model.specs.OpenValues.{OpenValue, in_fixed}
use Rattle.page_steps.specs.DoctypeSteps.{begins, may_begin}

-- whether the attribute has a fixed value
abbrev pub is_fixed : Presence → Bool
is_fixed implied = false
is_fixed required = false
is_fixed with_default = false
is_fixed (fixed wanted) = true

-- whether it is declared so
abbrev pub is_declared_fixed : Option Declared → Bool
is_declared_fixed None = false
is_declared_fixed (Some d) = is_fixed d.presence

-- a value is kept as it is written only where it is a fixed one
abbrev pub IsValueShaped : Option Declared → OpenValue → Type 0
IsValueShaped o (in_fixed value) = is_declared_fixed o ≡ true
IsValueShaped o v = Unit {0}

-- a quote is one of the two, and the value has the shape that its name asks for
abbrev pub IsAttributeShaped : (List ℕ → OpenValue → Type 0) → OpenAttribute → Type 0
IsAttributeShaped Shaped (in_value name quote v) = (is_quote quote ≡ true) × Shaped name v
IsAttributeShaped Shaped o = Unit {0}

-- by the declaration of the element, if it has one
abbrev pub IsTagShaped : Option Rule → OpenAttribute → Type 0
IsTagShaped None o = Unit {0}
IsTagShaped (Some rule) o = IsAttributeShaped (λ name v. IsValueShaped (find_declared rule.attributes name) v) o

-- `<`, or more of one of the three openers
abbrev pub IsOpener : List ℕ → Type 0
IsOpener begun = (begun ≡ codes "<") ⊎ ((c d : ℕ) × (cs : List ℕ) × (begun ≡ c ∷ d ∷ cs)
    × (IsFrontOf (codes "<!--") begun ⊎ (IsFrontOf (codes "<![CDATA[") begun ⊎ IsFrontOf (codes "<!DOCTYPE") begun)))

-- so much of `html`, so much of `PUBLIC` or `SYSTEM`, and a quote that is one of the two
abbrev pub IsDoctypeShaped : DoctypeRule → OpenDoctype → Type 0
IsDoctypeShaped rule (in_root name) = begins (codes "html") name ≡ true
IsDoctypeShaped rule (in_word word) = may_begin rule word ≡ true
IsDoctypeShaped rule (in_public quote o) = is_quote quote ≡ true
IsDoctypeShaped rule (in_system quote) = is_quote quote ≡ true
IsDoctypeShaped rule o = Unit {0}

-- what the steps keep
abbrev pub IsShaped : Table → Open → Type 0
IsShaped table (in_opener begun) = IsOpener begun
IsShaped table (in_tag name names o) = IsTagShaped (find_rule table.elements name) o
IsShaped table (in_declaration names o) = IsAttributeShaped (λ name v. Unit {0}) o
IsShaped table (in_doctype o) = IsDoctypeShaped table.doctype o
IsShaped table o = Unit {0}
