-- What is promised of the coarse pieces, as statements.
use Rattle.std.specs.Prelude.{◌≡◌, ℕ, true, List, [], ◌∷◌, ◌++◌, nat_lt}
use Rattle.std.specs.List.{list_all}
use Rattle.std.specs.Str.{encode_utf8_all}
use Rattle.dtd_model.specs.declared.dtd.DoctypeRule.{DoctypeRule}
use Rattle.derivatives.specs.Expressions.{Expr, star, Matches}
use Rattle.page_model.specs.Parts.{is_plain}
use Rattle.page_forms.specs.Declarations.{declaration_form}
use Rattle.page_forms.specs.Doctypes.{doctype_form}
use Rattle.page_forms.specs.Remarks.{comment_form, section_form, instruction_form}
use Rattle.coarse_forms.specs.CoarseForms.{coarse_form}

-- a text of bytes
abbrev pub OfBytes : List ℕ → Type 0
OfBytes text = list_all (λ byte. nat_lt byte 256) text ≡ true

-- none goes on where another ends
abbrev pub CoarseEndsOnce : Type 0
CoarseEndsOnce = (u v : List ℕ) → Matches coarse_form u → Matches coarse_form (u ++ v) → v ≡ []

-- each has some byte
abbrev pub CoarseHasBytes : Type 0
CoarseHasBytes = Matches coarse_form [] → ⊥

-- each is a text of bytes
abbrev pub CoarseAreBytes : Type 0
CoarseAreBytes = (text : List ℕ) → Matches coarse_form text → OfBytes text

-- each text of the one expression is one of the other
abbrev pub AreWithin : Expr → Expr → Type 0
AreWithin e f = (text : List ℕ) → Matches e text → Matches f text

-- the texts of lawful pieces that are neither tags nor references are coarse pieces, and characters of text are such pieces in turn
pub record LawfulAreCoarse : Type 0 where
  pub comments : AreWithin comment_form coarse_form
  pub sections : AreWithin section_form coarse_form
  pub instructions : AreWithin instruction_form coarse_form
  pub declarations : AreWithin declaration_form coarse_form
  pub doctypes : (rule : DoctypeRule) → AreWithin (doctype_form rule) coarse_form
  pub characters : (c : ℕ) → is_plain c ≡ true → Matches (star coarse_form) (encode_utf8_all (c ∷ []))
