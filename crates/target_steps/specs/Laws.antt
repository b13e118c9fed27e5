-- Laws of instructions, as statements.
use Rattle.std.specs.Prelude.{◌≡◌, ℕ, true, List, [], ◌∷◌, ◌++◌, Some, codes}
use Rattle.text_base.specs.declared.page_token.PageToken.{PageToken}
use Rattle.text_base.specs.declared.page_token.PageToken.TheVariants as token
use Rattle.xml_text.specs.Characters.{is_blank}
use Rattle.dtd_model.specs.Table.{Table}
use Rattle.page_model.specs.Parts.{IsInstruction}
use Rattle.page_model.specs.Places.{Place, behind, is_early}
use Rattle.piece_steps.specs.Readers.{whole}
use Rattle.page_model.specs.Fronts.{in_target, in_declaration}
use Rattle.page_model.specs.OpenTags.{between}
use Rattle.page_insides.specs.Laws.{settle, read, ends_with}

-- what was read to an end behind `<?`
pub data Targeted (table : Table) (place : Place) (next : Place) (given : List PageToken) (rest : List ℕ) : List ℕ → Type 0 where
  instruction : (target text : List ℕ) → IsInstruction target text → next ≡ behind 0 → given ≡ token.Misc ∷ []
      → Targeted table place next given rest (target ++ (text ++ (codes "?>" ++ rest)))
  declaration : (blank : ℕ) (left : List ℕ) → is_blank blank ≡ true → is_early (settle place) ≡ true
      → read table place (in_declaration [] (between true)) left ≡ whole next given rest
      → Targeted table place next given rest (codes "xml" ++ blank ∷ left)

-- behind `<?` the reader goes on by a target and its text or by `xml` and white space, and in no other way
pub record TargetsRead : Type 0 where
  pub at_instruction : (table : Table) (place : Place) (target text rest : List ℕ) → IsInstruction target text
      → read table place (in_target (Some [])) (target ++ (text ++ (codes "?>" ++ rest))) ≡ ends_with (token.Misc ∷ []) rest
  pub at_declaration : (table : Table) (place : Place) (blank : ℕ) (left : List ℕ) → is_blank blank ≡ true → is_early (settle place) ≡ true
      → read table place (in_target (Some [])) (codes "xml" ++ blank ∷ left) ≡ read table place (in_declaration [] (between true)) left
  pub sound : (table : Table) (place next : Place) (cs : List ℕ) (given : List PageToken) (rest : List ℕ)
      → read table place (in_target (Some [])) cs ≡ whole next given rest → Targeted table place next given rest cs
