-- The law of the XML declaration, as a statement.
use Rattle.std.specs.Prelude.{◌≡◌, ℕ, true, List, [], ◌∷◌, ◌++◌, codes}
use Rattle.text_base.specs.declared.page_token.PageToken.{PageToken}
use Rattle.xml_text.specs.Characters.{is_blank}
use Rattle.dtd_model.specs.Table.{Table}
use Rattle.page_model.specs.Parts.{attributes_then}
use Rattle.page_model.specs.Places.{Place, behind}
use Rattle.page_model.specs.Prolog.{Declaration, IsDeclaration}
use Rattle.piece_steps.specs.Readers.{whole}
use Rattle.page_model.specs.Fronts.{in_declaration}
use Rattle.page_model.specs.OpenTags.{between}
use Rattle.page_insides.specs.Laws.{read, ends_with}

-- what stands behind `<?xml`
abbrev pub words_then : Declaration → List ℕ → List ℕ
words_then d rest = attributes_then d.attributes (d.space ++ (codes "?>" ++ rest))

-- the characters are a declaration behind `<?xml`, and the rest
pub record IsDeclarationThen (cs rest : List ℕ) (next : Place) (given : List PageToken) : Type 0 where
  pub declared : Declaration
  pub spelled : words_then declared rest ≡ cs
  pub is : IsDeclaration declared
  pub leads : next ≡ behind 0
  pub gives : given ≡ []

-- the first white space is read
pub record DeclarationsRead : Type 0 where
  pub complete : (table : Table) (place : Place) (d : Declaration) (blank : ℕ) (left rest : List ℕ) → IsDeclaration d
      → is_blank blank ≡ true → words_then d rest ≡ blank ∷ left
      → read table place (in_declaration [] (between true)) left ≡ ends_with [] rest
  pub sound : (table : Table) (place next : Place) (blank : ℕ) (left : List ℕ) (given : List PageToken) (rest : List ℕ)
      → is_blank blank ≡ true → read table place (in_declaration [] (between true)) left ≡ whole next given rest
      → IsDeclarationThen (blank ∷ left) rest next given
