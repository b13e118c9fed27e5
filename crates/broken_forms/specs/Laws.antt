-- The laws of the forms of loose pieces, as statements.
use Rattle.std.specs.Prelude.{◌≡◌, ◌⊎◌, ◌↔◌, ℕ, Bool, true, false, List, [], ◌++◌}
use Rattle.std.specs.List.{list_all, list_any}
use Rattle.xml_text.specs.Characters.{is_blank}
use Rattle.xml_text.specs.Names.{is_name}
use Rattle.text_base.specs.declared.page_token.PageToken.{PageToken}
use Rattle.text_base.specs.declared.page_token.PageToken.TheVariants as token
use Rattle.dtd_model.specs.References.{Reference}
use Rattle.dtd_model.specs.Table.{Table}
use Rattle.derivatives.specs.Expressions.{Expr, Matches, star}
use Rattle.page_model.specs.Attributes.{find_rule, is_some_rule}
use Rattle.page_model.specs.Broken.{IsLooseTag, is_loose_reference, IsLoose, loose_bytes, Broken}
use Rattle.page_model.specs.PageTokens.{PageTokens}
use Rattle.page_model.specs.Parts.{Tag, reference}
use Rattle.page_model.specs.Pieces.{Piece, start_tag, empty_tag, end_tag, leaf, after}
use Rattle.page_model.specs.Places.{Place}
use Rattle.piece_steps.specs.Languages.{Language}
use Rattle.page_forms.specs.Forms.{IsOfOne}
use Rattle.coarse_forms.specs.CoarseForms.{coarse_form}
use Rattle.coarse_forms.specs.Laws.{OfBytes}
use Rattle.broken_forms.specs.LooseForms.{names_of, loose_tag_form, end_form, loose_reference_form, loose_forms}

-- the expression matches exactly the bytes of these loose pieces
abbrev pub IsLooseFormOf : Expr → (Piece → Type 0) → Type 0
IsLooseFormOf e IsOne = (bytes : List ℕ) → Matches e bytes ↔ ((p : Piece) × IsOne p × OfBytes (loose_bytes p) × (loose_bytes p ≡ bytes))

-- the loose tags of declared elements (XML 1.0, 3.1)
abbrev pub LooseTagsAreSpelled : Type 0
LooseTagsAreSpelled = (table : Table)
    → IsLooseFormOf (loose_tag_form (names_of table))
    (λ p. (tag : Tag) × ((p ≡ start_tag tag) ⊎ (p ≡ empty_tag tag)) × IsLooseTag table tag)

-- the end tags of declared elements (XML 1.0, 3.1)
abbrev pub EndsAreSpelled : Type 0
EndsAreSpelled = (table : Table)
    → IsLooseFormOf (end_form (names_of table))
    (λ p. (name : List ℕ) × (space : List ℕ) × (p ≡ end_tag name space) × (is_name name ≡ true) × (list_all is_blank space ≡ true)
    × (is_some_rule (find_rule table.elements name) ≡ true))

-- the references to entities that are known, and by any numbers (XML 1.0, 4.1)
abbrev pub LooseReferencesAreSpelled : Type 0
LooseReferencesAreSpelled = (table : Table)
    → IsLooseFormOf (loose_reference_form table.entities)
    (λ p. (r : Reference) × (p ≡ leaf (reference r)) × (is_loose_reference table r ≡ true))

-- the loose pieces of a page as a language of bytes, of which each has no tokens
abbrev pub loose_language : Table → Language Place Piece PageToken
loose_language table = record {
  Lawful = λ place p. IsLoose table place p × OfBytes (loose_bytes p);
  spell = loose_bytes;
  after = after;
  tokens = λ p. [];
}

-- the texts of the forms at a place are the loose pieces there, with the place behind them
abbrev pub LoosePiecesAreSpelled : Type 0
LoosePiecesAreSpelled = (table : Table) (place : Place) (bytes : List ℕ) (tokens : List PageToken) (to : Place)
    → IsOfOne (loose_forms table place) bytes tokens to
    ↔ ((p : Piece) × (IsLoose table place p × OfBytes (loose_bytes p)) × (loose_bytes p ≡ bytes) × ([] ≡ tokens) × (after place p ≡ to))

-- no loose piece at a place goes on where another one there ends, and both lead to one place
abbrev pub LooseEndOnce : Type 0
LooseEndOnce = (table : Table) (place : Place) (p q : Piece) (more : List ℕ) → IsLoose table place p → IsLoose table place q
    → OfBytes (loose_bytes q) → loose_bytes p ++ more ≡ loose_bytes q → (more ≡ []) × (after place p ≡ after place q)

-- a page of bytes that is no coarse pieces in turn is broken by each definition
abbrev pub CoarseAreBroken : Type 0
CoarseAreBroken = (table : Table) (page : List ℕ) → OfBytes page → (Matches (star coarse_form) page → ⊥) → Broken table page

-- the token is that of a rest that no piece begins
abbrev pub is_bad : PageToken → Bool
is_bad token.Bad = true
is_bad t = false

-- the tokens of a broken page hold one that is bad
abbrev pub BrokenHaveBad : Type 0
BrokenHaveBad = (table : Table) (bytes : List ℕ) (tokens : List PageToken) → Broken table bytes → PageTokens table bytes tokens
    → list_any is_bad tokens ≡ true
