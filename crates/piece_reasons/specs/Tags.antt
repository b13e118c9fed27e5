-- What is wrong with an attribute of a start tag, and how far the tag is there (XML 1.0, 3.1 and 3.3).
use Rattle.std.specs.Prelude.{◌≡◌, ℕ, Bool, true, false, ◌==◌, ◌&&◌, ◌||◌, List, [], ◌∷◌, codes, Option, Some, None}
use Rattle.std.specs.List.{list_all, list_any}
use Rattle.xml_text.specs.Characters.{is_blank, is_character}
use Rattle.dtd_model.specs.References.{is_reference, is_known}
use Rattle.text_base.specs.declared.numbers.Elem.{Elem}
use Rattle.dtd_model.specs.Table.{Declared, Rule, Table}
use Rattle.page_model.specs.Attributes.{find_rule, has_kind, has_fixed, stands}
use Rattle.page_model.specs.Fronts.{find_declared}
use Rattle.page_model.specs.Parts.{Attribute, attributes_then, IsAttribute, AreAttributes, is_quote, refers_by}
use Rattle.page_model.specs.Prolog.{Literal}
use Rattle.page_model.specs.Reading.{name_at, quoted_at, attribute_at}
use Rattle.page_model.specs.Scan.{beyond, strip}
use Rattle.page_rules.specs.Found.{IsElement}
use Rattle.piece_reasons.specs.declared.reasons.AttributeReason.{AttributeReason}
use Rattle.piece_reasons.specs.declared.reasons.AttributeReason.TheVariants as wrong

-- a name stands at the head, and this behind it
abbrev pub IsName : List ℕ → List ℕ → List ℕ → Type 0
IsName cs name behind = let z : List ℕ × List ℕ = (name, behind) in name_at cs ≡ Some z

-- an attribute stands at the head, with the white space before it, and this behind it
abbrev pub IsWhole : List ℕ → Attribute → List ℕ → Type 0
IsWhole cs a behind = let z : Attribute × List ℕ = (a, behind) in attribute_at cs ≡ Some z

-- `<`, the name of a tag, whole attributes as XML asks, and then this
pub record InTag (cs name : List ℕ) (done : List Attribute) (left : List ℕ) : Type 0 where
  pub rest : List ℕ
  pub behind : List ℕ
  pub is : cs ≡ 60 ∷ rest
  pub named : IsName rest name behind
  pub are : AreAttributes done
  pub spelled : attributes_then done left ≡ behind

-- whether a quote stands at the head
abbrev pub begins_quote : List ℕ → Bool
begins_quote [] = false
begins_quote (c ∷ cs) = is_quote c

-- whether `>` stands at the head
abbrev pub begins_close : List ℕ → Bool
begins_close [] = false
begins_close (c ∷ cs) = c == 62

-- whether `/` stands at the head
abbrev pub begins_slash : List ℕ → Bool
begins_slash [] = false
begins_slash (c ∷ cs) = c == 47

-- whether `>` or `/` stands at the head
abbrev pub begins_end : List ℕ → Bool
begins_end [] = false
begins_end (c ∷ cs) = c == 62 || c == 47

-- whether the end of a start tag or of the tag of an empty element stands at the head: `>` or `/>`
abbrev pub is_tag_end : List ℕ → Bool
is_tag_end [] = false
is_tag_end (c ∷ cs) = c == 62 || c == 47 && begins_close cs

-- the whole attribute that stands there, and what is wrong with it
abbrev pub HasWrong : List ℕ → (Attribute → Type 0) → Type 0
HasWrong left wrong = (a : Attribute) × (behind : List ℕ) × IsWhole left a behind × wrong a

-- what is wrong with an attribute, by the declared entities and attributes: `done` stand before it, `left` begins with
-- the white space before it, `name` is its name and `behind` stands behind that
abbrev pub IsWrong : List (List ℕ) → List Declared → List Attribute → List ℕ → List ℕ → List ℕ → AttributeReason → Type 0
-- no `=` behind the name (3.1, Attribute)
IsWrong entities rules done left name behind wrong.NoValue = strip (codes "=") (beyond is_blank behind) ≡ None
-- no quote behind `=` (2.3, AttValue)
IsWrong entities rules done left name behind wrong.NoQuotes =
    (v : List ℕ) × (strip (codes "=") (beyond is_blank behind) ≡ Some v) × (begins_quote (beyond is_blank v) ≡ false)
-- no second quote behind the first
IsWrong entities rules done left name behind wrong.NotClosed =
    (v : List ℕ) × (strip (codes "=") (beyond is_blank behind) ≡ Some v) × (begins_quote (beyond is_blank v) ≡ true)
    × (quoted_at (beyond is_blank v) ≡ None)
-- no white space before it (3.1, STag)
IsWrong entities rules done left name behind wrong.NoSpace = HasWrong left (λ a. a.space ≡ [])
-- a character that XML does not have (2.2, Char)
IsWrong entities rules done left name behind wrong.NotCharacter = HasWrong left (λ a. list_all is_character a.value ≡ false)
-- `<` in the value (2.3, AttValue)
IsWrong entities rules done left name behind wrong.LessThan = HasWrong left (λ a. list_any (λ c. c == 60) a.value ≡ true)
-- `&` in the value that begins no reference (2.3, AttValue)
IsWrong entities rules done left name behind wrong.NotReference = HasWrong left (λ a. refers_by is_reference a.value ≡ false)
-- a reference in the value to an entity that is not declared (4.1, Entity Declared)
IsWrong entities rules done left name behind wrong.EntityNotDeclared =
    HasWrong left (λ a. (refers_by is_reference a.value ≡ true) × (refers_by (is_known entities) a.value ≡ false))
-- not declared for the element (3.1, Attribute Value Type)
IsWrong entities rules done left name behind wrong.NotDeclared = find_declared rules name ≡ None
-- one of its name stands before it (3.1, Unique Att Spec)
IsWrong entities rules done left name behind wrong.Twice = stands done name ≡ true
-- not of its declared type, or not in its list (3.3.1)
IsWrong entities rules done left name behind wrong.NotOfType =
    (d : Declared) × (find_declared rules name ≡ Some d) × HasWrong left (λ a. has_kind d.kind a.value ≡ false)
-- not its fixed value (3.3.2, Fixed Attribute Default)
IsWrong entities rules done left name behind wrong.NotFixed =
    (d : Declared) × (find_declared rules name ≡ Some d) × HasWrong left (λ a. has_fixed d.presence a.value ≡ false)

-- What private functions promise of each other. Nobody has to believe it.

-- the whole attribute is wrong for this reason, wherever it stands
abbrev pub IsWrongWhole : List (List ℕ) → List Declared → List Attribute → Attribute → AttributeReason → Type 0
IsWrongWhole entities rules done a why =
    (left behind more : List ℕ) → IsWhole left a more → IsWrong entities rules done left a.name behind why

-- the whole attribute is one that XML allows, or is wrong for this reason
abbrev pub IsJudged : List (List ℕ) → List Declared → List Attribute → Attribute → Option AttributeReason → Type 0
IsJudged entities rules done a None = (left more : List ℕ) → IsWhole left a more → IsAttribute a
IsJudged entities rules done a (Some why) = IsWrongWhole entities rules done a why

-- a value in quotes stands at the head, and this behind it
abbrev pub IsValue : List ℕ → Literal → List ℕ → Type 0
IsValue cs l behind = let z : Literal × List ℕ = (l, behind) in quoted_at cs ≡ Some z

-- why no value in quotes stands at the head
abbrev pub IsNoValue : List ℕ → AttributeReason → Type 0
IsNoValue cs wrong.NoValue = ⊥
IsNoValue cs wrong.NoQuotes = begins_quote cs ≡ false
IsNoValue cs wrong.NotClosed = (begins_quote cs ≡ true) × (quoted_at cs ≡ None)
IsNoValue cs wrong.NoSpace = ⊥
IsNoValue cs wrong.NotCharacter = ⊥
IsNoValue cs wrong.LessThan = ⊥
IsNoValue cs wrong.NotReference = ⊥
IsNoValue cs wrong.NotDeclared = ⊥
IsNoValue cs wrong.Twice = ⊥
IsNoValue cs wrong.EntityNotDeclared = ⊥
IsNoValue cs wrong.NotOfType = ⊥
IsNoValue cs wrong.NotFixed = ⊥

-- the element of a tag is declared with these attributes
pub record IsTagOf (table : Table) (name : List ℕ) (element : Elem) (rules : List Declared) : Type 0 where
  pub rule : Rule
  pub found : find_rule table.elements name ≡ Some rule
  pub numbered : IsElement table.elements name (Some element)
  pub attributes : rule.attributes ≡ rules

-- all so far are attributes as XML asks
pub record HasCome (behind : List ℕ) (done : List Attribute) (left : List ℕ) : Type 0 where
  pub are : AreAttributes done
  pub spelled : attributes_then done left ≡ behind
