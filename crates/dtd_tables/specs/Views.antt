-- What the parts of the code stand for.
use Rattle.std.specs.Prelude.{◌≡◌, ◌<◌, ◌≤◌, ◌+◌, ℕ, true, false, List, [], ◌∷◌, ◌++◌, length, map, Contains, Option, Some, None, Result, Ok, Err}
use Rattle.xml_text.specs.Names.{is_name}
use Rattle.dtd_model.specs.Lawful.{element_limit, attribute_limit}
use Rattle.dtd_model.specs.Table.{Declared, declared_of, Rule, rule_of}
use Rattle.dtd_texts.specs.Heads.{same}
use Rattle.dtd_texts.specs.Reading.{Written, is_among}
use Rattle.dtd_texts.specs.Went.{leads}
use Rattle.dtd_texts.specs.ContentModels.{bracket_limit}
use Rattle.dtd_texts.specs.Tables.{Said, element, attributes, said, rules_of, with_others}
use Rattle.dtd_declarations.specs.declared.fault.Fault.{Fault}
use Rattle.dtd_declarations.specs.declared.fault.Fault.TheVariants as fault
use Rattle.dtd_tables.specs.declared.refusal.TableRefusal.{TableRefusal}
use Rattle.dtd_tables.specs.declared.refusal.TableRefusal.TheVariants.{Twice, Undeclared, Refused, LeftOut, Limit, Memory}
use Rattle.dtd_tables.specs.declared.parts.List.{List as CodeList}
use Rattle.dtd_tables.specs.declared.parts.Parts.{Parts}
use Rattle.dtd_tables.specs.Causes.{StandsTwice}
use Rattle.dtd_tables.specs.Updates.{updated, lists_in}

-- a refusal where there are too many attributes, and these are they
abbrev pub IsCrowded : List Declared → TableRefusal → Type 0
IsCrowded ds (Twice name) = ⊥
IsCrowded ds (Undeclared name) = ⊥
IsCrowded ds (Refused at) = ⊥
IsCrowded ds (LeftOut at) = ⊥
IsCrowded ds (Limit count) = (attribute_limit < count) × (count ≤ length ds)
IsCrowded ds Memory = Unit {0}

-- a refusal among the names of the elements
abbrev pub IsNameCause : List (List ℕ) → TableRefusal → Type 0
IsNameCause names (Twice name) = StandsTwice names name
IsNameCause names (Undeclared name) = ⊥
IsNameCause names (Refused at) = ⊥
IsNameCause names (LeftOut at) = ⊥
IsNameCause names (Limit count) = (element_limit < count) × (count ≤ length names)
IsNameCause names Memory = Unit {0}

-- one name more, or none
abbrev pub AddsName : List (List ℕ) → List (List ℕ) → Option (List ℕ) → Result Unit TableRefusal → Type 0
AddsName old new None (Ok done) = new ≡ old
AddsName old new (Some name) (Ok done) = (new ≡ old ++ name ∷ []) × (is_among old name ≡ false)
AddsName old new None (Err refusal) = refusal ≡ Memory
AddsName old new (Some name) (Err refusal) = IsNameCause (old ++ name ∷ []) refusal

-- what an attribute list of the code says
abbrev pub list_said : CodeList → Said
list_said list = attributes list.name (map declared_of list.rules.items)

-- the list is for a name (XML 1.0, 2.3, Name)
abbrev pub IsNamed : CodeList → Type 0
IsNamed list = is_name list.name ≡ true

-- each of the lists is for a name
abbrev pub AreNamed : List CodeList → Type 0
AreNamed [] = Unit {0}
AreNamed (list ∷ lists) = IsNamed list × AreNamed lists

-- what one more declaration says
abbrev pub AddsSaid : Parts → Parts → Said → Type 0
AddsSaid old new one =
    (map rule_of new.elements.items ≡ map rule_of old.elements.items ++ rules_of [] (one ∷ []))
    × (map list_said new.lists.items ≡ map list_said old.lists.items ++ lists_in (one ∷ []))

-- the declarations say this, elements and attribute lists apart
pub record AreParts (names : List (List ℕ)) (written : List Written) (parts : Parts) : Type 0 where
  pub says : List Said
  pub each : map (λ (w : Written). said names w.text) written ≡ map leads says
  pub elements : map rule_of parts.elements.items ≡ rules_of [] says
  pub lists : map list_said parts.lists.items ≡ lists_in says

-- the refusal of a declaration at this place
abbrev pub FaultCause : Fault → ℕ → TableRefusal → Type 0
FaultCause fault.Refused at r = r ≡ Refused at
FaultCause fault.LeftOut at r = r ≡ LeftOut at
FaultCause fault.TooDeep at r = r ≡ Limit (bracket_limit + 1)
FaultCause (fault.Undeclared name) at r = r ≡ Undeclared name
FaultCause fault.Memory at r = r ≡ Memory

-- attribute lists, one after another
abbrev pub updated_by : List Said → List Rule → List Rule
updated_by [] rules = rules
updated_by (element name h ∷ more) rules = updated_by more rules
updated_by (attributes name ds ∷ more) rules = updated_by more (updated name ds rules)

-- a refusal where a rule of this name gets too many attributes
pub record CrowdsRule (rules : List Rule) (name : List ℕ) (ds : List Declared) (refusal : TableRefusal) : Type 0 where
  pub rule : Rule
  pub among : Contains rules rule
  pub there : same name rule.name ≡ true
  pub crowded : IsCrowded (with_others rule.attributes ds) refusal

-- why an attribute list is not put to the rules: its element has too many attributes then, or want of memory
abbrev pub IsListCause : List Rule → CodeList → TableRefusal → Type 0
IsListCause rules list (Twice name) = ⊥
IsListCause rules list (Undeclared name) = ⊥
IsListCause rules list (Refused at) = ⊥
IsListCause rules list (LeftOut at) = ⊥
IsListCause rules list (Limit count) = CrowdsRule rules list.name (map declared_of list.rules.items) (Limit count)
IsListCause rules list Memory = Unit {0}

-- a list gives its element this many attributes, which are too many, once those before it have been put to the rules
pub record AtList (rules : List Rule) (lists : List CodeList) (count : ℕ) : Type 0 where
  pub before : List CodeList
  pub one : CodeList
  pub behind : List CodeList
  pub is : lists ≡ before ++ one ∷ behind
  pub crowds : CrowdsRule (updated_by (map list_said before) rules) one.name (map declared_of one.rules.items) (Limit count)

-- why attribute lists are not put to the rules, one after another
abbrev pub AreListCauses : List Rule → List CodeList → TableRefusal → Type 0
AreListCauses rules lists (Twice name) = ⊥
AreListCauses rules lists (Undeclared name) = ⊥
AreListCauses rules lists (Refused at) = ⊥
AreListCauses rules lists (LeftOut at) = ⊥
AreListCauses rules lists (Limit count) = AtList rules lists count
AreListCauses rules lists Memory = Unit {0}
