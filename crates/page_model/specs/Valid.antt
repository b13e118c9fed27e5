-- When a page is valid (XML 1.0, 2.8 and 3; XHTML 1.0, 3.1.1).
use Rattle.std.specs.Prelude.{◌≡◌, ℕ, suc, Bool, true, false, ◌&&◌, if◌then◌else◌, List, [], ◌∷◌, map, length, codes, bytes_eq, Some}
use Rattle.std.specs.List.{list_all}
use Rattle.xml_text.specs.Characters.{is_blank}
use Rattle.dtd_model.specs.declared.dtd.DoctypeRule.{DoctypeRule}
use Rattle.dtd_model.specs.declared.dtd.DoctypeRule.TheVariants.{Strict, Free}
use Rattle.dtd_model.specs.Table.{Rule, Table, Holding, nothing, anything, text_and, children}
use Rattle.dtd_model.specs.Matches.{matches}
use Rattle.page_model.specs.Parts.{Leaf, character, reference, section, comment, instruction}
use Rattle.page_model.specs.Attributes.{find_rule, is_allowed}
use Rattle.page_model.specs.Nodes.{Nodes, no_nodes, other, element, empty_element, Prolog, no_doctype, with_doctype, Page, pieces_of, PageSpells}

-- the place of the declaration of an element; where it has none, their number
abbrev pub place_of : List Rule → List ℕ → ℕ
place_of [] name = 0
place_of (r ∷ rs) name = if bytes_eq r.name name then 0 else suc (place_of rs name)

-- the names of the elements among the nodes
abbrev pub element_names : Nodes → List (List ℕ)
element_names no_nodes = []
element_names (other l more) = element_names more
element_names (element tag inside space more) = tag.name ∷ element_names more
element_names (empty_element tag more) = tag.name ∷ element_names more

-- what matters of a leaf for where it may stand: white space, other text (a section and a reference to a character too,
-- though they give white space: XML 1.0, 3, Element Valid; own for a reference to an entity with such a text), or a
-- comment or an instruction
pub data Sort : Type 0 where
  blank : Sort
  text : Sort
  remark : Sort

-- a character is white space or text, a reference and a section are text, and comments and instructions are remarks
abbrev pub sort_of : Leaf → Sort
sort_of (character c) = if is_blank c then blank else text
sort_of (reference r) = text
sort_of (section chars) = text
sort_of (comment chars) = remark
sort_of (instruction target chars) = remark

-- between elements where no text is: white space, comments and instructions
abbrev pub is_between : Sort → Bool
is_between blank = true
is_between text = false
is_between remark = true

-- nothing where the element has to be empty; white space and remarks between elements; all in text
-- (XML 1.0, 3, validity constraint on elements, and 2.5 to 2.7)
abbrev pub may_hold : Holding → Sort → Bool
may_hold nothing sort = false
may_hold anything sort = true
may_hold (text_and allowed) sort = true
may_hold (children m) sort = is_between sort

-- the leaves among the nodes, but for those inside elements, are such
abbrev pub are_held : (Sort → Bool) → Nodes → Bool
are_held may no_nodes = true
are_held may (other l more) = may (sort_of l) && are_held may more
are_held may (element tag inside space more) = are_held may more
are_held may (empty_element tag more) = are_held may more

-- the element is declared, and what it holds is as declared
pub record ElementFits (table : Table) (name : List ℕ) (inside : Nodes) : Type 0 where
  pub rule : Rule
  pub declared : find_rule table.elements name ≡ Some rule
  pub held : are_held (may_hold rule.holding) inside ≡ true
  pub elements : matches (length table.elements) rule.holding (map (place_of table.elements) (element_names inside)) ≡ true

-- each element among the nodes fits, and each inside it
abbrev pub NodesFit : Table → Nodes → Type 0
NodesFit table no_nodes = Unit {0}
NodesFit table (other l more) = NodesFit table more
NodesFit table (element tag inside space more) = ElementFits table tag.name inside × NodesFit table inside × NodesFit table more
NodesFit table (empty_element tag more) = ElementFits table tag.name no_nodes × NodesFit table more

-- before the document type declaration stand no elements and no text; a definition may demand that declaration
abbrev pub PrologFits : DoctypeRule → Prolog → Type 0
PrologFits Free no_doctype = Unit {0}
PrologFits Strict no_doctype = ⊥
PrologFits rule (with_doctype nodes d) = (element_names nodes ≡ []) × (are_held is_between nodes ≡ true)

-- one element `html`, with only white space, comments and instructions round it
pub record IsRoot (nodes : Nodes) : Type 0 where
  pub root : element_names nodes ≡ codes "html" ∷ []
  pub around : are_held is_between nodes ≡ true

-- some page is spelled by the bytes, its tags, references and document type are as declared, and so is what its elements
-- hold
pub record Valid (table : Table) (bytes : List ℕ) : Type 0 where
  pub page : Page
  pub spells : PageSpells page bytes
  pub allowed : list_all (is_allowed table) (pieces_of page) ≡ true
  pub prolog : PrologFits table.doctype page.prolog
  pub root : IsRoot page.nodes
  pub fits : NodesFit table page.nodes
