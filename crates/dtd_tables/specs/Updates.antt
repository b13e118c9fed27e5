-- Attribute lists that are put to the rules of their elements, one after another.
use Rattle.std.specs.Prelude.{◌≤◌, ℕ, if◌then◌else◌, List, [], ◌∷◌, ◌++◌, length, map}
use Rattle.dtd_model.specs.Lawful.{attribute_limit}
use Rattle.dtd_model.specs.Table.{Declared, Rule}
use Rattle.dtd_texts.specs.Heads.{same}
use Rattle.dtd_texts.specs.Tables.{Said, element, attributes, is_declared, with_others}

-- one attribute more, where none of its name is declared
abbrev pub with_one : List Declared → Declared → List Declared
with_one ds d = if is_declared ds d.name then ds else ds ++ d ∷ []

-- a rule with these attributes behind its own, but for those of a name that it has already
abbrev pub with_attributes : Rule → List Declared → Rule
with_attributes rule ds = record rule { attributes = with_others rule.attributes ds }

-- a list for an element is put to each rule of its name
abbrev pub updated : List ℕ → List Declared → List Rule → List Rule
updated name ds [] = []
updated name ds (rule ∷ rules) = (if same name rule.name then with_attributes rule ds else rule) ∷ updated name ds rules

-- the attribute lists among what is said
abbrev pub lists_in : List Said → List Said
lists_in [] = []
lists_in (element name h ∷ says) = lists_in says
lists_in (attributes name ds ∷ says) = attributes name ds ∷ lists_in says

-- the names of the elements, in the order of the rules
abbrev pub rule_names : List Rule → List (List ℕ)
rule_names rules = map (λ (r : Rule). r.name) rules

-- each has as many attributes as are allowed, or fewer
abbrev pub HasFew : Rule → Type 0
HasFew rule = length rule.attributes ≤ attribute_limit

-- each rule has at most as many attributes as are allowed
abbrev pub HaveFew : List Rule → Type 0
HaveFew [] = Unit {0}
HaveFew (rule ∷ rules) = HasFew rule × HaveFew rules
