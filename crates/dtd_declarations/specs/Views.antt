-- What the stages of the code stand for.
use Rattle.std.specs.Prelude.{◌≡◌, ℕ, List, ◌∷◌, map, reverse, Result, Ok, Err}
use Rattle.text_base.specs.declared.numbers.Elem.{Elem}
use Rattle.dtd_model.specs.Table.{model_of, holding_of, kind_of, Declared, declared_of}
use Rattle.dtd_texts.specs.Went.{Went, leads, refused, left_out, too_deep, undeclared}
use Rattle.dtd_texts.specs.ContentModels as plain
use Rattle.dtd_texts.specs.AttributeLists as lists
use Rattle.dtd_texts.specs.Tables.{Said, element, attributes}
use Rattle.dtd_declarations.specs.declared.declaration.Said.{Said as CodeSaid}
use Rattle.dtd_declarations.specs.declared.declaration.Said.TheVariants.{Element, Attributes}
use Rattle.dtd_declarations.specs.declared.fault.Fault.{Fault}
use Rattle.dtd_declarations.specs.declared.fault.Fault.TheVariants.{Refused, LeftOut, TooDeep, Undeclared, Memory}
use Rattle.dtd_declarations.specs.declared.stage.Separator.{Separator}
use Rattle.dtd_declarations.specs.declared.stage.Separator.TheVariants.{Unknown, ByBar, ByComma}
use Rattle.dtd_declarations.specs.declared.stage.Group.{Group}
use Rattle.dtd_declarations.specs.declared.stage.Groups.{Groups}
use Rattle.dtd_declarations.specs.declared.stage.Stage.{Stage}
use Rattle.dtd_declarations.specs.declared.stage.Stage.TheVariants.{BehindName, AtContent, AtFirst, AtText, BehindText, AtElement, BehindMixed, AtParticle, OnParticle, BehindParticle, BehindGroup, Done}
use Rattle.dtd_declarations.specs.declared.attribute_stage.Place.{Place}
use Rattle.dtd_declarations.specs.declared.attribute_stage.Place.TheVariants.{Between, AtName, BehindName as BehindAttribute, AtKind, AtToken, BehindToken, BehindKind, AtDefault, AtWord, BehindFixed, AtFixed}
use Rattle.dtd_declarations.specs.declared.attribute_stage.Reading.{Reading}

-- want of memory is free
abbrev pub WentWrong : {S : Type 0} → Fault → Went S → Type 0
WentWrong Refused w = w ≡ refused
WentWrong LeftOut w = w ≡ left_out
WentWrong TooDeep w = w ≡ too_deep
WentWrong (Undeclared name) w = w ≡ undeclared name
WentWrong Memory w = Unit {0}

-- the answer is what the tokens lead to
abbrev pub Gives : {A S : Type 0} → (A → S) → Result A Fault → Went S → Type 0
Gives view (Ok a) w = w ≡ leads (view a)
Gives view (Err fault) w = WentWrong fault w

-- the plain form of what stands between the particles of a group
abbrev pub separator_of : Separator → plain.Separator
separator_of Unknown = plain.unknown
separator_of ByBar = plain.by_bar
separator_of ByComma = plain.by_comma

-- the plain form of an open bracket
abbrev pub group_of : Group → plain.Group
group_of g = record { separator = separator_of g.separator; parts = map model_of g.parts.items }

-- the inner one first
abbrev pub groups_of : Groups → List plain.Group
groups_of g = group_of g.inner ∷ map group_of (reverse g.outer.items)

-- the numbers of elements, in their order
abbrev pub numbers_of : List Elem → List ℕ
numbers_of es = map (λ (e : Elem). e.0) es

-- the plain form of a stage of a content model
abbrev pub stage_of : Stage → plain.Stage
stage_of BehindName = plain.behind_name
stage_of AtContent = plain.at_content
stage_of AtFirst = plain.at_first
stage_of AtText = plain.at_text
stage_of (BehindText es) = plain.behind_text (numbers_of es.items)
stage_of (AtElement es) = plain.at_element (numbers_of es.items)
stage_of (BehindMixed es) = plain.behind_mixed (numbers_of es.items)
stage_of (AtParticle groups) = plain.at_particle (groups_of groups)
stage_of (OnParticle groups p) = plain.on_particle (groups_of groups) (model_of p)
stage_of (BehindParticle groups) = plain.behind_particle (groups_of groups)
stage_of (BehindGroup p) = plain.behind_group (model_of p)
stage_of (Done content) = plain.done (holding_of content)

-- In attribute lists: the attributes so far stand beside the place.

-- the plain form of a stage of an attribute list, with these attributes before it
abbrev pub at_place : List Declared → Place → lists.Stage
at_place ds Between = lists.between ds
at_place ds AtName = lists.at_name ds
at_place ds (BehindAttribute name) = lists.behind_name ds name
at_place ds (AtKind name) = lists.at_kind ds name
at_place ds (AtToken name tokens) = lists.at_token ds name tokens.items
at_place ds (BehindToken name tokens) = lists.behind_token ds name tokens.items
at_place ds (BehindKind name kind) = lists.behind_kind ds name (kind_of kind)
at_place ds (AtDefault name kind) = lists.at_default ds name (kind_of kind)
at_place ds (AtWord name kind) = lists.at_word ds name (kind_of kind)
at_place ds (BehindFixed name kind) = lists.behind_fixed ds name (kind_of kind)
at_place ds (AtFixed name kind) = lists.at_fixed ds name (kind_of kind)

-- the plain form of the reading of an attribute list
abbrev pub reading_of : Reading → lists.Stage
reading_of r = at_place (map declared_of r.attributes.items) r.place

-- what a declaration says
abbrev pub said_of : CodeSaid → Said
said_of (Element name content) = element name (holding_of content)
said_of (Attributes name rules) = attributes name (map declared_of rules.items)
