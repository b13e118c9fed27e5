-- Words of the examples of the table. Told apart are `'t'` and 5, in this order; the slots are read at the point 9.
use Rattle.std.specs.Prelude.{◌≡◌, ℕ, ⊤, pos, List, [], ◌∷◌, Option, codes}
use Rattle.plain_values.specs.Plain.{PlainKey, int_key, text_key}
use Rattle.flow_code.specs.Points.{PlainKeyRef, int_ref, text_ref, read_ref, PlainSource, put_source, PlainPoint}
use Rattle.least_sets.specs.Forms.{Form, same_form}
use Rattle.loose_sets.specs.Arrays.{Forms}
use Rattle.loose_sets.specs.Sources.{source_forms}
use Rattle.loose_sets.specs.Points.{value_forms}
use Rattle.loose_sets.specs.Table.{each_use}
use Rattle.loose_sets.specs.declared.name.Half.{Half}
use Rattle.loose_sets.specs.declared.name.Half.TheVariants.{Text, Array}
use Rattle.loose_sets.specs.declared.name.Aspect.{Aspect}
use Rattle.loose_sets.specs.declared.name.Aspect.TheVariants.{Own}
use Rattle.loose_sets.specs.declared.name.SetVersion.TheVariants.{Join}
use Rattle.loose_sets.specs.declared.name.SetName.{SetName}
use Rattle.loose_sets.specs.declared.name.SetName.TheVariants.{Value, Members}

-- none of the forms is this one
unfoldable pub Lacks : Forms → Form SetName → Type 0
Lacks [] miss = ⊤
Lacks (f ∷ fs) miss = (f ≡ miss → ⊥) × Lacks fs miss

-- a cell of the table has exactly these forms, and not this one, by which it could be mistaken
abbrev pub Cell : Forms → Forms → Form SetName → Type 0
Cell cell forms miss = (cell ≡ forms) × Lacks forms miss

abbrev pub told : List PlainKey
told = text_key (codes "t") ∷ int_key (pos 5) ∷ []

-- the keys `'t'`, 5 and 6, and the value of the slot 4 as a key
abbrev pub word : PlainKeyRef
word = text_ref (codes "t")

abbrev pub five : PlainKeyRef
five = int_ref (pos 5)

abbrev pub six : PlainKeyRef
six = int_ref (pos 6)

abbrev pub held : PlainKeyRef
held = read_ref 4

-- the value of the slot 3 is written into that of the slot 2, at this path
abbrev pub put_at : List (Option PlainKeyRef) → PlainSource
put_at path = put_source 2 path 3

-- what a source gives, and what a point gives to its slot, by an aspect
abbrev pub given : PlainSource → Aspect → Forms
given s b = source_forms told each_use 9 s b

abbrev pub set_by : PlainPoint → Aspect → Forms
set_by k b = value_forms told each_use 9 k b

-- the value of a slot at the point, and all its members
abbrev pub of_slot : ℕ → Aspect → Form SetName
of_slot x b = same_form (Value b (Join 9 x))

abbrev pub all_of : ℕ → Half → Form SetName
all_of x h = same_form (Members h (Join 9 x))

-- its texts, and whether it may be an array
abbrev pub text_at : ℕ → Form SetName
text_at x = of_slot x (Own Text)

abbrev pub array_at : ℕ → Form SetName
array_at x = of_slot x (Own Array)
