-- The forms of what a point gives to its slot, and of the sets that belong to the work of a point.
use Rattle.std.specs.Prelude.{ℕ, suc, List, [], ◌∷◌, Option, Some, None, codes, map, length, nat_eq, slice_get}
use Rattle.plain_values.specs.Plain.{PlainKey}
use Rattle.op_system.specs.declared.op.Op.{Op}
use Rattle.op_system.specs.declared.op.Op.TheVariants as op
use Rattle.flow_code.specs.Points.{PlainSource, concat_source, implode_source, explode_source, apply_source, PlainPoint, set_point, call_point, begin_point, key_point, value_point}
use Rattle.least_sets.specs.Forms.{Form, text_form, same_form, join_form, apply_form, where_form}
use Rattle.loose_sets.specs.declared.name.Half.TheVariants.{Text, Array}
use Rattle.loose_sets.specs.declared.name.Aspect.{Aspect}
use Rattle.loose_sets.specs.declared.name.Aspect.TheVariants.{Own, Member, Others, Keys}
use Rattle.loose_sets.specs.declared.name.SetName.{SetName}
use Rattle.loose_sets.specs.declared.name.SetName.TheVariants as name
use Rattle.loose_sets.specs.Uses.{At, used, all_used, where_so}
use Rattle.loose_sets.specs.Arrays.{Forms}
use Rattle.loose_sets.specs.Sources.{is_own_text, texts_alone, source_forms}

-- a member where a walk stands
unfoldable pub walk_forms : At → ℕ → ℕ → Aspect → Forms
walk_forms at p from (Own h) = all_used at p h from ∷ []
walk_forms at p from (Member i h) = used at p (Others h) from ∷ []
walk_forms at p from (Others h) = used at p (Others h) from ∷ []
walk_forms at p from Keys = used at p Keys from ∷ []

-- what a point gives to its slot
unfoldable pub value_forms : List PlainKey → At → ℕ → PlainPoint → Aspect → Forms
unfolding source_forms where_so is_own_text walk_forms
value_forms told at p (set_point x source next) b = source_forms told at p source b
value_forms told at p (call_point x n args next) b = same_form (name.Result b n) ∷ []
value_forms told at p (begin_point x from next) b = used at p b from ∷ []
value_forms told at p (key_point x from next) b = texts_alone (used at p Keys from ∷ []) b
value_forms told at p (value_point x from next) b = walk_forms at p from b
value_forms told at p _ b = []

-- the source to which a point sets its slot
unfoldable pub source_at : PlainPoint → Option PlainSource
source_at (set_point x source next) = Some source
source_at _ = None

-- the values that a source joins
unfoldable pub joined_slots : Option PlainSource → Option (List ℕ)
joined_slots (Some (concat_source xs)) = Some xs
joined_slots _ = None

-- the separator of members that a source joins, and their array
unfoldable pub imploded_slots : Option PlainSource → Option (ℕ × ℕ)
imploded_slots (Some (implode_source sep from f args)) = Some (sep, from)
imploded_slots _ = None

-- beside the text that it changes, `Any` reads the replacement
unfoldable pub replaced_by : Op → List ℕ → List ℕ
replaced_by op.Any (a ∷ b ∷ c ∷ []) = b ∷ []
replaced_by _ _ = []

-- the operation of a source, and the slots whose texts it reads
unfoldable pub operation_of : Option PlainSource → Option (Op × List ℕ)
unfolding replaced_by
operation_of (Some (apply_source operation from f args)) = Some (operation, from ∷ replaced_by operation args)
operation_of (Some (explode_source operation from f args)) = Some (operation, from ∷ [])
operation_of _ = None

-- at a point that joins values: the texts from the value of this place on
abbrev pub joined_from_place : At → ℕ → ℕ → ℕ → Option ℕ → Forms
joined_from_place at p i count (Some x) = join_form (name.Shown (at p x)) (name.Joined p (suc i)) ∷ []
joined_from_place at p i count None = where_so (nat_eq i count) (text_form [] ∷ [])

-- at a point that joins values: the texts from the value of this place on, from 0; the empty text behind the last one
unfoldable pub joined_forms : At → ℕ → Option (List ℕ) → ℕ → Forms
unfolding where_so
joined_forms at p None i = []
joined_forms at p (Some xs) i = joined_from_place at p i (length xs) (slice_get xs i)

-- a member of an array that is joined, an array among them as `Array`
unfoldable pub piece_forms : At → ℕ → Option (ℕ × ℕ) → Forms
piece_forms at p None = []
piece_forms at p (Some slots) = all_used at p Text slots.1 ∷ where_form (codes "Array") (name.Members Array (at p slots.1)) ∷ []

-- a separator and a member, and any number of these
unfoldable pub further_forms : At → ℕ → Option (ℕ × ℕ) → Forms
further_forms at p None = []
further_forms at p (Some slots) = join_form (name.Value (Own Text) (at p slots.0)) (name.Piece p) ∷ []

-- any number of a separator with a member, none among them
unfoldable pub any_further_forms : ℕ → Option (ℕ × ℕ) → Forms
any_further_forms p None = []
any_further_forms p (Some slots) = text_form [] ∷ join_form (name.FurtherPiece p) (name.FurtherPieces p) ∷ []

-- the inputs of an operation, and its outputs
abbrev pub input_used : At → ℕ → ℕ → Form SetName
input_used at p x = used at p (Own Text) x

-- the inputs of the operation at a point: the texts of each slot that it reads
unfoldable pub input_forms : At → ℕ → Option (Op × List ℕ) → Forms
input_forms at p None = []
input_forms at p (Some work) = map (input_used at p) work.1

-- the outputs of the operation at a point, on each of its inputs
unfoldable pub output_forms : ℕ → Option (Op × List ℕ) → Forms
output_forms p None = []
output_forms p (Some work) = apply_form work.0 (name.Input p) ∷ []
