-- Worked examples of sizes: what is counted of points, and what is not.
use Rattle.std.proofs.Common.{◌≡◌, [], ◌∷◌, Some, None, refl}
use Rattle.std.specs.Prelude.{codes}
use Rattle.plain_values.specs.Plain.{text}
use Rattle.flow_code.specs.Points.{text_ref, read_ref, literal_source, array_source, put_source, member_source, set_point, call_point, print_point, echo_point, return_point, PlainFlow, points_in}
use Rattle.flow_code.specs.Lawful.{reads}
use Rattle.extraction.specs.Sizes.{key_bytes, source_bytes, source_parts, point_bytes, point_parts, program_size, reads_count}

-- the bytes that are printed, and those of a literal
printed : point_bytes (print_point (codes "<p>") 1) ≡ 3
unfolding point_bytes
printed = refl

literal : point_bytes (set_point 0 (literal_source (text (codes "ab"))) 1) ≡ 2
unfolding point_bytes source_bytes
literal = refl

-- the keys of a write count; the key of a read does not
written : point_bytes (set_point 0 (put_source 0 (Some (text_ref (codes "ab")) ∷ Some (text_ref (codes "k")) ∷ None ∷ []) 1) 1) ≡ 3
unfolding point_bytes source_bytes key_bytes
written = refl

read : point_bytes (set_point 0 (member_source 1 (text_ref (codes "k"))) 1) ≡ 0
unfolding point_bytes source_bytes
read = refl

-- items, keys of a path, values that are joined and arguments are parts; what a point reads alone is none
items : point_parts (set_point 0 (array_source ((None, 1) ∷ (Some (read_ref 3), 2) ∷ [])) 1) ≡ 2
unfolding point_parts source_parts
items = refl

arguments : point_parts (call_point 0 1 (4 ∷ 5 ∷ 6 ∷ []) 1) ≡ 3
unfolding point_parts
arguments = refl

echoed : point_parts (echo_point 3 1) ≡ 0
unfolding point_parts
echoed = refl

-- `a` is printed and the function returns: two points, one function, one slot and one byte; and one read
pub small : PlainFlow
small = record { functions_of = record { entry_of = 0; params_of = []; first_slot_of = 0; slots_of = 1; first_point_of = 0; points_of = print_point (codes "a") 1 ∷ return_point 0 ∷ [] } ∷ [] }

pub small_size : program_size small ≡ 5
unfolding small program_size points_in point_parts point_bytes
small_size = refl

small_reads : reads_count small ≡ 1
unfolding small reads_count points_in reads
small_reads = refl
