-- How large a program of points and its versions are, by what a reader can count.
use Rattle.std.specs.Prelude.{ℕ, ◌+◌, Option, Some, length}
use Rattle.std.specs.List.{sum_by}
use Rattle.std.specs.Fmt.{signed_decimal}
use Rattle.plain_values.specs.Text.{text_of}
use Rattle.flow_code.specs.Points.{PlainKeyRef, int_ref, text_ref, PlainSource, literal_source, array_source, put_source, concat_source, PlainPoint, set_point, call_point, print_point, PlainFlowFunction, PlainFlow, points_in}
use Rattle.flow_code.specs.Lawful.{reads}
use Rattle.ssa_form.specs.declared.versions.Versions.{Versions}
use Rattle.ssa_form.specs.Versions.{asks_of, joined_by}

-- how many bytes a key has that stands in the script
unfoldable pub key_bytes : Option PlainKeyRef → ℕ
key_bytes (Some (int_ref z)) = length (signed_decimal z)
key_bytes (Some (text_ref t)) = length t
key_bytes _ = 0

-- the same of the key of an array item
abbrev pub item_bytes : (Option PlainKeyRef × ℕ) → ℕ
item_bytes item = key_bytes item.0

-- how many bytes stand in a source as literals, and as keys under which something is written
unfoldable pub source_bytes : PlainSource → ℕ
unfolding key_bytes
source_bytes (literal_source v) = length (text_of v)
source_bytes (array_source items) = sum_by item_bytes items
source_bytes (put_source x path v) = sum_by key_bytes path
source_bytes _ = 0

-- how many bytes stand in a point
unfoldable pub point_bytes : PlainPoint → ℕ
unfolding source_bytes
point_bytes (set_point x source next) = source_bytes source
point_bytes (print_point bytes next) = length bytes
point_bytes _ = 0

-- how many items, keys of a path or values to be joined a source has
unfoldable pub source_parts : PlainSource → ℕ
source_parts (array_source items) = length items
source_parts (put_source x path v) = length path
source_parts (concat_source xs) = length xs
source_parts _ = 0

-- how many such parts a point has, or arguments
unfoldable pub point_parts : PlainPoint → ℕ
unfolding source_parts
point_parts (set_point x source next) = source_parts source
point_parts (call_point x n args next) = length args
point_parts _ = 0

-- the points of a program, its functions and their slots, the parts of points and their bytes, together
unfoldable pub program_size : PlainFlow → ℕ
unfolding points_in point_parts point_bytes
program_size flow =
    length (points_in flow.functions_of) + length flow.functions_of + sum_by (λ (g : PlainFlowFunction). g.slots_of) flow.functions_of
    + sum_by point_parts (points_in flow.functions_of) + sum_by point_bytes (points_in flow.functions_of)

-- how many slots the points of a program read, each point counted
unfoldable pub reads_count : PlainFlow → ℕ
unfolding points_in reads
reads_count flow = sum_by (λ k. length (reads k)) (points_in flow.functions_of)

-- how many points a program has
unfoldable pub points_count : PlainFlow → ℕ
unfolding points_in
points_count flow = length (points_in flow.functions_of)

-- how many joins the versions of a program have
abbrev pub joins_count : Versions → ℕ
joins_count versions = length (asks_of versions)

-- how many versions these join, together
abbrev pub links_count : Versions → ℕ
links_count versions = sum_by (λ k. length (joined_by versions k.0 k.1)) (asks_of versions)
