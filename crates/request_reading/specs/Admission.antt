-- Which texts and names of a request file are of XML's characters, and the path to the first one that is not.
use Rattle.std.specs.Prelude.{ℕ, suc, Bool, ◌&&◌, if◌then◌else◌, List, ◌∷◌, ◌++◌, Option, Some, None, chars, decimal}
use Rattle.std.specs.Option.{option_or}
use Rattle.std.specs.Str.{is_utf8}
use Rattle.std.specs.List.{list_all}
use Rattle.xml_text.specs.Characters.{is_character}
use Rattle.serde_json.specs.Data.{Data, null, boolean, number, string, array, object, Items, no_items, item, Members, no_members, member}

-- UTF-8 of XML's characters
abbrev pub is_text : List ℕ → Bool
is_text bytes = is_utf8 bytes && list_all is_character (chars bytes)

-- a path with a name behind it, and a dot between
abbrev pub below : List ℕ → List ℕ → List ℕ
below path name = path ++ 46 ∷ name

abbrev mutual
  -- the path to the first text or name that is no such text, in a value that stands at this path
  pub stray_in : List ℕ → Data → Option (List ℕ)
  stray_in path null = None
  stray_in path (boolean b) = None
  stray_in path (number n) = None
  stray_in path (string s) = if is_text s then None else Some path
  stray_in path (array ds) = stray_item path 0 ds
  stray_in path (object ms) = stray_member path ms

  -- the items of a list go by their places, and a place is named by its decimal form
  pub stray_item : List ℕ → ℕ → Items → Option (List ℕ)
  stray_item path place no_items = None
  stray_item path place (item d ds) = option_or (stray_in (below path (decimal place)) d) (stray_item path (suc place) ds)

  -- the members of an object go in byte order of their names, and a name goes before what it holds
  pub stray_member : List ℕ → Members → Option (List ℕ)
  stray_member path no_members = None
  stray_member path (member name d ms) =
      if is_text name then option_or (stray_in (below path name) d) (stray_member path ms) else Some (below path name)

-- the members of the outermost object: a path begins with the name of one
abbrev pub stray_array : Members → Option (List ℕ)
stray_array no_members = None
stray_array (member name d ms) = if is_text name then option_or (stray_in name d) (stray_array ms) else Some name

-- the path to the first stray text or name of a request file
abbrev pub stray_path : Data → Option (List ℕ)
stray_path (object ms) = stray_array ms
stray_path _ = None
