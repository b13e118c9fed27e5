-- Names of files (POSIX.1-2017, 4.13 "Pathname Resolution"): parts between slashes. A name is taken by its text alone, whatever links there
-- are (own).
use Rattle.std.specs.Prelude.{◌==◌, ◌-◌, ◌++◌, ◌&&◌, ◌||◌, ℕ, List, [], ◌∷◌, length, take, Bool, false, not, Option, None, Some, if◌then◌else◌, bytes_eq, nat_eq, slice_index}
use Rattle.std.specs.List.{filter, fold, join_with_byte, last_or, list_all, list_any, slice_split, starts_with}
use Rattle.std.specs.Path.{slash, dot, root_dir, cur_dir, parent_dir, is_name}

-- what stands between the slashes of a name, without what is empty or `.`
abbrev pub parts_of : List ℕ → List (List ℕ)
parts_of name = filter is_name (slice_split (λ b. b == slash) name)

-- the name begins with a slash, at the root of the system
abbrev pub is_absolute : List ℕ → Bool
is_absolute name = slice_index name 0 == slash

-- the parts without the last of them
abbrev pub all_but_last : List (List ℕ) → List (List ℕ)
all_but_last parts = take (length parts - 1) parts

-- parts with `..` behind them, by their last: it is taken away, unless it is a `..` itself; where there is none, `..` stays in a relative
-- name, and leads nowhere from the root of the system
abbrev pub back_from : Bool → List (List ℕ) → Option (List ℕ) → List (List ℕ)
back_from absolute parts None = if absolute then [] else parent_dir ∷ []
back_from absolute parts (Some last) = if bytes_eq last parent_dir then parts ++ parent_dir ∷ [] else all_but_last parts

-- parts with one more behind them
abbrev pub with_part : Bool → List (List ℕ) → List ℕ → List (List ℕ)
with_part absolute parts part =
    if bytes_eq part parent_dir then back_from absolute parts (last_or None parts) else parts ++ part ∷ []

-- parts with those of a name behind them, from the left
abbrev pub with_parts : Bool → List (List ℕ) → List ℕ → List (List ℕ)
with_parts absolute parts name = fold (with_part absolute) parts (parts_of name)

-- the parts of the normal form of a name: no `..` but at the head of a relative one
unfoldable pub normal_parts : List ℕ → List (List ℕ)
normal_parts name = with_parts (is_absolute name) [] name

-- the name of these parts; of none it is the root of the system, or the folder of the call
abbrev pub name_with : Bool → List (List ℕ) → List ℕ
name_with absolute parts =
    if absolute then root_dir ++ join_with_byte slash parts
    else (if length parts == 0 then cur_dir else join_with_byte slash parts)

-- the normal form of a name
unfoldable pub normal : List ℕ → List ℕ
unfolding normal_parts
normal name = name_with (is_absolute name) (normal_parts name)

-- the folder in which a file stands
unfoldable pub folder_of : List ℕ → List ℕ
unfolding normal_parts
folder_of file = name_with (is_absolute file) (all_but_last (normal_parts file))

-- a name as it is meant in a file: in the folder of that file, unless it is absolute (XML 1.0, 4.2.2; PHP manual, "include")
unfoldable pub beside : List ℕ → List ℕ → List ℕ
unfolding normal normal_parts
beside file name =
    if is_absolute name then normal name
    else name_with (is_absolute file) (with_parts (is_absolute file) (all_but_last (normal_parts file)) name)

-- the name begins with `./` or `../` (PHP manual, "include": then it is looked for in one folder only)
abbrev pub is_dotted : List ℕ → Bool
is_dotted name = starts_with nat_eq name (dot ∷ slash ∷ []) || starts_with nat_eq name (dot ∷ dot ∷ slash ∷ [])

-- a part leads to the folder above
abbrev pub is_parent : List ℕ → Bool
is_parent part = bytes_eq part parent_dir

-- behind the parts that a root and a name begin with alike, the root leads up alone, and the name never: `..` holds `../a` and `a`
abbrev pub goes_on : List (List ℕ) → List (List ℕ) → Bool
goes_on [] parts = not (list_any is_parent parts)
goes_on (part ∷ root) [] = list_all is_parent (part ∷ root)
goes_on (part ∷ root) (other ∷ parts) =
    if bytes_eq part other then goes_on root parts
    else (list_all is_parent (part ∷ root) && not (list_any is_parent (other ∷ parts)))

-- a name lies in a folder, or below it
unfoldable pub is_inside : List ℕ → List ℕ → Bool
unfolding normal_parts
is_inside root name =
    (if is_absolute root then is_absolute name else not (is_absolute name))
    && goes_on (normal_parts root) (normal_parts name)

-- the root of a program or a definition: the folder that is given, or else that of the call where the file lies in it, or else that of the
-- file
unfoldable pub root_for : Option (List ℕ) → List ℕ → List ℕ
unfolding normal folder_of is_inside
root_for (Some root) file = normal root
root_for None file = if is_inside cur_dir file then cur_dir else folder_of file

-- a name that is meant in a file leads out of a root, or is absolute
unfoldable pub is_outside : List ℕ → List ℕ → List ℕ → Bool
unfolding beside is_inside
is_outside root file name = is_absolute name || not (is_inside root (beside file name))
