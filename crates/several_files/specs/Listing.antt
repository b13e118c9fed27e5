-- The names of several files as a list for `site`; this project's own.
use Rattle.std.specs.Prelude.{◌==◌, ◌++◌, ◌&&◌, ℕ, List, [], ◌∷◌, Bool, false, not, if◌then◌else◌, bytes_eq, codes}
use Rattle.std.specs.List.{list_all, list_any}
use Rattle.several_files.specs.declared.call_files.TheConstants.{LIST_NAME}
use Rattle.several_files.specs.declared.listing.TheConstants.{UNLISTABLE}
use Rattle.several_files.specs.Words.{FileName, Checks}

-- the option that asks for lines of JSON
abbrev pub is_json : List ℕ → Bool
is_json option = bytes_eq option (codes "--json")

-- lines of JSON are asked for
abbrev pub asks_json : Checks → Bool
asks_json checks = list_any is_json checks.options

-- options without the first that asks for JSON, since `site` always writes it
abbrev pub without_json : List (List ℕ) → List (List ℕ)
without_json [] = []
without_json (option ∷ options) = if is_json option then options else option ∷ without_json options

-- the words of the call of `site`
abbrev pub site_words : List (List ℕ) → List (List ℕ)
site_words options = codes "site" ∷ (without_json options ++ (codes "--" ∷ LIST_NAME.now ∷ []))

-- some of the names were found in a folder
abbrev pub has_found : List FileName → Bool
has_found files = list_any (λ file. file.is_found) files

-- a name may stand in a list: it is not empty, has no LF (10), and does not end with a CR (13)
abbrev pub is_listable : List ℕ → Bool
is_listable [] = false
is_listable (byte ∷ []) = not (byte == 10) && not (byte == 13)
is_listable (byte ∷ next ∷ bytes) = not (byte == 10) && is_listable (next ∷ bytes)

-- all of these names may
abbrev pub are_listable : List (List ℕ) → Bool
are_listable names = list_all is_listable names

-- a list of names, one a line
abbrev pub list_of : List (List ℕ) → List ℕ
list_of [] = []
list_of (name ∷ names) = name ++ 10 ∷ list_of names

-- why such a name is refused
abbrev pub unlistable_reason : List ℕ
unlistable_reason = UNLISTABLE.now
