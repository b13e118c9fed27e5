-- What was held twice, and is the same under each name that the program asks for, makes the same of it.
use Rattle.std.proofs.Common.{◌≡◌, ◌∙◌, ℕ, List, [], ◌∷◌, ◌++◌, Option, inl, inr, refl, sym, ap, subst, arith}
use Rattle.std.specs.List.{Contains}
use Rattle.std.proofs.lemmas.List.Elements.{Contains-append_left, Contains-append_right, Contains-append_cases}
use Rattle.std.specs.Prelude.{◌⊎◌, ◌||◌, is_some, if◌then◌else◌}
use Rattle.io_edge.specs.Names.{beside}
use Rattle.php_syntax.specs.Trees.{PlainStmts, PlainFunction, PlainFile}
use Rattle.program_rules.specs.Bodies.{include_of}
use Rattle.program_rules.specs.Files.{Held, has_one_place, found_name, HasScript, HasTree}
use Rattle.program_rules.proofs.PathLemmas.{same_file}
use Rattle.program_rules.specs.Includes.{Reads, itself, included, Writes, Asks, to_read, first, LeadsTo, directly, through, includes_in, includes_in_functions, includes_of_file}
use Rattle.program_rules.specs.Expansion.{StandsFor, stands}
use Rattle.program_rules.specs.Limits.{HasPlaces, counted, HavePlaces}
use Rattle.program_rules.specs.Limits as limits
use Rattle.program_rules.specs.Programs.{ReadFile, functions_in, TableStandsFor}
use Rattle.program_rules.specs.Programs as programs
use Rattle.program_files.specs.Order.{Reached, begun, again, next}

-- what the other source held is what this one held, under each name that is asked for here
pub record AreSame (held other : Held) (name : List ℕ) : Type 0 where
  pub main : other.main ≡ held.main
  pub bytes : (path : List ℕ) → Asks held name path → other.bytes path ≡ held.bytes path

-- each name that is looked at is read
abbrev pub LookedAt : Held → List ℕ → Type 0
LookedAt held name = (files : List ReadFile) (paths : List (List ℕ)) (path : List ℕ) → Reached (HasTree held) name files paths → Contains paths path → Reads held name path

-- an include is found alike where its first place is held alike
found_alike : (held other : Held) (file written : List ℕ) → other.main ≡ held.main → other.bytes (beside held.main written) ≡ held.bytes (beside held.main written) → found_name other file written ≡ found_name held file written
unfolding found_name
found_alike held other file written main same =
    ap (λ (m : List ℕ). if (has_one_place written || is_some (other.bytes (beside m written))) then beside m written else beside file written) main
    ∙ ap (λ (o : Option (List ℕ)). if (has_one_place written || is_some o) then beside held.main written else beside file written) same

pub script_moved : (held other : Held) (path : List ℕ) (script : PlainFile) → other.bytes path ≡ held.bytes path → HasScript other path script → HasScript held path script
script_moved held other path script same t = record { bytes = t.bytes; tokens = t.tokens; is_held = sym same ∙ t.is_held; cut = t.cut; spelled = t.spelled; within = t.within }

-- a file that is held alike, as the first places of its includes are, has the same tree
pub tree_moved : (held other : Held) (path : List ℕ) (tree : PlainFile) → other.main ≡ held.main → other.bytes path ≡ held.bytes path → (t : HasTree other path tree)
    → ((written : List ℕ) → Contains (includes_of_file t.script) written → other.bytes (beside held.main written) ≡ held.bytes (beside held.main written)) → HasTree held path tree
tree_moved held other path tree main same t firsts = record {
  script = t.script;
  has_script = script_moved held other path t.script same t.has_script;
  found = t.found
      ∙ same_file (λ written. include_of (found_name other path written)) (λ written. include_of (found_name held path written)) t.script (λ written own. ap include_of (found_alike held other path written main (firsts written own)));
}

pub tree_here : (held other : Held) (name : List ℕ) → AreSame held other name → (path : List ℕ) (tree : PlainFile) → Reads held name path → HasTree other path tree → HasTree held path tree
tree_here held other name same path tree reads t =
    let here = same.bytes path (to_read path reads) in
    tree_moved held other path tree same.main here t (λ written own. same.bytes (beside held.main written) (first path written reads (t.script, script_moved held other path t.script here t.has_script, own)))

pub reads_here : (held other : Held) (name : List ℕ) → AreSame held other name → (path : List ℕ) → Reads other name path → Reads held name path
reads_here held other name same path itself = itself
reads_here held other name same path (included file _ tree reads has own) =
    let r = reads_here held other name same file reads in
    included file path tree r (tree_here held other name same file tree r has) own

pub writes_here : (held other : Held) (name : List ℕ) → AreSame held other name → (file written : List ℕ) → Reads held name file → Writes other file written → Writes held file written
writes_here held other name same file written reads (script, has, own) = (script, script_moved held other file script (same.bytes file (to_read file reads)) has, own)

pub asks_here : (held other : Held) (name : List ℕ) → AreSame held other name → (path : List ℕ) → Asks other name path → Asks held name path
asks_here held other name same path (to_read _ reads) = to_read path (reads_here held other name same path reads)
asks_here held other name same _ (first file written reads writes) =
    let r = reads_here held other name same file reads in
    subst (λ (m : List ℕ). Asks held name (beside m written)) (sym same.main) (first file written r (writes_here held other name same file written r writes))

pub same_back : (held other : Held) (name : List ℕ) → AreSame held other name → AreSame other held name
same_back held other name same = record { main = sym same.main; bytes = λ path asks. sym (same.bytes path (asks_here held other name same path asks)) }

-- the tree of a name that is read there
read_tree : (held other : Held) (name : List ℕ) → AreSame held other name → (path : List ℕ) (tree : PlainFile) → Reads other name path → HasTree other path tree → HasTree held path tree
read_tree held other name same path tree reads has = tree_here held other name same path tree (reads_here held other name same path reads) has

pub leads_here : (held other : Held) (name : List ℕ) → AreSame held other name → (file path : List ℕ) → Reads other name file → LeadsTo other file path → LeadsTo held file path
leads_here held other name same file path reads (directly _ _ tree has own) = directly file path tree (read_tree held other name same file tree reads has) own
leads_here held other name same file further reads (through _ path _ tree has own rest) =
    through file path further tree (read_tree held other name same file tree reads has) own (leads_here held other name same path further (included file path tree reads has own) rest)

pub reached_here : (held other : Held) (name : List ℕ) → AreSame held other name → LookedAt other name → (files : List ReadFile) (paths : List (List ℕ))
    → Reached (HasTree other) name files paths → Reached (HasTree held) name files paths
reached_here held other name same looked files paths begun = begun
reached_here held other name same looked files paths (again _ x _ r known) = again files x paths (reached_here held other name same looked files (x ∷ paths) r) known
reached_here held other name same looked files paths (next fs x ps tree r unread has) =
    next fs x ps tree (reached_here held other name same looked fs (x ∷ ps) r) unread (read_tree held other name same x tree (looked fs (x ∷ ps) x r (0, omega arith, refl)) has)

-- the includes of a body are those of its file
in_body : (tree : PlainFile) (path : List ℕ) → Contains (includes_in tree.body_of) path → Contains (includes_of_file tree) path
unfolding includes_of_file
in_body tree path c = Contains-append_left (includes_in tree.body_of) (includes_in_functions tree.functions_of) path c

in_functions : (tree : PlainFile) (path : List ℕ) → Contains (includes_in_functions tree.functions_of) path → Contains (includes_of_file tree) path
unfolding includes_of_file
in_functions tree path c = Contains-append_right (includes_in tree.body_of) (includes_in_functions tree.functions_of) path c

-- each path is read there
abbrev pub AreReadThere : Held → List ℕ → List (List ℕ) → Type 0
AreReadThere other name paths = (path : List ℕ) → Contains paths path → Reads other name path

pub body_read : (other : Held) (name path : List ℕ) (tree : PlainFile) → Reads other name path → HasTree other path tree → AreReadThere other name (includes_in tree.body_of)
body_read other name path tree reads has further own = included path further tree reads has (in_body tree further own)

pub stands_here : (held other : Held) (name : List ℕ) → AreSame held other name → (ss a : PlainStmts) → AreReadThere other name (includes_in ss) → StandsFor other ss a → StandsFor held ss a
stands_here held other name same ss a there (stands _ trees bodies has inner) =
    stands ss trees bodies (λ path own. read_tree held other name same path (trees path) (there path own) (has path own))
    (λ path own. stands_here held other name same (trees path).body_of (bodies path) (body_read other name path (trees path) (there path own) (has path own)) (inner path own))

pub places_here : (held other : Held) (name : List ℕ) → AreSame held other name → (ss : PlainStmts) (n : ℕ) → AreReadThere other name (includes_in ss) → HasPlaces other ss n → HasPlaces held ss n
places_here held other name same ss n there (counted _ trees counts has inner) =
    counted ss trees counts (λ path own. read_tree held other name same path (trees path) (there path own) (has path own))
    (λ path own. places_here held other name same (trees path).body_of (counts path) (body_read other name path (trees path) (there path own) (has path own)) (inner path own))

first_read : (other : Held) (name : List ℕ) (f : PlainFunction) (fs : List PlainFunction) → AreReadThere other name (includes_in_functions (f ∷ fs)) → AreReadThere other name (includes_in f.body_of)
unfolding includes_in_functions
first_read other name f fs there path own = there path (Contains-append_left (includes_in f.body_of) (includes_in_functions fs) path own)

rest_read : (other : Held) (name : List ℕ) (f : PlainFunction) (fs : List PlainFunction) → AreReadThere other name (includes_in_functions (f ∷ fs)) → AreReadThere other name (includes_in_functions fs)
unfolding includes_in_functions
rest_read other name f fs there path own = there path (Contains-append_right (includes_in f.body_of) (includes_in_functions fs) path own)

pub table_here : (held other : Held) (name : List ℕ) → AreSame held other name → (fs gs : List PlainFunction) → AreReadThere other name (includes_in_functions fs) → TableStandsFor other fs gs
    → TableStandsFor held fs gs
table_here held other name same fs gs there programs.none = programs.none
table_here held other name same _ _ there (programs.more f g fs gs one rest) =
    programs.more f g fs gs (record { name = one.name; params = one.params; body = stands_here held other name same f.body_of g.body_of (first_read other name f fs there) one.body })
    (table_here held other name same fs gs (rest_read other name f fs there) rest)

pub counts_here : (held other : Held) (name : List ℕ) → AreSame held other name → (fs : List PlainFunction) (n : ℕ) → AreReadThere other name (includes_in_functions fs) → HavePlaces other fs n
    → HavePlaces held fs n
counts_here held other name same fs n there limits.none = limits.none
counts_here held other name same _ _ there (limits.more f fs m n one rest) =
    limits.more f fs m n (places_here held other name same f.body_of m (first_read other name f fs there) one) (counts_here held other name same fs n (rest_read other name f fs there) rest)

-- the includes of the functions of files that are read are read
split_includes : (fs gs : List PlainFunction) (path : List ℕ) → Contains (includes_in_functions (fs ++ gs)) path → Contains (includes_in_functions fs) path ⊎ Contains (includes_in_functions gs) path
unfolding includes_in_functions
split_includes [] gs path c = inr c
split_includes (f ∷ fs) gs path c = elim (Contains-append_cases (includes_in f.body_of) (includes_in_functions (fs ++ gs)) path c) [
  | inl own ↦ inl (Contains-append_left (includes_in f.body_of) (includes_in_functions fs) path own)
  | inr later ↦ elim (split_includes fs gs path later) [
    | inl here ↦ inl (Contains-append_right (includes_in f.body_of) (includes_in_functions fs) path here)
    | inr there ↦ inr there
  ]
]

abbrev pub EachIsRead : Held → List ℕ → List ReadFile → Type 0
EachIsRead other name files = (file : ReadFile) → Contains files file → Reads other name file.name × HasTree other file.name file.tree

pub functions_read : (other : Held) (name : List ℕ) (files : List ReadFile) → EachIsRead other name files → AreReadThere other name (includes_in_functions (functions_in files))
unfolding functions_in includes_in_functions
functions_read other name [] each path c = absurd (let h = c.1 in omega arith)
functions_read other name (file ∷ files) each path c = elim (split_includes file.tree.functions_of (functions_in files) path c) [
  | inl own ↦ (let r = each file (0, omega arith, refl) in included file.name path file.tree r.0 r.1 (in_functions file.tree path own))
  | inr later ↦ functions_read other name files (λ f h. each f (Contains-append_right (file ∷ []) files f h)) path later
]
