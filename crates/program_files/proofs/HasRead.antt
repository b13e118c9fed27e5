-- What holds while files are read, of the trees as they are written; and what it says of each source that answered so.
use Rattle.std.proofs.Common.{◌≡◌, ◌∙◌, ◌<◌, ℕ, ◌+◌, Bool, true, false, List, [], ◌∷◌, map, length, Option, Some, None, inl, inr, refl, ap}
use Rattle.std.specs.Prelude.{◌⊎◌, ◌||◌, is_some, if◌then◌else◌, bytes_eq}
use Rattle.std.specs.List.{Contains}
use Rattle.io_edge.specs.Told.{Content, Tells, Stays}
use Rattle.io_edge.specs.Names.{normal, beside}
use Rattle.io_edge.proofs.Staying.{tells_stay}
use Rattle.script_grammar.specs.Rules.{is_utf8}
use Rattle.program_rules.specs.declared.limits.TheConstants.{PLACE_LIMIT}
use Rattle.program_rules.specs.Files.{Held, HasScript, HasTree, has_one_place, is_at_first, found_name, with_found_names}
use Rattle.program_rules.specs.Includes.{includes_of_file}
use Rattle.program_rules.specs.Programs.{ReadFile, StandOnce}
use Rattle.program_files.specs.declared.places.Look.TheVariants as look
use Rattle.program_files.specs.Order.{is_read, Reached}
use Rattle.program_files.specs.Source.{SourceCall, source_call, so_many_more, RisesBy}
use Rattle.program_files.specs.Steps.{Include, State, is_among, WasAsked, IsLook}
use Rattle.program_files.proofs.NameLemmas.{tree_there}

-- files as a source has them, with each include by its found name
unfoldable pub found_file : Held → ReadFile → ReadFile
found_file held f = record { name = f.name; tree = with_found_names held f.name f.tree }

abbrev pub found_files : Held → List ReadFile → List ReadFile
found_files held files = map (found_file held) files

abbrev pub found_paths : Held → List Include → List (List ℕ)
found_paths held includes = map (λ (i : Include). found_name held i.0 i.1) includes

-- another source held the same under each name that was asked for
abbrev pub SameAsked : Held → Held → State → Type 0
SameAsked held other s = (path : List ℕ) → WasAsked s.files s.missed path → other.bytes path ≡ held.bytes path

-- an include is found
abbrev pub IsFound : List ℕ → List ℕ → State → Include → Type 0
IsFound root main s include = IsLook root main s.files s.missed include look.Found

-- an include is one of a file that is read
abbrev pub IsNamedIn : List ReadFile → Include → Type 0
IsNamedIn files include = (f : ReadFile) × Contains files f × (f.name ≡ include.0) × Contains (includes_of_file f.tree) include.1

-- a name is a place of an include of a file that is read
pub record IsPlace (main : List ℕ) (s : State) (path : List ℕ) : Type 0 where
  pub file : ReadFile
  pub written : List ℕ
  pub there : Contains s.files file
  pub own : Contains (includes_of_file file.tree) written
  pub place : (path ≡ beside main written) ⊎ ((has_one_place written ≡ false) × (is_among s.missed (beside main written) ≡ true) × (path ≡ beside file.name written))

pub record HasRead (call : SourceCall) (root name : List ℕ) (s : State) : Type 0 where
  pub held : Held
  pub main : held.main ≡ normal name
  pub scripts : (f : ReadFile) → Contains s.files f → HasScript held f.name f.tree × Tells (call.content f.name) (held.bytes f.name)
  pub not_there : (path : List ℕ) → is_among s.missed path ≡ true → Tells (call.content path) None × (held.bytes path ≡ None) × IsPlace held.main s path
  pub reached : (other : Held) → other.main ≡ held.main → SameAsked held other s → Reached (HasTree other) (normal name) (found_files other s.files) (found_paths other s.includes)
  pub once : StandOnce s.missed
  pub named : (include : Include) → Contains s.includes include → IsNamedIn s.files include
  pub settled : (f : ReadFile) (written : List ℕ) → Contains s.files f → Contains (includes_of_file f.tree) written → Contains s.includes (f.name, written) ⊎ IsFound root held.main s (f.name, written)
  pub texts : (path : List ℕ) → is_read s.files path ≡ true → is_utf8 path ≡ true
  pub counted : call.reads' ≡ so_many_more (length s.files + length s.missed) call.reads
  pub few : length s.files < PLACE_LIMIT + 2
  pub unfailed : call.faults' ≡ call.faults
  pub misses : RisesBy (length s.missed) call.misses call.misses'

-- what was read stays so where more is told
pub has_later : (before now : Content) → Stays before now → (f f' m m' r r' : ℕ) (root name : List ℕ) (s : State) → HasRead (source_call before f f' m m' r r') root name s → HasRead (source_call now f f' m m' r r') root name s
has_later before now stays f f' m m' r r' root name s has = record {
  held = has.held;
  main = has.main;
  scripts = λ file c. (let h = has.scripts file c in (h.0, tells_stay before now file.name (has.held.bytes file.name) stays h.1));
  not_there = λ path e. (let h = has.not_there path e in (tells_stay before now path None stays h.0, h.1, h.2));
  reached = has.reached;
  once = has.once;
  named = has.named;
  settled = has.settled;
  texts = has.texts;
  counted = has.counted;
  few = has.few;
  unfailed = has.unfailed;
  misses = has.misses;
}

-- under which name an include is found
pub found_first : (held : Held) (file written : List ℕ) → is_some (held.bytes (beside held.main written)) ≡ true → found_name held file written ≡ beside held.main written
unfolding found_name
found_first held file written there = ap (λ (b : Bool). if b then beside held.main written else beside file written) (right (has_one_place written) (is_some (held.bytes (beside held.main written))) there)
  where
    right : (a b : Bool) → b ≡ true → (a || b) ≡ true
    right true b e = refl
    right false b e = e

pub at_first : (held : Held) (written : List ℕ) → is_some (held.bytes (beside held.main written)) ≡ true → is_at_first held written ≡ true
at_first held written there = right (has_one_place written) (is_some (held.bytes (beside held.main written))) there
  where
    right : (a b : Bool) → b ≡ true → (a || b) ≡ true
    right true b e = refl
    right false b e = e

pub not_first : (held : Held) (written : List ℕ) → has_one_place written ≡ false → held.bytes (beside held.main written) ≡ None → is_at_first held written ≡ false
not_first held written two gone = neither (has_one_place written) (is_some (held.bytes (beside held.main written))) two (ap (λ (o : Option (List ℕ)). is_some o) gone)
  where
    neither : (a b : Bool) → a ≡ false → b ≡ false → (a || b) ≡ false
    neither true b e f = absurd (cc)
    neither false b e f = f

pub found_only : (held : Held) (file written : List ℕ) → has_one_place written ≡ true → found_name held file written ≡ beside held.main written
unfolding found_name
found_only held file written one = ap (λ (b : Bool). if b then beside held.main written else beside file written) (left (has_one_place written) (is_some (held.bytes (beside held.main written))) one)
  where
    left : (a b : Bool) → a ≡ true → (a || b) ≡ true
    left true b e = refl
    left false b e = absurd (cc)

pub found_second : (held : Held) (file written : List ℕ) → has_one_place written ≡ false → held.bytes (beside held.main written) ≡ None → found_name held file written ≡ beside file written
unfolding found_name
found_second held file written two gone = ap (λ (b : Bool). if b then beside held.main written else beside file written) (not_first held written two gone)

-- a name that was read is held
pub read_held : (call : SourceCall) (root name : List ℕ) (s : State) (has : HasRead call root name s) (path : List ℕ) → is_read s.files path ≡ true → (bytes : List ℕ) × (has.held.bytes path ≡ Some bytes)
read_held call root name s has path e =
    let t = tree_there s.files path e in
    let script = (has.scripts (record { name = path; tree = t.0 }) t.1).0 in
    (script.bytes, script.is_held)

pub read_some : (call : SourceCall) (root name : List ℕ) (s : State) (has : HasRead call root name s) (path : List ℕ) → is_read s.files path ≡ true → is_some (has.held.bytes path) ≡ true
read_some call root name s has path e = let h = read_held call root name s has path e in ap (λ (o : Option (List ℕ)). is_some o) h.1

-- the found names of the files are their names
pub read_found : (held : Held) (files : List ReadFile) (path : List ℕ) → is_read (found_files held files) path ≡ is_read files path
unfolding found_file
read_found held [] path = refl
read_found held (f ∷ fs) path = ap (λ (b : Bool). bytes_eq path f.name || b) (read_found held fs path)

-- what is found is read, by each source that answered so
pub found_is_read : (call : SourceCall) (root name : List ℕ) (s : State) (has : HasRead call root name s) (include : Include) → IsFound root has.held.main s include → (other : Held) → other.main ≡ has.held.main → SameAsked has.held other s
    → is_read s.files (found_name other include.0 include.1) ≡ true
found_is_read call root name s has include (inl ((inside, read), last)) other same_main same =
    let first : beside other.main include.1 ≡ beside has.held.main include.1 = ap (λ (m : List ℕ). beside m include.1) same_main in
    let there : is_some (other.bytes (beside other.main include.1)) ≡ true =
    ap (λ (x : List ℕ). is_some (other.bytes x)) first ∙ ap (λ (o : Option (List ℕ)). is_some o) (same (beside has.held.main include.1) (inl read)) ∙ read_some call root name s has (beside has.held.main include.1) read in
    ap (λ (x : List ℕ). is_read s.files x) (found_first other include.0 include.1 there ∙ first) ∙ read
found_is_read call root name s has include (inr ((inside, missed), two, (inside_second, read))) other same_main same =
    let first : beside other.main include.1 ≡ beside has.held.main include.1 = ap (λ (m : List ℕ). beside m include.1) same_main in
    let gone : other.bytes (beside other.main include.1) ≡ None =
    ap (λ (x : List ℕ). other.bytes x) first ∙ same (beside has.held.main include.1) (inr missed) ∙ (has.not_there (beside has.held.main include.1) missed).1 in
    ap (λ (x : List ℕ). is_read s.files x) (found_second other include.0 include.1 two gone) ∙ read
