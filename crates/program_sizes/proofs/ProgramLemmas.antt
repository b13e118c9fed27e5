-- The program that files make is that of the name.
use Rattle.std.proofs.Common.{◌≡◌, ◌∙◌, ℕ, zero, suc, true, List, [], ◌∷◌, ◌++◌, length, map, take, Some, slice_get, refl, sym, ap, subst, arith}
use Rattle.std.specs.List.{Contains}
use Rattle.std.proofs.lemmas.List.Elements.{Contains-append_left, Contains-append_right}
use Rattle.std.proofs.lemmas.Option.{same_Some}
use Rattle.php_syntax.specs.Tokens.{PlainToken}
use Rattle.php_syntax.specs.Trees.{PlainStmts, PlainFunction, PlainFile}
use Rattle.lexical_grammar.specs.Cuts.{Cuts}
use Rattle.script_grammar.specs.Grammar.{SpellsTree, IsTooDeep}
use Rattle.script_meaning.specs.Programs.{PlainProgram}
use Rattle.program_rules.specs.Files.{Held, found_name, with_found_names, HasTree, HasOneScript, HasOneTree}
use Rattle.program_rules.specs.Includes.{includes_in, includes_in_functions, includes_of_file, Reads, itself, included, LeadsTo}
use Rattle.program_rules.specs.Bodies.{with_bodies, with_body}
use Rattle.program_rules.specs.Expansion.{StandsFor}
use Rattle.program_rules.specs.Limits.{one_each, HasPlaces, HavePlaces, IsWithin}
use Rattle.program_rules.specs.Limits as limits
use Rattle.program_rules.specs.Programs.{ReadFile, AreRead, functions_in, TableStandsFor, taken, HasNoCycle, IsProgram}
use Rattle.program_rules.specs.Rules.{KeepsRules}
use Rattle.program_rules.specs.Programs as programs
use Rattle.program_files.specs.Order.{is_read, Reached}
use Rattle.include_expansion.specs.Within.{tree_named, bodies_within, places_within, program_within, IsIncludeOrder, AreHeld}
use Rattle.include_expansion.specs.FileOrder.{AreWhole}
use Rattle.include_expansion.proofs.PlaceLemmas.{place_there, file_there, tree_there, read_here}
use Rattle.spellable.proofs.BackFiles.{spelled_is_spellable}
use Rattle.program_sizes.specs.Limits.{function_places, program_places}
use Rattle.program_sizes.proofs.TableLemmas.{function_includes, all_first}
use Rattle.program_sizes.specs.Loaded.{AreScripts, AreStubs, with_stubs, MakeProgram, StandsForProgram}
use Rattle.program_sizes.proofs.LawfulLemmas.{CallsAreInFiles, rules_kept}
use Rattle.program_sizes.proofs.StubLemmas.{same_taken, taken_are_stubs}

abbrev pub OneTokenList : Type 0
OneTokenList = (file : List ℕ) (tokens others : List PlainToken) → Cuts file tokens → Cuts file others → tokens ≡ others

abbrev pub OneTree : Type 0
OneTree = (tokens : List PlainToken) (a b : PlainFile) → (IsTooDeep tokens → ⊥) → SpellsTree tokens a → SpellsTree tokens b → a ≡ b

pub one_script_each : OneTokenList → OneTree → (held : Held) → HasOneScript held
one_script_each lists trees held name a b x y =
    let bytes : x.bytes ≡ y.bytes = same_Some x.bytes y.bytes (sym x.is_held ∙ y.is_held) in
    let tokens : x.tokens ≡ y.tokens = lists x.bytes x.tokens y.tokens x.cut (subst (λ (bs : List ℕ). Cuts bs y.tokens) (sym bytes) y.cut) in
    trees x.tokens a b x.within x.spelled (subst (λ (ts : List PlainToken). SpellsTree ts b) (sym tokens) y.spelled)

pub one_tree_each : OneTokenList → OneTree → (held : Held) → HasOneTree held
one_tree_each lists trees held name a b x y =
    x.found ∙ ap (λ (s : PlainFile). with_found_names held name s) (one_script_each lists trees held name x.script y.script x.has_script y.has_script) ∙ sym y.found

place_in : {X : Type 0} (xs : List X) (x : X) → Contains xs x → (i : ℕ) × (slice_get xs i ≡ Some x)
place_in [] x c = absurd (let h = c.1 in omega arith)
place_in (y ∷ ys) x (zero, lt, is) = (zero, ap Some is)
place_in (y ∷ ys) x (suc i, lt, is) = let rest = place_in ys x (i, omega arith, is) in (suc rest.0, rest.1)

pub at_place : {X : Type 0} (xs : List X) (i : ℕ) (x : X) → slice_get xs i ≡ Some x → Contains xs x
at_place [] i x e = absurd (cc)
at_place (y ∷ ys) zero x e = (0, omega arith, same_Some y x e)
at_place (y ∷ ys) (suc i) x e = let rest = at_place ys i x e in (suc rest.0, (let h = rest.1 in omega arith), rest.2)

read_of : (files : List ReadFile) (file : ReadFile) → Contains files file → is_read files file.name ≡ true
read_of files file c = let p = place_in files file c in read_here files p.0 file p.1

pub path_read : (held : Held) (name : List ℕ) (files : List ReadFile) → AreRead held name files → (path : List ℕ) → Reads held name path → is_read files path ≡ true
path_read held name files read path reads = let t = read.all path reads in read_of files (record { name = path; tree = t.0 }) t.1

same_place : (files : List ReadFile) (held : Held) (name : List ℕ) → AreRead held name files → (i j : ℕ) (one other : ReadFile) → slice_get files i ≡ Some one → slice_get files j ≡ Some other → one.name ≡ other.name → i ≡ j
same_place files held name read i j one other at at' e =
    read.once i j one.name one.tree other.tree at (at' ∙ ap (λ (n : List ℕ). Some (record { name = n; tree = other.tree })) (sym e))

pub are_whole : (held : Held) (name : List ℕ) (files : List ReadFile) → AreRead held name files → AreWhole files
are_whole held name files read = record {
  own = λ i j one other at at' e. same_place files held name read i j one other at at' e;
  closed = λ file path c own. (let f = read.each file c in path_read held name files read path (included file.name path file.tree f.0 f.1 own));
}

pub are_held : (held : Held) (name : List ℕ) (files : List ReadFile) → AreRead held name files → AreHeld held files
are_held held name files read path e =
    let p = place_there files path e in
    let f = file_there files path p.0 p.1 in
    let own = (read.each f.0 (at_place files p.0 f.0 f.1)).1 in
    let named : HasTree held path f.0.tree = subst (λ (x : List ℕ). HasTree held x f.0.tree) (sym f.2) own in
    subst (λ (t : PlainFile). HasTree held path t) (sym (tree_there files path p.0 f.0 p.1 f.1)) named

-- the laws of include_expansion and include_expansion
abbrev pub TheyStandFor : Type 0
TheyStandFor = (held : Held) (files : List ReadFile) (order : List (List ℕ)) (n : ℕ) (ss : PlainStmts) → IsIncludeOrder files order → AreHeld held files → ((path : List ℕ) → Contains (includes_in ss) path → Contains (take n order) path)
    → StandsFor held ss (with_bodies (bodies_within files n) ss)

abbrev pub TheyHavePlaces : Type 0
TheyHavePlaces = (held : Held) (files : List ReadFile) (order : List (List ℕ)) (n : ℕ) (ss : PlainStmts) → IsIncludeOrder files order → AreHeld held files → ((path : List ℕ) → Contains (includes_in ss) path → Contains (take n order) path)
    → HasPlaces held ss (one_each (places_within files n) (includes_in ss))

abbrev pub NoneIncludesItself : Type 0
NoneIncludesItself = (held : Held) (files : List ReadFile) (order : List (List ℕ)) (path : List ℕ) → HasOneTree held → IsIncludeOrder files order → AreHeld held files → Contains order path → LeadsTo held path path → ⊥

functions_stand : TheyStandFor → (held : Held) (files : List ReadFile) (order : List (List ℕ)) (n : ℕ) → IsIncludeOrder files order → AreHeld held files → (fs : List PlainFunction)
    → ((path : List ℕ) → Contains (includes_in_functions fs) path → Contains (take n order) path) → TableStandsFor held fs (map (with_body (bodies_within files n)) fs)
unfolding includes_in_functions
functions_stand stand held files order n sorted has [] own = programs.none
functions_stand stand held files order n sorted has (f ∷ fs) own =
    programs.more f (with_body (bodies_within files n) f) fs (map (with_body (bodies_within files n)) fs)
    (record { name = refl; params = refl; body = stand held files order n f.body_of sorted has (λ path c. own path (Contains-append_left (includes_in f.body_of) (includes_in_functions fs) path c)) })
    (functions_stand stand held files order n sorted has fs (λ path c. own path (Contains-append_right (includes_in f.body_of) (includes_in_functions fs) path c)))

functions_places : TheyHavePlaces → (held : Held) (files : List ReadFile) (order : List (List ℕ)) (n : ℕ) → IsIncludeOrder files order → AreHeld held files → (fs : List PlainFunction)
    → ((path : List ℕ) → Contains (includes_in_functions fs) path → Contains (take n order) path) → HavePlaces held fs (function_places files n fs)
unfolding includes_in_functions function_places
functions_places places held files order n sorted has [] own = limits.none
functions_places places held files order n sorted has (f ∷ fs) own =
    limits.more f fs (one_each (places_within files n) (includes_in f.body_of)) (function_places files n fs)
    (places held files order n f.body_of sorted has (λ path c. own path (Contains-append_left (includes_in f.body_of) (includes_in_functions fs) path c)))
    (functions_places places held files order n sorted has fs (λ path c. own path (Contains-append_right (includes_in f.body_of) (includes_in_functions fs) path c)))

in_body : (tree : PlainFile) (path : List ℕ) → Contains (includes_in tree.body_of) path → Contains (includes_of_file tree) path
unfolding includes_of_file
in_body tree path c = Contains-append_left (includes_in tree.body_of) (includes_in_functions tree.functions_of) path c

abbrev pub ReadsTheProgram : Type 0
ReadsTheProgram = (held : Held) (name : List ℕ) (files : List ReadFile) → HasOneTree held → Reached (HasTree held) name files [] → AreRead held name files

-- no file includes itself
pub is_acyclic : NoneIncludesItself → (held : Held) (files : List ReadFile) (order : List (List ℕ)) (name : List ℕ) → HasOneTree held → AreRead held name files → IsIncludeOrder files order → HasNoCycle held name
is_acyclic circles held files order name one read sorted path reads circle =
    circles held files order path one sorted (are_held held name files read) (sorted.all path (path_read held name files read path reads)) circle

-- the file of the name stands for the program that they make, with any stubs
pub stands_for_program : TheyStandFor → TheyHavePlaces → (held : Held) (files : List ReadFile) (order : List (List ℕ)) (name : List ℕ) (stubs : List PlainFunction) → AreRead held name files → IsIncludeOrder files order
    → StandsForProgram held name files stubs (program_places files (length order) (tree_named files name)) (with_stubs stubs (program_within files (length order) (tree_named files name)))
stands_for_program stand places held files order name stubs read sorted =
    let n = length order in
    let has = are_held held name files read in
    let tree = tree_named files name in
    let spelled = has name (path_read held name files read name itself) in
    let in_order : (path : List ℕ) → Reads held name path → Contains (take n order) path = λ path reads. all_first order path (sorted.all path (path_read held name files read path reads)) in
    let own_body : (path : List ℕ) → Contains (includes_in tree.body_of) path → Contains (take n order) path = λ path c. in_order path (included name path tree itself spelled (in_body tree path c)) in
    let in_functions : (path : List ℕ) → Contains (includes_in_functions (functions_in files)) path → Contains (take n order) path =
    λ path c. (let f = function_includes files path c in let own = read.each f.0 f.1 in in_order path (included f.0.name path f.0.tree own.0 own.1 f.2)) in
    record {
      tree = tree;
      spelled = spelled;
      main = stand held files order n tree.body_of sorted has own_body;
      own = map (with_body (bodies_within files n)) (functions_in files);
      stand = functions_stand stand held files order n sorted has (functions_in files) in_functions;
      functions = refl;
      own_places = one_each (places_within files n) (includes_in tree.body_of);
      has_places = places held files order n tree.body_of sorted has own_body;
      function_places = function_places files n (functions_in files);
      have_places = functions_places places held files order n sorted has (functions_in files) in_functions;
      all_places = refl;
    }

-- a program that stands for a file with the stubs that it takes
pub program_of_parts : (held : Held) (name : List ℕ) (files : List ReadFile) (functions : List PlainFunction) (places : ℕ) (program : PlainProgram) → AreRead held name files → HasNoCycle held name
    → StandsForProgram held name files (taken (functions_in files) functions) places program → KeepsRules program → IsWithin places program
    → (p : IsProgram held name functions program) × (p.files ≡ files)
program_of_parts held name files functions places program read acyclic st rules within = (
  record {
    files = files;
    read = read;
    acyclic = acyclic;
    tree = st.tree;
    spelled = st.spelled;
    main = st.main;
    own = st.own;
    stand = st.stand;
    functions = st.functions ∙ ap (λ (fs : List PlainFunction). st.own ++ fs) (sym (same_taken held (functions_in files) st.own st.stand functions));
    rules = rules;
    own_places = st.own_places;
    has_places = st.has_places;
    function_places = st.function_places;
    have_places = st.have_places;
    within = subst (λ (n : ℕ). IsWithin n program) st.all_places within;
  },
  refl,
)

made_is_program : TheyStandFor → TheyHavePlaces → NoneIncludesItself → CallsAreInFiles → (held : Held) (files : List ReadFile) (functions : List PlainFunction) (order : List (List ℕ)) (name : List ℕ) → HasOneTree held → AreRead held name files → AreStubs functions
    → MakeProgram files (taken (functions_in files) functions) order name (with_stubs (taken (functions_in files) functions) (program_within files (length order) (tree_named files name)))
    → IsProgram held name functions (with_stubs (taken (functions_in files) functions) (program_within files (length order) (tree_named files name)))
made_is_program stand places circles calls held files functions order name one read are made =
    let stubs = taken (functions_in files) functions in
    let stubs_are = taken_are_stubs (functions_in files) functions are in
    let p = program_of_parts held name files functions (program_places files (length order) (tree_named files name)) (with_stubs stubs (program_within files (length order) (tree_named files name))) read
    (is_acyclic circles held files order name one read made.sorted) (stands_for_program stand places held files order name stubs read made.sorted) (rules_kept calls files stubs (length order) name stubs_are.whole made.rules) made.within in
    p.0

pub is_program : TheyStandFor → TheyHavePlaces → NoneIncludesItself → CallsAreInFiles → ReadsTheProgram
    → (held : Held) (files : List ReadFile) (functions : List PlainFunction) (order : List (List ℕ)) (name : List ℕ) (program : PlainProgram) → HasOneTree held → Reached (HasTree held) name files [] → AreStubs functions
    → MakeProgram files (taken (functions_in files) functions) order name program → IsProgram held name functions program
is_program stand places circles calls reading held files functions order name program one reached are made =
    let P : PlainProgram → Type 0 = λ p. MakeProgram files (taken (functions_in files) functions) order name p in
    subst (IsProgram held name functions) (sym made.program_is) (made_is_program stand places circles calls held files functions order name one (reading held name files one reached) are (subst P made.program_is made))

-- each file is one of a script
pub are_scripts : (held : Held) (name : List ℕ) (files : List ReadFile) → AreRead held name files → AreScripts files
are_scripts held name files read file c =
    let has = (read.each file c).1 in
    let own = has.has_script in record {
      script = has.script;
      found = found_name held file.name;
      is = has.found;
      spellable = spelled_is_spellable own.bytes own.tokens has.script own.cut own.spelled;
      fits = own.spelled.fits;
    }
