-- What was read so far, as it is told: one source that answered so.
use Rattle.std.proofs.Common.{◌≡◌, ◌∙◌, ◌≤◌, ℕ, ◌+◌, Bool, true, false, List, [], map, length, Option, None, inl, inr, refl, sym, ap, subst, arith}
use Rattle.std.proofs.lemmas.List.{length-map}
use Rattle.std.specs.Prelude.{◌⊎◌, ◌||◌, is_some, if◌then◌else◌}
use Rattle.std.specs.List.{Contains}
use Rattle.io_edge.specs.Told.{Told, Content, unasked, untold, known, Tells, Allows}
use Rattle.io_edge.specs.Names.{normal, beside}
use Rattle.io_edge.proofs.Staying.{tells_allow}
use Rattle.php_syntax.specs.Trees.{PlainFile}
use Rattle.script_grammar.specs.Rules.{is_utf8}
use Rattle.program_rules.specs.declared.limits.TheConstants.{PLACE_LIMIT}
use Rattle.program_rules.specs.Bodies.{include_of, file_with_bodies}
use Rattle.program_rules.specs.Files.{Held, HasScript, HasTree, has_one_place, found_name, with_found_names}
use Rattle.program_rules.specs.Includes.{includes_of_file, Reads, included, Writes, Asks, to_read, first}
use Rattle.program_rules.specs.Programs.{ReadFile}
use Rattle.program_rules.proofs.PathLemmas.{paths_of_file, same_file}
use Rattle.program_files.specs.Order.{is_read, names_of, Reached}
use Rattle.program_files.specs.Source.{SourceCall, so_many_more}
use Rattle.program_files.specs.Causes.{IsReading, IsSettled, HasSettledTree, ReadsAll}
use Rattle.program_files.specs.Steps.{State, state, is_among, WasAsked, placed, placed_or_same, placed_include, placed_file}
use Rattle.program_files.proofs.NameLemmas.{tree_there}
use Rattle.program_files.proofs.ReachedLemmas.{files_read}
use Rattle.program_files.proofs.Utf8Paths.{in_file}
use Rattle.program_files.proofs.Among.{among_contains, contains_among, there_read, contains_map, contains_of_map, map_same}
use Rattle.program_files.proofs.HasRead.{found_file, found_files, found_paths, SameAsked, IsFound, IsPlace, HasRead, found_first, found_second, at_first, read_some, read_found}
use Rattle.program_files.proofs.Steps.{script_kept}

pub told_of : Told → Option (List ℕ)
told_of unasked = None
told_of untold = None
told_of (known file) = file

pub allows_it : (told : Told) → Allows told (told_of told)
unfolding told_of
allows_it unasked = tt
allows_it untold = tt
allows_it (known file) = refl

-- what a source held that answered so: its answers, and what it tells of all other names
pub at_last : Content → Held → State → Held
at_last content held s = record { main = held.main; bytes = λ path. if (is_read s.files path || is_among s.missed path) then held.bytes path else told_of (content path) }

last_main : (content : Content) (held : Held) (s : State) → (at_last content held s).main ≡ held.main
unfolding at_last
last_main content held s = refl

pub same_at_last : (content : Content) (held : Held) (s : State) → SameAsked held (at_last content held s) s
unfolding at_last
same_at_last content held s path asked = ap (λ (b : Bool). if b then held.bytes path else told_of (content path)) (by (is_read s.files path) (is_among s.missed path) asked)
  where
    by : (a b : Bool) → (a ≡ true) ⊎ (b ≡ true) → (a || b) ≡ true
    by true b e = refl
    by false b (inl e) = absurd (cc)
    by false b (inr e) = e

-- each name that was asked for was answered so
pub answered : (call : SourceCall) (root name : List ℕ) (s : State) (has : HasRead call root name s) (path : List ℕ) → WasAsked s.files s.missed path → Tells (call.content path) (has.held.bytes path)
answered call root name s has path (inl read) = let t = tree_there s.files path read in (has.scripts (record { name = path; tree = t.0 }) t.1).1
answered call root name s has path (inr missed) = let h = has.not_there path missed in subst (λ (o : Option (List ℕ)). Tells (call.content path) o) (sym h.1) h.0

pub agrees_at_last : (call : SourceCall) (root name : List ℕ) (s : State) (has : HasRead call root name s) (path : List ℕ) → Allows (call.content path) ((at_last call.content has.held s).bytes path)
unfolding at_last
agrees_at_last call root name s has path = by (is_read s.files path) (is_among s.missed path) refl refl
  where
    by : (a b : Bool) → is_read s.files path ≡ a → is_among s.missed path ≡ b → Allows (call.content path) (if (a || b) then has.held.bytes path else told_of (call.content path))
    by true b e f = tells_allow (call.content path) (has.held.bytes path) (answered call root name s has path (inl e))
    by false true e f = tells_allow (call.content path) (has.held.bytes path) (answered call root name s has path (inr f))
    by false false e f = allows_it (call.content path)

-- what the program asks for
pub place_asked : (held : Held) (name : List ℕ) (s : State) → Reached (HasTree held) name (found_files held s.files) (found_paths held s.includes) → ((f : ReadFile) → Contains s.files f → HasScript held f.name f.tree)
    → ((path : List ℕ) → is_among s.missed path ≡ true → held.bytes path ≡ None) → (path : List ℕ) → IsPlace held.main s path → Asks held name path
unfolding found_file
place_asked held name s reached scripts gone path p =
    let f = files_read held name (found_files held s.files) (found_paths held s.includes) reached (found_file held p.file) (contains_map (found_file held) s.files p.file p.there) in
    let writes : Writes held p.file.name p.written = (p.file.tree, scripts p.file p.there, p.own) in
    elim p.place [
      | inl place ↦ subst (λ (x : List ℕ). Asks held name x) (sym place) (first p.file.name p.written f.0 writes)
      | inr (two, miss, place) ↦ (
          let named : found_name held p.file.name p.written ≡ path = found_second held p.file.name p.written two (gone (beside held.main p.written) miss) ∙ sym place in
          let paths : includes_of_file (with_found_names held p.file.name p.file.tree) ≡ map (found_name held p.file.name) (includes_of_file p.file.tree) = paths_of_file (found_name held p.file.name) p.file.tree in
          let own : Contains (map (found_name held p.file.name) (includes_of_file p.file.tree)) (found_name held p.file.name p.written) = contains_map (found_name held p.file.name) (includes_of_file p.file.tree) p.written p.own in
          let is : Reads held name (found_name held p.file.name p.written) =
          included p.file.name (found_name held p.file.name p.written) (with_found_names held p.file.name p.file.tree) f.0 f.1 (subst (λ (xs : List (List ℕ)). Contains xs (found_name held p.file.name p.written)) (sym paths) own) in
          to_read path (subst (λ (x : List ℕ). Reads held name x) named is)
          )
    ]

-- the source that answered so
abbrev pub last_of : (call : SourceCall) (root name : List ℕ) (s : State) → HasRead call root name s → Held
last_of call root name s has = at_last call.content has.held s

pub last_script : (call : SourceCall) (root name : List ℕ) (s : State) (has : HasRead call root name s) (f : ReadFile) → Contains s.files f → HasScript (last_of call root name s has) f.name f.tree
last_script call root name s has f c = script_kept has.held (last_of call root name s has) f.name f.tree (same_at_last call.content has.held s f.name (inl (there_read s.files f c))) (has.scripts f c).0

pub last_gone : (call : SourceCall) (root name : List ℕ) (s : State) (has : HasRead call root name s) (path : List ℕ) → is_among s.missed path ≡ true → (last_of call root name s has).bytes path ≡ None
last_gone call root name s has path e = same_at_last call.content has.held s path (inr e) ∙ (has.not_there path e).1

pub last_some : (call : SourceCall) (root name : List ℕ) (s : State) (has : HasRead call root name s) (path : List ℕ) → is_read s.files path ≡ true → is_some ((last_of call root name s has).bytes path) ≡ true
last_some call root name s has path e = ap (λ (o : Option (List ℕ)). is_some o) (same_at_last call.content has.held s path (inl e)) ∙ read_some call root name s has path e

pub last_is : (call : SourceCall) (root name : List ℕ) (s : State) (has : HasRead call root name s) → (last_of call root name s has).main ≡ has.held.main
last_is call root name s has = last_main call.content has.held s

unfoldable pub reading_of : (call : SourceCall) (root name : List ℕ) (s : State) (has : HasRead call root name s) → IsReading call.content name (found_files (last_of call root name s has) s.files) s.missed (found_paths (last_of call root name s has) s.includes)
reading_of call root name s has =
    let held : Held = last_of call root name s has in
    let main : held.main ≡ has.held.main = last_is call root name s has in
    let reached : Reached (HasTree held) (normal name) (found_files held s.files) (found_paths held s.includes) = has.reached held main (same_at_last call.content has.held s) in
    record {
      held = held;
      main = main ∙ has.main;
      agrees = agrees_at_last call root name s has;
      reached = reached;
      answered = λ path e. (
          let read : is_read s.files path ≡ true = sym (read_found held s.files path) ∙ e in
          subst (λ (o : Option (List ℕ)). Tells (call.content path) o) (sym (same_at_last call.content has.held s path (inl read))) (answered call root name s has path (inl read))
          );
      not_there = λ path c. (
          let miss : is_among s.missed path ≡ true = contains_among s.missed path c in
          let h = has.not_there path miss in
          (h.0, last_gone call root name s has path miss, place_asked held (normal name) s reached (last_script call root name s has) (last_gone call root name s has) path (subst (λ (m : List ℕ). IsPlace m s path) (sym main) h.2))
          );
      once = has.once;
    }

-- by the names that were read an include is found as by what was held
placed_first : (names : List (List ℕ)) (main file written : List ℕ) → is_among names (beside main written) ≡ true → placed names main file written ≡ beside main written
unfolding placed
placed_first names main file written e = ap (λ (b : Bool). if b then beside main written else beside file written) (right (has_one_place written) (is_among names (beside main written)) e)
  where
    right : (a b : Bool) → b ≡ true → (a || b) ≡ true
    right true b e = refl
    right false b e = e

placed_second : (names : List (List ℕ)) (main file written : List ℕ) → has_one_place written ≡ false → is_among names (beside main written) ≡ false → placed names main file written ≡ beside file written
unfolding placed
placed_second names main file written two e = ap (λ (b : Bool). if b then beside main written else beside file written) (neither (has_one_place written) (is_among names (beside main written)) two e)
  where
    neither : (a b : Bool) → a ≡ false → b ≡ false → (a || b) ≡ false
    neither true b e f = absurd (cc)
    neither false b e f = f

missed_unread : (call : SourceCall) (root name : List ℕ) (s : State) (has : HasRead call root name s) (path : List ℕ) → is_among s.missed path ≡ true → is_read s.files path ≡ false
missed_unread call root name s has path miss = by (is_read s.files path) refl
  where
    by : (b : Bool) → is_read s.files path ≡ b → is_read s.files path ≡ false
    by true e = absurd (let a = read_some call root name s has path e in let d = ap (λ (o : Option (List ℕ)). is_some o) (has.not_there path miss).1 in let no : true ≡ false = sym a ∙ d in cc)
    by false e = e

placed_found : (call : SourceCall) (root name : List ℕ) (s : State) (has : HasRead call root name s) (file written : List ℕ) → IsFound root (last_of call root name s has).main s (file, written)
    → placed (names_of s.files) (last_of call root name s has).main file written ≡ found_name (last_of call root name s has) file written
placed_found call root name s has file written (inl ((inside, read), last)) =
    let held : Held = last_of call root name s has in
    placed_first (names_of s.files) held.main file written read ∙ sym (found_first held file written (last_some call root name s has (beside held.main written) read))
placed_found call root name s has file written (inr ((inside, miss), two, (inside_second, read))) =
    let held : Held = last_of call root name s has in
    placed_second (names_of s.files) held.main file written two (missed_unread call root name s has (beside held.main written) miss) ∙ sym (found_second held file written two (last_gone call root name s has (beside held.main written) miss))

-- an include of a file is found, where none is left
is_found : (call : SourceCall) (root name : List ℕ) (files : List ReadFile) (missed : List (List ℕ)) (has : HasRead call root name (state files missed [])) (f : ReadFile) (written : List ℕ) → Contains files f
    → Contains (includes_of_file f.tree) written → IsFound root (last_of call root name (state files missed []) has).main (state files missed []) (f.name, written)
is_found call root name files missed has f written c own = elim (has.settled f written c own) [
  | inl waits ↦ absurd (let h = waits.1 in omega arith)
  | inr found ↦ subst (λ (m : List ℕ). IsFound root m (state files missed []) (f.name, written)) (sym (last_is call root name (state files missed []) has)) found
]

placed_so : (call : SourceCall) (root name : List ℕ) (files : List ReadFile) (missed : List (List ℕ)) (has : HasRead call root name (state files missed [])) (f : ReadFile) (written : List ℕ) → Contains files f
    → Contains (includes_of_file f.tree) written → placed_or_same (names_of files) (last_of call root name (state files missed []) has).main f.name written ≡ found_name (last_of call root name (state files missed []) has) f.name written
unfolding placed_or_same
placed_so call root name files missed has f written c own =
    let s : State = state files missed [] in
    let held : Held = last_of call root name s has in
    let text : is_utf8 written ≡ true = in_file f.tree written (has.scripts f c).0.spelled.fits own in
    ap (λ (b : Bool). if b then placed (names_of files) held.main f.name written else written) text ∙ placed_found call root name s has f.name written (is_found call root name files missed has f written c own)

placed_files : (call : SourceCall) (root name : List ℕ) (files : List ReadFile) (missed : List (List ℕ)) (has : HasRead call root name (state files missed []))
    → map (placed_file (names_of files) (last_of call root name (state files missed []) has).main) files ≡ found_files (last_of call root name (state files missed []) has) files
unfolding found_file
placed_files call root name files missed has =
    let held : Held = last_of call root name (state files missed []) has in
    map_same (placed_file (names_of files) held.main) (found_file held) files λ f c.
    let tree : file_with_bodies (placed_include (names_of files) held.main f.name) f.tree ≡ with_found_names held f.name f.tree =
    same_file (placed_include (names_of files) held.main f.name) (λ written. include_of (found_name held f.name written)) f.tree (λ written own. ap include_of (placed_so call root name files missed has f written c own)) in
    ap (λ (t : PlainFile). let g : ReadFile = record { name = f.name; tree = t } in g) tree

-- so its include is settled
settled_so : (call : SourceCall) (root name : List ℕ) (s : State) (has : HasRead call root name s) (file written : List ℕ) → IsFound root (last_of call root name s has).main s (file, written)
    → IsSettled root (last_of call root name s has) (found_files (last_of call root name s has) s.files) s.missed file written
settled_so call root name s has file written (inl ((inside, read), last)) =
    let held : Held = last_of call root name s has in record {
      inside = record { first = inside; second = λ no. absurd (let yes = at_first held written (last_some call root name s has (beside held.main written) read) in let false_is : true ≡ false = sym yes ∙ no in cc) };
      asked = inl (read_found held s.files (beside held.main written) ∙ read);
    }
settled_so call root name s has file written (inr ((inside, miss), two, (inside_second, read))) =
    let held : Held = last_of call root name s has in record { inside = record { first = inside; second = λ no. inside_second }; asked = inr (among_contains s.missed (beside held.main written) miss) }

-- and all files are read
all_found : (call : SourceCall) (root name : List ℕ) (files : List ReadFile) (missed : List (List ℕ)) (has : HasRead call root name (state files missed [])) → length missed ≤ PLACE_LIMIT → ReadsAll call root name (found_files (last_of call root name (state files missed []) has) files)
unfolding found_file reading_of
all_found call root name files missed has few_missed =
    let s : State = state files missed [] in
    let held : Held = last_of call root name s has in
    let size : length (found_files held files) ≡ length files = length-map files (found_file held) in record {
      missed = missed;
      reading = reading_of call root name s has;
      settled = λ file c. (
          let m = contains_of_map (found_file held) files file c in
          subst (λ (g : ReadFile). HasSettledTree root held (found_files held files) missed g) m.2 (record {
            tree = record { script = m.0.tree; has_script = last_script call root name s has m.0 m.1; found = refl };
            settled = λ written own. settled_so call root name s has m.0.name written (is_found call root name files missed has m.0 written m.1 own);
          })
          );
      few = (let few = has.few in omega (arith, size, few));
      few_missed = few_missed;
      counted = has.counted ∙ ap (λ n. so_many_more (n + length missed) call.reads) (sym size);
      unfailed = has.unfailed;
      misses = has.misses;
    }

pub all_read : (call : SourceCall) (root name main : List ℕ) (files : List ReadFile) (missed : List (List ℕ)) → main ≡ normal name → HasRead call root name (state files missed []) → length missed ≤ PLACE_LIMIT
    → ReadsAll call root name (map (placed_file (names_of files) main) files)
all_read call root name main files missed is has few =
    let held : Held = last_of call root name (state files missed []) has in
    let same : held.main ≡ main = last_is call root name (state files missed []) has ∙ has.main ∙ sym is in
    subst (λ (m : List ℕ). ReadsAll call root name (map (placed_file (names_of files) m) files)) same
    (subst (λ (fs : List ReadFile). ReadsAll call root name fs) (sym (placed_files call root name files missed has)) (all_found call root name files missed has few))
