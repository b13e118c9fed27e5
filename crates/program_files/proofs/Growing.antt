-- One file more is read, or one name more is missed.
use Rattle.std.proofs.Common.{◌≡◌, ◌∙◌, ◌<◌, ℕ, zero, suc, ◌+◌, true, false, List, [], ◌∷◌, ◌++◌, length, Option, Some, None, inl, inr, refl, sym, ap, subst, arith, length-append}
use Rattle.std.specs.Prelude.{◌⊎◌, is_some}
use Rattle.std.specs.List.{Contains}
use Rattle.std.proofs.lemmas.List.{map-append}
use Rattle.std.proofs.lemmas.List.Elements.{Contains-append_cases, Contains-push_cases, Contains-append_left, Contains-append_right}
use Rattle.io_edge.specs.Counts.{one_more, Rises}
use Rattle.io_edge.specs.Told.{Content, Tells}
use Rattle.io_edge.specs.Names.{normal, beside}
use Rattle.php_syntax.specs.Trees.{PlainFile}
use Rattle.script_grammar.specs.Rules.{is_utf8}
use Rattle.program_rules.specs.declared.limits.TheConstants.{PLACE_LIMIT}
use Rattle.program_rules.specs.Files.{Held, HasScript, HasTree, found_name, with_found_names}
use Rattle.program_rules.specs.Includes.{includes_of_file}
use Rattle.program_rules.specs.Programs.{ReadFile}
use Rattle.program_files.specs.Order.{is_read, Reached, next}
use Rattle.program_files.specs.Scripts.{IsScript}
use Rattle.program_files.specs.Source.{SourceCall, source_call, so_many_more, RisesBy}
use Rattle.program_files.specs.Steps.{Include, state, written_in, is_among, WasAsked, IsNextPlace}
use Rattle.program_files.proofs.NameLemmas.{now_read}
use Rattle.program_files.proofs.Among.{still_among, among_cases, read_cases, there_read, contains_map, contains_of_map, once_more}
use Rattle.program_files.proofs.NameLemmas.{still_read}
use Rattle.program_files.proofs.HasRead.{found_files, found_paths, SameAsked, IsFound, IsNamedIn, IsPlace, HasRead, read_found}
use Rattle.program_files.proofs.Steps.{later, with_answer, same_main, at_path, kept, script_kept, found_with_file, found_with_miss, now_found, found_of_file, found_push, named_so, place_with_file, place_with_miss}

-- what the program asks for stays asked for
asked_with_file : (files : List ReadFile) (file : ReadFile) (missed : List (List ℕ)) (path : List ℕ) → WasAsked files missed path → WasAsked (files ++ file ∷ []) missed path
asked_with_file files file missed path (inl read) = inl (still_read files file path read)
asked_with_file files file missed path (inr miss) = inr miss

asked_with_miss : (files : List ReadFile) (missed : List (List ℕ)) (miss path : List ℕ) → WasAsked files missed path → WasAsked files (missed ++ miss ∷ []) path
asked_with_miss files missed miss path (inl read) = inl read
asked_with_miss files missed miss path (inr old) = inr (still_among missed miss path old)

split : (x y : Include) (xs : List Include) → Contains (x ∷ xs) y → (x ≡ y) ⊎ Contains xs y
split x y xs (zero, lt, is) = inl is
split x y xs (suc k, lt, is) = inr (k, omega (arith, lt), is)

-- what an include is named by stands in a file
pub named_with_file : (files : List ReadFile) (path : List ℕ) (tree : PlainFile) (rest : List Include) → ((i : Include) → Contains rest i → IsNamedIn files i) → (i : Include) → Contains (written_in path tree ++ rest) i
    → IsNamedIn (files ++ record { name = path; tree = tree } ∷ []) i
named_with_file files path tree rest named i c = elim (Contains-append_cases (written_in path tree) rest i c) [
  | inl own ↦ (
      let w = contains_of_map (λ (written : List ℕ). (path, written)) (includes_of_file tree) i own in
      let file : ReadFile = record { name = path; tree = tree } in
      subst (λ (j : Include). IsNamedIn (files ++ file ∷ []) j) w.2 (file, Contains-append_right files (file ∷ []) file (0, omega arith, refl), refl, w.1)
      )
  | inr old ↦ (let n = named i old in (n.0, Contains-append_left files (record { name = path; tree = tree } ∷ []) n.0 n.1, n.2, n.3))
]

-- the files of a source that answered so are reached with one more
reached_more : (call : SourceCall) (root name : List ℕ) (files : List ReadFile) (missed : List (List ℕ)) (i : Include) (rest : List Include) (has : HasRead call root name (state files missed (i ∷ rest))) (path bytes : List ℕ) (tree : PlainFile)
    → IsNextPlace root has.held.main files missed i path → is_read files path ≡ false → IsScript bytes tree → (other : Held) → other.main ≡ has.held.main → SameAsked has.held other (state files missed (i ∷ rest)) → other.bytes path ≡ Some bytes
    → Reached (HasTree other) (normal name) (found_files other (files ++ record { name = path; tree = tree } ∷ [])) (found_paths other (written_in path tree ++ rest))
reached_more call root name files missed i rest has path bytes tree place unread script other m same is =
    let here : found_name other i.0 i.1 ≡ path = named_so call root name (state files missed (i ∷ rest)) has i path place other m same (ap (λ (o : Option (List ℕ)). is_some o) is) in
    let before : Reached (HasTree other) (normal name) (found_files other files) (path ∷ found_paths other rest) =
    subst (λ (x : List ℕ). Reached (HasTree other) (normal name) (found_files other files) (x ∷ found_paths other rest)) here (has.reached other m same) in
    let more = next (found_files other files) path (found_paths other rest) (with_found_names other path tree) before (read_found other files path ∙ unread)
    (record { script = tree; has_script = record { bytes = bytes; tokens = script.tokens; is_held = is; cut = script.cut; spelled = script.spelled; within = script.within }; found = refl }) in
    let all : includes_of_file (with_found_names other path tree) ++ found_paths other rest ≡ found_paths other (written_in path tree ++ rest) =
    ap (λ (xs : List (List ℕ)). xs ++ found_paths other rest) (found_of_file other path tree) ∙ sym (map-append (λ (j : Include). found_name other j.0 j.1) (written_in path tree) rest) in
    subst (λ (fs : List ReadFile). Reached (HasTree other) (normal name) fs (found_paths other (written_in path tree ++ rest))) (sym (found_push other files path tree))
    (subst (λ (ps : List (List ℕ)). Reached (HasTree other) (normal name) (found_files other files ++ record { name = path; tree = with_found_names other path tree } ∷ []) ps) all more)

-- the next place of an include is a place of it
place_of_next : (root main : List ℕ) (files : List ReadFile) (missed : List (List ℕ)) (i : Include) (rest : List Include) (path : List ℕ) → IsNamedIn files i → IsNextPlace root main files missed i path
    → IsPlace main (state files (missed ++ path ∷ []) (i ∷ rest)) path
place_of_next root main files missed i rest path named (inl ((inside, unread, unmissed, place), last)) =
    record { file = named.0; written = i.1; there = named.1; own = named.3; place = inl place }
place_of_next root main files missed i rest path named (inr ((inside, miss), two, (inside_second, unread, unmissed, place))) = record {
  file = named.0;
  written = i.1;
  there = named.1;
  own = named.3;
  place = inr (two, still_among missed path (beside main i.1) miss, place ∙ ap (λ (x : List ℕ). beside x i.1) (sym named.2));
}

-- a file more
pub file_more : (content : Content) (f f' f'' m m' m'' r r' r'' : ℕ) (root name : List ℕ) (files : List ReadFile) (missed : List (List ℕ)) (i : Include) (rest : List Include)
    → (has : HasRead (source_call content f f' m m' r r') root name (state files missed (i ∷ rest))) (path bytes : List ℕ) (tree : PlainFile) → IsNextPlace root has.held.main files missed i path → is_read files path ≡ false → is_among missed path ≡ false
    → is_utf8 path ≡ true → Tells (content path) (Some bytes) → IsScript bytes tree → length files < PLACE_LIMIT + 1 → r'' ≡ one_more r' → f'' ≡ f' → m'' ≡ m'
    → HasRead (source_call content f f'' m m'' r r'') root name (state (files ++ record { name = path; tree = tree } ∷ []) missed (written_in path tree ++ rest))
unfolding so_many_more
file_more content f f' f'' m m' m'' r r' r'' root name files missed i rest has path bytes tree place unread unmissed text told script few counted unfailed unmissed_count =
    let file : ReadFile = record { name = path; tree = tree } in
    let held' : Held = with_answer has.held path (Some bytes) in
    let keeps : (x : List ℕ) → WasAsked files missed x → held'.bytes x ≡ has.held.bytes x = λ x asked. kept has.held files missed path x (Some bytes) unread unmissed asked in
    let here : held'.bytes path ≡ Some bytes = at_path has.held path (Some bytes) in
    let size : length (files ++ file ∷ []) ≡ suc (length files) = length-append files (file ∷ []) ∙ (omega arith) in
    let sum : length (files ++ file ∷ []) + length missed ≡ suc (length files + length missed) = omega (arith, size) in
    let main : held'.main ≡ has.held.main = same_main has.held path (Some bytes) in
    record {
      held = held';
      main = main ∙ has.main;
      scripts = λ g c. elim (Contains-push_cases files file g c) [
        | inl old ↦ (
            let h = has.scripts g old in
            let same = keeps g.name (inl (there_read files g old)) in
            (script_kept has.held held' g.name g.tree same h.0, subst (λ (o : Option (List ℕ)). Tells (content g.name) o) (sym same) h.1)
            )
        | inr last ↦ subst (λ (x : ReadFile). HasScript held' x.name x.tree × Tells (content x.name) (held'.bytes x.name)) last
            (record { bytes = bytes; tokens = script.tokens; is_held = here; cut = script.cut; spelled = script.spelled; within = script.within }, subst (λ (o : Option (List ℕ)). Tells (content path) o) (sym here) told)
      ];
      not_there = λ x e. (
          let h = has.not_there x e in
          (h.0, keeps x (inr e) ∙ h.1, subst (λ (a : List ℕ). IsPlace a (state (files ++ file ∷ []) missed (written_in path tree ++ rest)) x) (sym main) (place_with_file has.held.main files file missed (i ∷ rest) (written_in path tree ++ rest) x h.2))
          );
      reached = λ other same_main_name same.
          let old : SameAsked has.held other (state files missed (i ∷ rest)) = λ x asked. same x (asked_with_file files file missed x asked) ∙ keeps x asked in
          reached_more (source_call content f f' m m' r r') root name files missed i rest has path bytes tree place unread script other (same_main_name ∙ main) old (same path (inl (now_read files tree path)) ∙ here);
      once = has.once;
      named = named_with_file files path tree rest (λ j c. has.named j (later i j rest c));
      settled = λ g written c own. subst (λ (a : List ℕ). Contains (written_in path tree ++ rest) (g.name, written) ⊎ IsFound root a (state (files ++ file ∷ []) missed (written_in path tree ++ rest)) (g.name, written)) (sym main)
          (elim (Contains-push_cases files file g c) [
            | inl old ↦ elim (has.settled g written old own) [
              | inl waits ↦ elim (split i (g.name, written) rest waits) [
                | inl same ↦ inr (subst (λ (j : Include). IsFound root has.held.main (state (files ++ file ∷ []) missed (written_in path tree ++ rest)) j) same (now_found root has.held.main files missed i path tree place))
                | inr behind ↦ inl (Contains-append_right (written_in path tree) rest (g.name, written) behind)
              ]
              | inr done ↦ inr (found_with_file root has.held.main files file missed (g.name, written) done)
            ]
            | inr last ↦ inl (subst (λ (x : ReadFile). Contains (includes_of_file x.tree) written → Contains (written_in path tree ++ rest) (x.name, written)) last
                (λ mine. Contains-append_left (written_in path tree) rest (path, written) (contains_map (λ (w : List ℕ). (path, w)) (includes_of_file tree) written mine)) own)
          ]);
      texts = λ x e. elim (read_cases files file x e) [ inl old ↦ has.texts x old | inr same ↦ ap is_utf8 same ∙ text ];
      counted = counted ∙ ap one_more has.counted ∙ ap (λ n. so_many_more n r) (sym sum);
      few = omega (arith, size, few);
      unfailed = unfailed ∙ has.unfailed;
      misses = subst (λ (n : ℕ). RisesBy (length missed) m n) (sym unmissed_count) has.misses;
    }

-- a name more that is missed
pub miss_more : (content : Content) (f f' f'' m m' m'' r r' r'' : ℕ) (root name : List ℕ) (files : List ReadFile) (missed : List (List ℕ)) (i : Include) (rest : List Include)
    → (has : HasRead (source_call content f f' m m' r r') root name (state files missed (i ∷ rest))) (path : List ℕ) → IsNextPlace root has.held.main files missed i path → is_read files path ≡ false → is_among missed path ≡ false
    → Tells (content path) None → r'' ≡ one_more r' → f'' ≡ f' → Rises m' m''
    → HasRead (source_call content f f'' m m'' r r'') root name (state files (missed ++ path ∷ []) (i ∷ rest))
unfolding so_many_more RisesBy
miss_more content f f' f'' m m' m'' r r' r'' root name files missed i rest has path place unread unmissed told counted unfailed rises =
    let held' : Held = with_answer has.held path None in
    let keeps : (x : List ℕ) → WasAsked files missed x → held'.bytes x ≡ has.held.bytes x = λ x asked. kept has.held files missed path x None unread unmissed asked in
    let here : held'.bytes path ≡ None = at_path has.held path None in
    let size : length (missed ++ path ∷ []) ≡ suc (length missed) = length-append missed (path ∷ []) ∙ (omega arith) in
    let sum : length files + length (missed ++ path ∷ []) ≡ suc (length files + length missed) = omega (arith, size) in
    let main : held'.main ≡ has.held.main = same_main has.held path None in
    record {
      held = held';
      main = main ∙ has.main;
      scripts = λ g c. (
          let h = has.scripts g c in
          let same = keeps g.name (inl (there_read files g c)) in
          (script_kept has.held held' g.name g.tree same h.0, subst (λ (o : Option (List ℕ)). Tells (content g.name) o) (sym same) h.1)
          );
      not_there = λ x e. subst (λ (a : List ℕ). Tells (content x) None × (held'.bytes x ≡ None) × IsPlace a (state files (missed ++ path ∷ []) (i ∷ rest)) x) (sym main)
          (elim (among_cases missed path x e) [
            | inl old ↦ (let h = has.not_there x old in (h.0, keeps x (inr old) ∙ h.1, place_with_miss has.held.main files missed path (i ∷ rest) (i ∷ rest) x h.2))
            | inr same ↦ subst (λ (y : List ℕ). Tells (content y) None × (held'.bytes y ≡ None) × IsPlace has.held.main (state files (missed ++ path ∷ []) (i ∷ rest)) y) (sym same)
                (told, here, place_of_next root has.held.main files missed i rest path (has.named i (0, omega arith, refl)) place)
          ]);
      reached = λ other same_main_name same. has.reached other (same_main_name ∙ main) (λ x asked. same x (asked_with_miss files missed path x asked) ∙ keeps x asked);
      once = once_more missed path has.once unmissed;
      named = has.named;
      settled = λ g written c own. subst (λ (a : List ℕ). Contains (i ∷ rest) (g.name, written) ⊎ IsFound root a (state files (missed ++ path ∷ []) (i ∷ rest)) (g.name, written)) (sym main)
          (elim (has.settled g written c own) [ inl waits ↦ inl waits | inr done ↦ inr (found_with_miss root has.held.main files missed path (g.name, written) done) ]);
      texts = has.texts;
      counted = counted ∙ ap one_more has.counted ∙ ap (λ n. so_many_more n r) (sym sum);
      few = has.few;
      unfailed = unfailed ∙ has.unfailed;
      misses = subst (λ (n : ℕ). RisesBy n m m'') (sym size) (m', has.misses, rises);
    }
