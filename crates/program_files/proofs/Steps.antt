-- How reading goes on: an include is passed over, a file is read, a name is missed.
use Rattle.std.proofs.Common.{◌≡◌, ◌∙◌, ℕ, zero, suc, Bool, true, false, List, [], ◌∷◌, ◌++◌, map, Option, None, inl, inr, refl, sym, ap, subst, arith}
use Rattle.std.specs.Prelude.{◌⊎◌, is_some, if◌then◌else◌, bytes_eq}
use Rattle.std.specs.List.{Contains}
use Rattle.std.proofs.lemmas.List.Elements.{Contains-append_left, Contains-append_right}
use Rattle.io_edge.specs.Names.{normal, beside}
use Rattle.php_syntax.specs.Trees.{PlainFile}
use Rattle.program_rules.specs.Files.{Held, HasScript, found_name, with_found_names}
use Rattle.program_rules.specs.Includes.{includes_of_file}
use Rattle.program_rules.specs.Programs.{ReadFile}
use Rattle.program_rules.proofs.PathLemmas.{paths_of_file}
use Rattle.program_files.specs.declared.places.Look.TheVariants as look
use Rattle.program_files.specs.Order.{is_read, again}
use Rattle.program_files.specs.Source.{SourceCall}
use Rattle.program_files.specs.Steps.{Include, State, state, written_in, is_among, WasAsked, IsLook, IsNextPlace, Passes, stay, pass}
use Rattle.program_files.proofs.NameLemmas.{same_name, own_name, still_read, now_read}
use Rattle.program_files.proofs.Among.{still_among}
use Rattle.program_files.proofs.HasRead.{found_file, found_files, found_paths, SameAsked, IsFound, IsPlace, HasRead, found_first, found_second, read_found, found_is_read}

pub later : {X : Type 0} (x y : X) (xs : List X) → Contains xs y → Contains (x ∷ xs) y
later x y xs c = Contains-append_right (x ∷ []) xs y c

-- an include that is found is passed over
pass_one : (call : SourceCall) (root name : List ℕ) (files : List ReadFile) (missed : List (List ℕ)) (include : Include) (rest : List Include) → (has : HasRead call root name (state files missed (include ∷ rest)))
    → IsFound root has.held.main (state files missed (include ∷ rest)) include → HasRead call root name (state files missed rest)
pass_one call root name files missed include rest has found = record {
  held = has.held;
  main = has.main;
  scripts = has.scripts;
  not_there = λ path e. (let h = has.not_there path e in (h.0, h.1, record { file = h.2.file; written = h.2.written; there = h.2.there; own = h.2.own; place = h.2.place }));
  reached = λ other m same. again (found_files other files) (found_name other include.0 include.1) (found_paths other rest) (has.reached other m same)
      (read_found other files (found_name other include.0 include.1) ∙ found_is_read call root name (state files missed (include ∷ rest)) has include found other m same);
  once = has.once;
  named = λ i c. has.named i (later include i rest c);
  settled = λ f written c own. elim (has.settled f written c own) [
    | inl waits ↦ elim (split include (f.name, written) rest waits) [
      | inl same ↦ inr (subst (λ (i : Include). IsFound root has.held.main (state files missed rest) i) same found)
      | inr behind ↦ inl behind
    ]
    | inr done ↦ inr done
  ];
  texts = has.texts;
  counted = has.counted;
  few = has.few;
  unfailed = has.unfailed;
  misses = has.misses;
}
  where
    split : (x y : Include) (xs : List Include) → Contains (x ∷ xs) y → (x ≡ y) ⊎ Contains xs y
    split x y xs (zero, lt, is) = inl is
    split x y xs (suc k, lt, is) = inr (k, omega (arith, lt), is)

pub passed : (call : SourceCall) (root name main : List ℕ) (files : List ReadFile) (missed : List (List ℕ)) (all rest : List Include) → main ≡ normal name → HasRead call root name (state files missed all)
    → Passes root main files missed all rest → HasRead call root name (state files missed rest)
passed call root name main files missed all rest is has stay = has
passed call root name main files missed all rest is has (pass include _ before found) =
    let h = passed call root name main files missed all (include ∷ rest) is has before in
    pass_one call root name files missed include rest h (subst (λ (m : List ℕ). IsLook root m files missed include look.Found) (is ∙ sym h.main) found)

-- with one more answer
pub with_answer : Held → List ℕ → Option (List ℕ) → Held
with_answer held path answer = record { main = held.main; bytes = λ other. if bytes_eq path other then answer else held.bytes other }

pub same_main : (held : Held) (path : List ℕ) (answer : Option (List ℕ)) → (with_answer held path answer).main ≡ held.main
unfolding with_answer
same_main held path answer = refl

pub at_path : (held : Held) (path : List ℕ) (answer : Option (List ℕ)) → (with_answer held path answer).bytes path ≡ answer
unfolding with_answer
at_path held path answer = ap (λ (b : Bool). if b then answer else held.bytes path) (own_name path)

pub at_other : (held : Held) (path other : List ℕ) (answer : Option (List ℕ)) → bytes_eq path other ≡ false → (with_answer held path answer).bytes other ≡ held.bytes other
unfolding with_answer
at_other held path other answer e = ap (λ (b : Bool). if b then answer else held.bytes other) e

-- a name that was asked for is another than one that was not
differs : (test : List ℕ → Bool) (path other : List ℕ) → test path ≡ false → test other ≡ true → bytes_eq path other ≡ false
differs test path other new old = by (bytes_eq path other) refl
  where
    by : (b : Bool) → bytes_eq path other ≡ b → bytes_eq path other ≡ false
    by true e = absurd (let same : test path ≡ test other = ap test (same_name path other e) in let no : false ≡ true = sym new ∙ same ∙ old in cc)
    by false e = e

-- so what was held under it stays
pub kept : (held : Held) (files : List ReadFile) (missed : List (List ℕ)) (path other : List ℕ) (answer : Option (List ℕ)) → is_read files path ≡ false → is_among missed path ≡ false → WasAsked files missed other
    → (with_answer held path answer).bytes other ≡ held.bytes other
kept held files missed path other answer unread unmissed (inl read) = at_other held path other answer (differs (is_read files) path other unread read)
kept held files missed path other answer unread unmissed (inr miss) = at_other held path other answer (differs (is_among missed) path other unmissed miss)

pub script_kept : (held other : Held) (name : List ℕ) (script : PlainFile) → other.bytes name ≡ held.bytes name → HasScript held name script → HasScript other name script
script_kept held other name script same h = record { bytes = h.bytes; tokens = h.tokens; is_held = same ∙ h.is_held; cut = h.cut; spelled = h.spelled; within = h.within }

-- what is found stays so where more is asked for
pub found_with_file : (root main : List ℕ) (files : List ReadFile) (file : ReadFile) (missed : List (List ℕ)) (i : Include) → IsLook root main files missed i look.Found → IsLook root main (files ++ file ∷ []) missed i look.Found
found_with_file root main files file missed i (inl ((inside, read), last)) = inl ((inside, still_read files file (beside main i.1) read), last)
found_with_file root main files file missed i (inr (first, two, (inside, read))) = inr (first, two, (inside, still_read files file (beside i.0 i.1) read))

pub found_with_miss : (root main : List ℕ) (files : List ReadFile) (missed : List (List ℕ)) (path : List ℕ) (i : Include) → IsLook root main files missed i look.Found → IsLook root main files (missed ++ path ∷ []) i look.Found
found_with_miss root main files missed path i (inl first) = inl first
found_with_miss root main files missed path i (inr ((inside, miss), two, rest)) = inr ((inside, still_among missed path (beside main i.1) miss), two, rest)

-- the include whose place is read is found
pub now_found : (root main : List ℕ) (files : List ReadFile) (missed : List (List ℕ)) (i : Include) (path : List ℕ) (tree : PlainFile) → IsNextPlace root main files missed i path
    → IsLook root main (files ++ record { name = path; tree = tree } ∷ []) missed i look.Found
now_found root main files missed i path tree (inl ((inside, unread, unmissed, place), last)) =
    inl ((inside, ap (λ (x : List ℕ). is_read (files ++ record { name = path; tree = tree } ∷ []) x) (sym place) ∙ now_read files tree path), last)
now_found root main files missed i path tree (inr (first, two, (inside, unread, unmissed, place))) =
    inr (first, two, (inside, ap (λ (x : List ℕ). is_read (files ++ record { name = path; tree = tree } ∷ []) x) (sym place) ∙ now_read files tree path))

-- the includes of a file, by their found names
pub found_of_file : (held : Held) (path : List ℕ) (tree : PlainFile) → includes_of_file (with_found_names held path tree) ≡ found_paths held (written_in path tree)
found_of_file held path tree = paths_of_file (found_name held path) tree ∙ sym (twice (includes_of_file tree))
  where
    twice : (ws : List (List ℕ)) → map (λ (i : Include). found_name held i.0 i.1) (map (λ (w : List ℕ). (path, w)) ws) ≡ map (found_name held path) ws
    twice [] = refl
    twice (w ∷ ws) = ap (λ (xs : List (List ℕ)). found_name held path w ∷ xs) (twice ws)

pub found_push : (held : Held) (files : List ReadFile) (path : List ℕ) (tree : PlainFile) → found_files held (files ++ record { name = path; tree = tree } ∷ []) ≡ found_files held files ++ record { name = path; tree = with_found_names held path tree } ∷ []
unfolding found_file
found_push held [] path tree = refl
found_push held (f ∷ fs) path tree = ap (λ (xs : List ReadFile). found_file held f ∷ xs) (found_push held fs path tree)

-- which name an include has whose place is asked for, where a file is there
pub named_so : (call : SourceCall) (root name : List ℕ) (s : State) (has : HasRead call root name s) (i : Include) (path : List ℕ) → IsNextPlace root has.held.main s.files s.missed i path
    → (other : Held) → other.main ≡ has.held.main → SameAsked has.held other s → is_some (other.bytes path) ≡ true → found_name other i.0 i.1 ≡ path
named_so call root name s has i path (inl ((inside, unread, unmissed, place), last)) other m same there =
    let first : beside other.main i.1 ≡ path = ap (λ (x : List ℕ). beside x i.1) m ∙ sym place in
    found_first other i.0 i.1 (ap (λ (x : List ℕ). is_some (other.bytes x)) first ∙ there) ∙ first
named_so call root name s has i path (inr ((inside, miss), two, (inside_second, unread, unmissed, place))) other m same there =
    let gone : other.bytes (beside other.main i.1) ≡ None =
    ap (λ (x : List ℕ). other.bytes (beside x i.1)) m ∙ same (beside has.held.main i.1) (inr miss) ∙ (has.not_there (beside has.held.main i.1) miss).1 in
    found_second other i.0 i.1 two gone ∙ sym place

pub place_with_file : (main : List ℕ) (files : List ReadFile) (file : ReadFile) (missed : List (List ℕ)) (a b : List Include) (path : List ℕ) → IsPlace main (state files missed a) path → IsPlace main (state (files ++ file ∷ []) missed b) path
place_with_file main files file missed a b path p = record { file = p.file; written = p.written; there = Contains-append_left files (file ∷ []) p.file p.there; own = p.own; place = p.place }

pub place_with_miss : (main : List ℕ) (files : List ReadFile) (missed : List (List ℕ)) (miss : List ℕ) (a b : List Include) (path : List ℕ) → IsPlace main (state files missed a) path → IsPlace main (state files (missed ++ miss ∷ []) b) path
place_with_miss main files missed miss a b path p = record {
  file = p.file;
  written = p.written;
  there = p.there;
  own = p.own;
  place = elim p.place [
    | inl first ↦ inl first
    | inr (two, gone, second) ↦ inr (two, still_among missed miss (beside main p.written) gone, second)
  ];
}
