-- The place of a file by its name.
use Rattle.std.proofs.Common.{◌≡◌, ◌∙◌, ◌<◌, ◌+◌, ℕ, zero, suc, Bool, true, false, if◌then◌else◌, cond, List, [], ◌∷◌, length, Option, Some, None, option_map, slice_get, get_or, refl, sym, ap, arith}
use Rattle.std.specs.Prelude.{◌||◌, not, nat_lt, bytes_eq}
use Rattle.std.specs.List.{list_any, position_or_len}
use Rattle.std.specs.Cmp.Lexicographic.{bytes_decides}
use Rattle.std.proofs.lemmas.Option.{same_Some, slice_get-map, slice_get-get_or, slice_get_within}
use Rattle.std.proofs.lemmas.List.Quantifiers.{position-Some}
use Rattle.program_rules.specs.Programs.{ReadFile}
use Rattle.program_files.specs.Order.{names_of, is_read, place_of}
use Rattle.include_expansion.specs.Within.{tree_named}

first_within : {X : Type 0} (p : X → Bool) (xs : List X) → list_any p xs ≡ true → position_or_len p xs < length xs
first_within p [] e = absurd (cc)
first_within p (x ∷ xs) e = here (p x) (first_within p xs) e
  where
    here : (b : Bool) → (list_any p xs ≡ true → position_or_len p xs < length xs) → (b || list_any p xs) ≡ true → cond (not b) (1 + position_or_len p xs) 0 < suc (length xs)
    here true rest e = omega arith
    here false rest e = let h = rest e in omega arith

found_at : (test : Bool) (i : ℕ) → test ≡ true → cond test (Some i) None ≡ Some i
found_at true i e = refl
found_at false i e = absurd (cc)

first_of : (test : Bool) (i j : ℕ) → cond test (Some i) None ≡ Some j → j ≡ i
first_of true i j e = sym (same_Some i j e)
first_of false i j e = absurd (cc)

is_less : (a b : ℕ) → a < b → nat_lt a b ≡ true
is_less a b h = grind arith

-- a file that is read has a place
pub place_there : (files : List ReadFile) (path : List ℕ) → is_read files path ≡ true → (place : ℕ) × (place_of files path ≡ Some place)
place_there files path e =
    let first = position_or_len (bytes_eq path) (names_of files) in
    let less : first < length (names_of files) = first_within (bytes_eq path) (names_of files) e in
    (first, found_at (nat_lt first (length (names_of files))) first (is_less first (length (names_of files)) less))

file_named : (found : Option ReadFile) (name : List ℕ) → Some name ≡ option_map (λ (file : ReadFile). file.name) found → (file : ReadFile) × (found ≡ Some file) × (name ≡ file.name)
file_named None name e = absurd (cc)
file_named (Some file) name e = (file, refl, same_Some name file.name e)

-- at its place stands the file of that name
pub file_there : (files : List ReadFile) (path : List ℕ) (place : ℕ) → place_of files path ≡ Some place → (file : ReadFile) × (slice_get files place ≡ Some file) × (path ≡ file.name)
file_there files path place e =
    let at = position-Some (bytes_eq path) (names_of files) place [] e in
    let same : path ≡ get_or (names_of files) place [] = (bytes_decides path (get_or (names_of files) place [])).0 at.1 in
    let here = file_named (slice_get files place) (get_or (names_of files) place []) (sym (slice_get-get_or (names_of files) place [] at.0) ∙ slice_get-map (λ (file : ReadFile). file.name) files place) in
    (here.0, here.1, same ∙ here.2)

pub place_within : (files : List ReadFile) (path : List ℕ) (place : ℕ) → place_of files path ≡ Some place → place < length files
place_within files path place e = let here = file_there files path place e in slice_get_within files place here.0 here.1

tree_at : (files : List ReadFile) (path : List ℕ) (file : ReadFile) (i : ℕ) → i ≡ position_or_len (bytes_eq path) (names_of files) → slice_get files i ≡ Some file → tree_named files path ≡ file.tree
unfolding tree_named
tree_at [] path file i e is = absurd (cc)
tree_at (f ∷ fs) path file i e is = by (bytes_eq path f.name) i e is (λ j. tree_at fs path file j)
  where
    by : (b : Bool) (i : ℕ) → i ≡ cond (not b) (1 + position_or_len (bytes_eq path) (names_of fs)) 0 → slice_get (f ∷ fs) i ≡ Some file
        → ((j : ℕ) → j ≡ position_or_len (bytes_eq path) (names_of fs) → slice_get fs j ≡ Some file → tree_named fs path ≡ file.tree) → (if b then f.tree else tree_named fs path) ≡ file.tree
    by true zero e is rest = ap (λ (g : ReadFile). g.tree) (same_Some f file is)
    by true (suc i) e is rest = absurd (omega arith)
    by false zero e is rest = absurd (omega arith)
    by false (suc i) e is rest = rest i (omega arith) is

-- and its tree is that of the name
pub tree_there : (files : List ReadFile) (path : List ℕ) (place : ℕ) (file : ReadFile) → place_of files path ≡ Some place → slice_get files place ≡ Some file → tree_named files path ≡ file.tree
tree_there files path place file e is = tree_at files path file place (first_of (nat_lt (position_or_len (bytes_eq path) (names_of files)) (length (names_of files))) (position_or_len (bytes_eq path) (names_of files)) place e) is

-- a name at a place is read
pub read_here : (files : List ReadFile) (place : ℕ) (file : ReadFile) → slice_get files place ≡ Some file → is_read files file.name ≡ true
read_here [] place file e = absurd (cc)
read_here (f ∷ fs) zero file e = ap (λ (x : List ℕ). bytes_eq file.name x || is_read fs file.name) (ap (λ (g : ReadFile). g.name) (same_Some f file e)) ∙ ap (λ (b : Bool). b || is_read fs file.name) ((bytes_decides file.name file.name).1 refl)
read_here (f ∷ fs) (suc k) file e = by (bytes_eq file.name f.name) (is_read fs file.name) (read_here fs k file e)
  where
    by : (a b : Bool) → b ≡ true → (a || b) ≡ true
    by true b h = refl
    by false b h = h
