-- Names among files that are read.
use Rattle.std.proofs.Common.{◌≡◌, ◌∙◌, ℕ, zero, suc, Bool, true, false, List, [], ◌∷◌, ◌++◌, Some, slice_get, inl, inr, refl, sym, ap, subst, arith}
use Rattle.std.specs.Prelude.{◌⊎◌, ◌||◌, bytes_eq}
use Rattle.std.specs.List.{Contains}
use Rattle.std.specs.Cmp.Lexicographic.{bytes_decides}
use Rattle.std.proofs.lemmas.List.Elements.{Contains-append_right}
use Rattle.std.proofs.lemmas.Option.{same_Some}
use Rattle.php_syntax.specs.Trees.{PlainFile}
use Rattle.program_rules.specs.Programs.{ReadFile}
use Rattle.program_files.specs.Order.{is_read}

pub same_name : (x y : List ℕ) → bytes_eq x y ≡ true → x ≡ y
same_name x y e = (bytes_decides x y).0 e

pub own_name : (x : List ℕ) → bytes_eq x x ≡ true
own_name x = (bytes_decides x x).1 refl

either_assoc : (a b : Bool) → ((a || b) ≡ true) → (a ≡ true) ⊎ (b ≡ true)
either_assoc true b e = inl refl
either_assoc false b e = inr e

regroup : (a b c : Bool) → (a || (b || c)) ≡ ((a || b) || c)
regroup true b c = refl
regroup false b c = refl

pub read_push : (files : List ReadFile) (file : ReadFile) (path : List ℕ) → is_read (files ++ file ∷ []) path ≡ (is_read files path || bytes_eq path file.name)
read_push [] file path = last (bytes_eq path file.name)
  where
    last : (b : Bool) → (b || false) ≡ (false || b)
    last true = refl
    last false = refl
read_push (f ∷ fs) file path = ap (λ (b : Bool). bytes_eq path f.name || b) (read_push fs file path) ∙ regroup (bytes_eq path f.name) (is_read fs path) (bytes_eq path file.name)

-- what is read stays so, and a file that is added is read
pub still_read : (files : List ReadFile) (file : ReadFile) (path : List ℕ) → is_read files path ≡ true → is_read (files ++ file ∷ []) path ≡ true
still_read files file path e = read_push files file path ∙ ap (λ (b : Bool). b || bytes_eq path file.name) e

pub now_read : (files : List ReadFile) (tree : PlainFile) (path : List ℕ) → is_read (files ++ record { name = path; tree = tree } ∷ []) path ≡ true
now_read files tree path = read_push files (record { name = path; tree = tree }) path ∙ by (is_read files path) (bytes_eq path path) (own_name path)
  where
    by : (a b : Bool) → b ≡ true → (a || b) ≡ true
    by true b e = refl
    by false b e = e

none : (a b : Bool) → (a || b) ≡ false → (a ≡ false) × (b ≡ false)
none true b e = absurd (cc)
none false b e = (refl, e)

-- a file that is not among more is not among fewer, nor is it the last
pub unread_push : (files : List ReadFile) (file : ReadFile) (path : List ℕ) → is_read (files ++ file ∷ []) path ≡ false → (is_read files path ≡ false) × (bytes_eq path file.name ≡ false)
unread_push files file path e = none (is_read files path) (bytes_eq path file.name) (sym (read_push files file path) ∙ e)

contains_first : {X : Type 0} (x : X) (xs : List X) → Contains (x ∷ xs) x
contains_first x xs = (0, omega arith, refl)

pub contains_later : {X : Type 0} (x y : X) (xs : List X) → Contains xs y → Contains (x ∷ xs) y
contains_later x y xs c = Contains-append_right (x ∷ []) xs y c

-- a file that is read is there with some tree
pub tree_there : (files : List ReadFile) (path : List ℕ) → is_read files path ≡ true → (tree : PlainFile) × Contains files (record { name = path; tree = tree })
tree_there [] path e = absurd (cc)
tree_there (f ∷ fs) path e = elim (either_assoc (bytes_eq path f.name) (is_read fs path) e) [
  | inl same ↦ (f.tree, subst (λ (x : List ℕ). Contains (f ∷ fs) (record { name = x; tree = f.tree })) (sym (same_name path f.name same)) (contains_first f fs))
  | inr later ↦ (let t = tree_there fs path later in (t.0, contains_later f (record { name = path; tree = t.0 }) fs t.1))
]

-- a name at a place is read
pub read_at : (files : List ReadFile) (k : ℕ) (file : ReadFile) → slice_get files k ≡ Some file → is_read files file.name ≡ true
read_at [] k file e = absurd (cc)
read_at (f ∷ fs) zero file e = ap (λ (x : List ℕ). bytes_eq file.name x || is_read fs file.name) (ap (λ (g : ReadFile). g.name) (same_Some f file e)) ∙ ap (λ (b : Bool). b || is_read fs file.name) (own_name file.name)
read_at (f ∷ fs) (suc k) file e = by (bytes_eq file.name f.name) (is_read fs file.name) (read_at fs k file e)
  where
    by : (a b : Bool) → b ≡ true → (a || b) ≡ true
    by true b h = refl
    by false b h = h
