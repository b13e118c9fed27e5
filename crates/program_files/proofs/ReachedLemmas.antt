-- What is read while files are reached is read by the program.
use Rattle.std.proofs.Common.{◌≡◌, ℕ, zero, suc, List, [], ◌∷◌, inl, inr, refl, subst, arith}
use Rattle.std.specs.Prelude.{◌⊎◌}
use Rattle.std.specs.List.{Contains}
use Rattle.std.proofs.lemmas.List.Elements.{Contains-append_cases, Contains-push_cases}
use Rattle.program_rules.specs.Files.{Held, HasTree}
use Rattle.program_rules.specs.Includes.{Reads, itself, included, includes_of_file}
use Rattle.program_rules.specs.Programs.{ReadFile}
use Rattle.program_files.specs.Order.{Reached, begun, again, next}
use Rattle.program_files.proofs.NameLemmas.{contains_later}

pub first_or_later : (x y : List ℕ) (xs : List (List ℕ)) → Contains (x ∷ xs) y → (x ≡ y) ⊎ Contains xs y
first_or_later x y xs (zero, lt, is) = inl is
first_or_later x y xs (suc k, lt, is) = inr (k, omega arith, is)

pub no_member : {X : Type 0} (x : X) → Contains [] x → ⊥
no_member x c = let h = c.1 in omega arith

-- each name that is looked at is one that the program reads
pub paths_read : (held : Held) (name : List ℕ) (files : List ReadFile) (paths : List (List ℕ)) → Reached (HasTree held) name files paths → (path : List ℕ) → Contains paths path → Reads held name path
paths_read held name files paths begun path c = elim (first_or_later name path [] c) [ inl same ↦ subst (Reads held name) same itself | inr none ↦ absurd (no_member path none) ]
paths_read held name files paths (again _ x _ r read) path c = paths_read held name files (x ∷ paths) r path (contains_later x path paths c)
paths_read held name files paths (next fs x ps tree r unread has) path c = elim (Contains-append_cases (includes_of_file tree) ps path c) [
  | inl own ↦ included x path tree (paths_read held name fs (x ∷ ps) r x (0, omega arith, refl)) has own
  | inr later ↦ paths_read held name fs (x ∷ ps) r path (contains_later x path ps later)
]

-- and each file that is read, with its tree
pub files_read : (held : Held) (name : List ℕ) (files : List ReadFile) (paths : List (List ℕ)) → Reached (HasTree held) name files paths → (file : ReadFile) → Contains files file → Reads held name file.name × HasTree held file.name file.tree
files_read held name files paths begun file c = absurd (no_member file c)
files_read held name files paths (again _ x _ r read) file c = files_read held name files (x ∷ paths) r file c
files_read held name files paths (next fs x ps tree r unread has) file c = elim (Contains-push_cases fs (record { name = x; tree = tree }) file c) [
  | inl old ↦ files_read held name fs (x ∷ ps) r file old
  | inr same ↦
      let P : ReadFile → Type 0 = λ f. Reads held name f.name × HasTree held f.name f.tree in
      subst P same (paths_read held name fs (x ∷ ps) r x (0, omega arith, refl), has)
]
