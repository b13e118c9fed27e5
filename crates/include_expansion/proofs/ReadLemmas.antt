-- The files in the order of their includes are those that the program reads.
use Rattle.std.proofs.Common.{◌≡◌, ◌∙◌, ℕ, true, List, [], ◌∷◌, ◌++◌, Some, slice_get, inl, inr, refl, sym, ap, subst, arith, true≢false}
use Rattle.std.specs.Prelude.{◌⊎◌}
use Rattle.std.specs.List.{Contains}
use Rattle.std.proofs.lemmas.List.Elements.{Contains-push_cases, Contains-append_left, Contains-append_right}
use Rattle.php_syntax.specs.Trees.{PlainFile}
use Rattle.strong_components.proofs.OrderListLemmas.{push_cases}
use Rattle.program_rules.specs.Files.{Held, HasTree, HasOneTree}
use Rattle.program_rules.specs.Includes.{Reads, itself, included, includes_of_file}
use Rattle.program_rules.specs.Programs.{ReadFile, AreRead}
use Rattle.program_files.specs.Order.{is_read, Reached, begun, again, next}
use Rattle.program_files.proofs.NameLemmas.{still_read, now_read, tree_there, read_at}
use Rattle.program_files.proofs.ReachedLemmas.{first_or_later, no_member, files_read}

-- what a file includes is read, or is still to be looked at
closed : (held : Held) (name : List ℕ) (files : List ReadFile) (paths : List (List ℕ)) → Reached (HasTree held) name files paths → (file : ReadFile) → Contains files file → (path : List ℕ)
    → Contains (includes_of_file file.tree) path → (is_read files path ≡ true) ⊎ Contains paths path
closed held name files paths begun file c path own = absurd (no_member file c)
closed held name files paths (again _ x _ r read) file c path own = elim (closed held name files (x ∷ paths) r file c path own) [
  | inl known ↦ inl known
  | inr later ↦ elim (first_or_later x path paths later) [ inl same ↦ inl (subst (λ p. is_read files p ≡ true) same read) | inr rest ↦ inr rest ]
]
closed held name files paths (next fs x ps tree r unread has) file c path own = elim (Contains-push_cases fs (record { name = x; tree = tree }) file c) [
  | inl old ↦ elim (closed held name fs (x ∷ ps) r file old path own) [
    | inl known ↦ inl (still_read fs (record { name = x; tree = tree }) path known)
    | inr later ↦ elim (first_or_later x path ps later) [
      | inl same ↦ inl (subst (λ p. is_read (fs ++ record { name = x; tree = tree } ∷ []) p ≡ true) same (now_read fs tree x))
      | inr rest ↦ inr (Contains-append_right (includes_of_file tree) ps path rest)
    ]
  ]
  | inr same ↦
      let P : ReadFile → Type 0 = λ f. Contains (includes_of_file f.tree) path in
      inr (Contains-append_left (includes_of_file tree) ps path (subst P (sym same) own))
]

-- as is the name of the program
named : (held : Held) (name : List ℕ) (files : List ReadFile) (paths : List (List ℕ)) → Reached (HasTree held) name files paths → (is_read files name ≡ true) ⊎ Contains paths name
named held name files paths begun = inr (0, omega arith, refl)
named held name files paths (again _ x _ r read) = elim (named held name files (x ∷ paths) r) [
  | inl known ↦ inl known
  | inr later ↦ elim (first_or_later x name paths later) [ inl same ↦ inl (subst (λ p. is_read files p ≡ true) same read) | inr rest ↦ inr rest ]
]
named held name files paths (next fs x ps tree r unread has) = elim (named held name fs (x ∷ ps) r) [
  | inl known ↦ inl (still_read fs (record { name = x; tree = tree }) name known)
  | inr later ↦ elim (first_or_later x name ps later) [
    | inl same ↦ inl (subst (λ p. is_read (fs ++ record { name = x; tree = tree } ∷ []) p ≡ true) same (now_read fs tree x))
    | inr rest ↦ inr (Contains-append_right (includes_of_file tree) ps name rest)
  ]
]

-- each name that the program reads is read
all_read : (held : Held) (name : List ℕ) (files : List ReadFile) → HasOneTree held → Reached (HasTree held) name files [] → (path : List ℕ) → Reads held name path → is_read files path ≡ true
all_read held name files one r path itself = elim (named held name files [] r) [ inl known ↦ known | inr none ↦ absurd (no_member name none) ]
all_read held name files one r path (included file _ tree reads has own) =
    let there = tree_there files file (all_read held name files one r file reads) in
    let same = one file there.0 tree (files_read held name files [] r (record { name = file; tree = there.0 }) there.1).1 has in
    let P : PlainFile → Type 0 = λ t. Contains (includes_of_file t) path in
    elim (closed held name files [] r (record { name = file; tree = there.0 }) there.1 path (subst P (sym same) own)) [ inl known ↦ known | inr none ↦ absurd (no_member path none) ]

-- no two files have one name
distinct : (held : Held) (name : List ℕ) (files : List ReadFile) (paths : List (List ℕ)) → Reached (HasTree held) name files paths → (i j : ℕ) (x y : ReadFile) → slice_get files i ≡ Some x → slice_get files j ≡ Some y → x.name ≡ y.name → i ≡ j
distinct held name files paths begun i j x y a b e = absurd (cc)
distinct held name files paths (again _ z _ r read) i j x y a b e = distinct held name files (z ∷ paths) r i j x y a b e
distinct held name files paths (next fs z ps tree r unread has) i j x y a b e =
    elim (push_cases fs (record { name = z; tree = tree }) i x a) [
      | inl p ↦ elim (push_cases fs (record { name = z; tree = tree }) j y b) [
        | inl q ↦ distinct held name fs (z ∷ ps) r i j x y p.1 q.1 e
        | inr q ↦ absurd (true≢false (sym (read_at fs i x p.1) ∙ ap (is_read fs) (e ∙ sym (ap (λ (f : ReadFile). f.name) q.1)) ∙ unread))
      ]
      | inr p ↦ elim (push_cases fs (record { name = z; tree = tree }) j y b) [
        | inl q ↦ absurd (true≢false (sym (read_at fs j y q.1) ∙ ap (is_read fs) (sym e ∙ sym (ap (λ (f : ReadFile). f.name) p.1)) ∙ unread))
        | inr q ↦ p.0 ∙ sym q.0
      ]
    ]

pub are_read : (held : Held) (name : List ℕ) (files : List ReadFile) → HasOneTree held → Reached (HasTree held) name files [] → AreRead held name files
are_read held name files one r = record {
  each = files_read held name files [] r;
  all = λ path reads. tree_there files path (all_read held name files one r path reads);
  once = λ i j path tree other a b. distinct held name files [] r i j (record { name = path; tree = tree }) (record { name = path; tree = other }) a b refl;
}
