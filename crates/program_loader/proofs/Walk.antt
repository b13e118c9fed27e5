-- Files are read in one order: a walk over the includes of files goes one way.
use Rattle.std.proofs.Common.{◌≡◌, ◌≤◌, ◌∙◌, ◌+◌, ℕ, zero, suc, true, false, List, [], ◌∷◌, ◌++◌, length, inl, inr, refl, sym, subst, arith}
use Rattle.std.specs.Prelude.{◌⊎◌}
use Rattle.std.proofs.lemmas.List.{length-append}
use Rattle.php_syntax.specs.Trees.{PlainFile}
use Rattle.program_rules.specs.Includes.{includes_of_file}
use Rattle.program_rules.specs.Programs.{ReadFile}
use Rattle.program_files.specs.Order.{is_read, Reached, begun, again, next}

abbrev pub Trees : Type 1
Trees = List ℕ → PlainFile → Type 0

-- files with one more
abbrev pub with_file : List ReadFile → List ℕ → PlainFile → List ReadFile
with_file files path tree = files ++ record { name = path; tree = tree } ∷ []

-- so many steps lead from these files and names to those
unfoldable pub Goes : Trees → ℕ → List ReadFile → List (List ℕ) → List ReadFile → List (List ℕ) → Type 0
Goes has zero files paths ends rest = (files ≡ ends) × (paths ≡ rest)
Goes has (suc n) files [] ends rest = ⊥
Goes has (suc n) files (path ∷ paths) ends rest =
    ((is_read files path ≡ true) × Goes has n files paths ends rest)
    ⊎ ((is_read files path ≡ false) × ((tree : PlainFile) × has path tree × Goes has n (with_file files path tree) (includes_of_file tree ++ paths) ends rest))

-- one step
abbrev One : Trees → List ReadFile → List (List ℕ) → List ReadFile → List (List ℕ) → Type 0
One has files paths ends rest = Goes has 1 files paths ends rest

-- and one step more
then_one : (has : Trees) (n : ℕ) (files : List ReadFile) (paths : List (List ℕ)) (mid : List ReadFile) (left : List (List ℕ)) (ends : List ReadFile) (rest : List (List ℕ))
    → Goes has n files paths mid left → One has mid left ends rest → Goes has (suc n) files paths ends rest
unfolding Goes
then_one has zero files paths mid left ends rest (same, alike) step =
    subst (λ (fs : List ReadFile). One has fs paths ends rest) (sym same) (subst (λ (ps : List (List ℕ)). One has mid ps ends rest) (sym alike) step)
then_one has (suc n) files [] mid left ends rest g step = absurd g
then_one has (suc n) files (path ∷ paths) mid left ends rest (inl (known, g)) step = inl (known, then_one has n files paths mid left ends rest g step)
then_one has (suc n) files (path ∷ paths) mid left ends rest (inr (unread, (tree, t, g))) step =
    inr (unread, (tree, t, then_one has n (with_file files path tree) (includes_of_file tree ++ paths) mid left ends rest g step))

-- what is reached is gone to from the beginning
from_begin : (has : Trees) (name : List ℕ) (files : List ReadFile) (paths : List (List ℕ)) → Reached has name files paths → (n : ℕ) × Goes has n [] (name ∷ []) files paths
unfolding Goes
from_begin has name _ _ begun = (0, (refl, refl))
from_begin has name files paths (again _ x _ r known) =
    let g = from_begin has name files (x ∷ paths) r in
    (suc g.0, then_one has g.0 [] (name ∷ []) files (x ∷ paths) files paths g.1 (inl (known, (refl, refl))))
from_begin has name _ _ (next fs x ps tree r unread t) =
    let g = from_begin has name fs (x ∷ ps) r in
    (suc g.0, then_one has g.0 [] (name ∷ []) fs (x ∷ ps) (with_file fs x tree) (includes_of_file tree ++ ps) g.1 (inr (unread, (tree, t, (refl, refl)))))

abbrev pub HaveOne : Trees → Type 0
HaveOne has = (path : List ℕ) (tree other : PlainFile) → has path tree → has path other → tree ≡ other

-- to the end from here
abbrev pub Ends : Trees → List ReadFile → List (List ℕ) → List ReadFile → Type 0
Ends has files paths ends = (n : ℕ) × Goes has n files paths ends []

past_known : (has : Trees) (files : List ReadFile) (path : List ℕ) (paths : List (List ℕ)) (ends : List ReadFile) → is_read files path ≡ true → Ends has files (path ∷ paths) ends → Ends has files paths ends
unfolding Goes
past_known has files path paths ends known (zero, (same, alike)) = absurd (cc)
past_known has files path paths ends known (suc n, inl (also, g)) = (n, g)
past_known has files path paths ends known (suc n, inr (unread, more)) = absurd (let e : true ≡ false = sym known ∙ unread in cc)

pub past_new : (has : Trees) → HaveOne has → (files : List ReadFile) (path : List ℕ) (paths : List (List ℕ)) (ends : List ReadFile) → is_read files path ≡ false → Ends has files (path ∷ paths) ends
    → (tree : PlainFile) × has path tree × Ends has (with_file files path tree) (includes_of_file tree ++ paths) ends
unfolding Goes
past_new has one files path paths ends unread (zero, (same, alike)) = absurd (cc)
past_new has one files path paths ends unread (suc n, inl (known, g)) = absurd (let e : true ≡ false = sym known ∙ unread in cc)
past_new has one files path paths ends unread (suc n, inr (also, (tree, t, g))) = (tree, t, (n, g))

-- wherever files are read, the rest of the walk leads to the same end
pub to_the_end : (has : Trees) → HaveOne has → (name : List ℕ) (ends : List ReadFile) → Ends has [] (name ∷ []) ends → (files : List ReadFile) (paths : List (List ℕ)) → Reached has name files paths
    → Ends has files paths ends
to_the_end has one name ends g _ _ begun = g
to_the_end has one name ends g files paths (again _ x _ r known) = past_known has files x paths ends known (to_the_end has one name ends g files (x ∷ paths) r)
to_the_end has one name ends g _ _ (next fs x ps tree r unread t) =
    let p = past_new has one fs x ps ends unread (to_the_end has one name ends g fs (x ∷ ps) r) in
    subst (λ (u : PlainFile). Ends has (with_file fs x u) (includes_of_file u ++ ps) ends) (one x p.0 tree p.1 t) p.2

at_end : (has : Trees) (files ends : List ReadFile) → Ends has files [] ends → files ≡ ends
unfolding Goes
at_end has files ends (zero, (same, alike)) = same
at_end has files ends (suc n, g) = absurd g

-- so files are read in one order
pub one_order : (has : Trees) → HaveOne has → (name : List ℕ) (files others : List ReadFile) → Reached has name files [] → Reached has name others [] → files ≡ others
one_order has one name files others r q = at_end has files others (to_the_end has one name others (from_begin has name others [] q) files [] r)

-- and no walk to the end has fewer files than it has on the way
longer : (has : Trees) (n : ℕ) (files : List ReadFile) (paths : List (List ℕ)) (ends : List ReadFile) → Goes has n files paths ends [] → length files ≤ length ends
unfolding Goes
longer has zero files paths ends (same, alike) = subst (λ (fs : List ReadFile). length files ≤ length fs) same (omega arith)
longer has (suc n) files [] ends g = absurd g
longer has (suc n) files (path ∷ paths) ends (inl (known, g)) = longer has n files paths ends g
longer has (suc n) files (path ∷ paths) ends (inr (unread, (tree, t, g))) =
    let more = longer has n (with_file files path tree) (includes_of_file tree ++ paths) ends g in
    let one = length-append files (record { name = path; tree = tree } ∷ []) in
    omega (arith, more, one)

pub one_more_file : (has : Trees) → HaveOne has → (name : List ℕ) (files ends : List ReadFile) (path : List ℕ) (paths : List (List ℕ)) → Reached has name ends [] → Reached has name files (path ∷ paths)
    → is_read files path ≡ false → length files + 1 ≤ length ends
one_more_file has one name files ends path paths q r unread =
    let p = past_new has one files path paths ends unread (to_the_end has one name ends (from_begin has name ends [] q) files (path ∷ paths) r) in
    let more = longer has p.2.0 (with_file files path p.0) (includes_of_file p.0 ++ paths) ends p.2.1 in
    let count = length-append files (record { name = path; tree = p.0 } ∷ []) in
    omega (arith, more, count)
