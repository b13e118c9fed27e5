-- Names and trees side by side.
use Rattle.std.proofs.Common.{◌≡◌, ◌∙◌, Bool, true, false, if◌then◌else◌, nat_eq, length-append, Some, None, get_or, ◌<◌, ◌≤◌, ℕ, zero, suc, ◌+◌, List, [], ◌∷◌, ◌++◌, length, option_map, slice_get, refl, sym, ap, arith}
use Rattle.php_syntax.specs.declared.tree.FileTree.{FileTree}
use Rattle.php_syntax.specs.Trees.{plain_file}
use Rattle.program_rules.specs.Programs.{ReadFile}
use Rattle.std.specs.List.{list_any}
use Rattle.std.proofs.lemmas.Option.{slice_get_read, slice_get_past}
use Rattle.std.specs.Cmp.Lexicographic.{pointwise}
use Rattle.indexmap.specs.IndexSet.{insert_key}
use Rattle.program_files.specs.Order.{names_of, is_read}
use Rattle.program_files.specs.View.{paired}

less_one : (m n : ℕ) → suc m ≡ suc n → m ≡ n
less_one m n e = omega arith

pub names_of_paired : (ns : List (List ℕ)) (ts : List FileTree) → length ns ≡ length ts → names_of (paired ns ts) ≡ ns
names_of_paired [] ts e = refl
names_of_paired (n ∷ ns) [] e = absurd (let h : suc (length ns) ≡ 0 = e in omega arith)
names_of_paired (n ∷ ns) (t ∷ ts) e = ap (λ (xs : List (List ℕ)). n ∷ xs) (names_of_paired ns ts (less_one (length ns) (length ts) e))

pub length_paired : (ns : List (List ℕ)) (ts : List FileTree) → length ns ≡ length ts → length (paired ns ts) ≡ length ts
length_paired [] ts e = e
length_paired (n ∷ ns) [] e = absurd (let h : suc (length ns) ≡ 0 = e in omega arith)
length_paired (n ∷ ns) (t ∷ ts) e = ap suc (length_paired ns ts (less_one (length ns) (length ts) e))

pub paired_push : (ns : List (List ℕ)) (ts : List FileTree) (n : List ℕ) (t : FileTree) → length ns ≡ length ts
    → paired (ns ++ n ∷ []) (ts ++ t ∷ []) ≡ paired ns ts ++ record { name = n; tree = plain_file t } ∷ []
paired_push [] [] n t e = refl
paired_push [] (u ∷ ts) n t e = absurd (let h : 0 ≡ suc (length ts) = e in omega arith)
paired_push (m ∷ ns) [] n t e = absurd (let h : suc (length ns) ≡ 0 = e in omega arith)
paired_push (m ∷ ns) (u ∷ ts) n t e = ap (λ (xs : List ReadFile). record { name = m; tree = plain_file u } ∷ xs) (paired_push ns ts n t (less_one (length ns) (length ts) e))

pub name_at : (ns : List (List ℕ)) (ts : List FileTree) (k : ℕ) → length ns ≡ length ts → slice_get ns k ≡ option_map (λ (file : ReadFile). file.name) (slice_get (paired ns ts) k)
name_at [] ts k e = refl
name_at (n ∷ ns) [] k e = absurd (let h : suc (length ns) ≡ 0 = e in omega arith)
name_at (n ∷ ns) (t ∷ ts) zero e = refl
name_at (n ∷ ns) (t ∷ ts) (suc k) e = name_at ns ts k (less_one (length ns) (length ts) e)

pub tree_at : (ns : List (List ℕ)) (ts : List FileTree) (k : ℕ) → length ns ≡ length ts → option_map plain_file (slice_get ts k) ≡ option_map (λ (file : ReadFile). file.tree) (slice_get (paired ns ts) k)
tree_at [] [] k e = refl
tree_at [] (t ∷ ts) k e = absurd (let h : 0 ≡ suc (length ts) = e in omega arith)
tree_at (n ∷ ns) [] k e = absurd (let h : suc (length ns) ≡ 0 = e in omega arith)
tree_at (n ∷ ns) (t ∷ ts) zero e = refl
tree_at (n ∷ ns) (t ∷ ts) (suc k) e = tree_at ns ts k (less_one (length ns) (length ts) e)

goes_last : (test : Bool) (names : List (List ℕ)) (x : List ℕ) → test ≡ false → (if test then names else (names ++ x ∷ [])) ≡ names ++ x ∷ []
goes_last true names x e = absurd (cc)
goes_last false names x e = refl

-- a name that is not read goes last
pub named_last : (ns : List (List ℕ)) (ts : List FileTree) (x : List ℕ) → length ns ≡ length ts → is_read (paired ns ts) x ≡ false → insert_key (pointwise nat_eq) ns x ≡ ns ++ x ∷ []
named_last ns ts x e new =
    goes_last (list_any (pointwise nat_eq x) ns) ns x (ap (λ (names : List (List ℕ)). list_any (pointwise nat_eq x) names) (sym (names_of_paired ns ts e)) ∙ new)

pub counted : (ns : List (List ℕ)) (ts : List FileTree) (n : List ℕ) (t : FileTree) → length ns ≡ length ts → length (ns ++ n ∷ []) ≡ length (ts ++ t ∷ [])
counted ns ts n t e = length-append ns (n ∷ []) ∙ ap (λ k. k + 1) e ∙ sym (length-append ts (t ∷ []))

pub tree_found : (ts : List FileTree) (k : ℕ) (t : FileTree) → k < length ts → t ≡ get_or ts k t → Some (plain_file t) ≡ option_map plain_file (slice_get ts k)
tree_found ts k t lt is = sym (ap (option_map plain_file) (slice_get_read ts (length ts) k t refl lt is))

pub no_tree : (ts : List FileTree) (k : ℕ) → length ts ≤ k → None ≡ option_map plain_file (slice_get ts k)
no_tree ts k le = sym (ap (option_map plain_file) (slice_get_past ts k le))
