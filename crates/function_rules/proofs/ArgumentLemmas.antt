-- The calls of files, one after another.
use Rattle.std.proofs.Common.{◌≡◌, ◌∙◌, ◌≤◌, ℕ, zero, suc, ◌+◌, List, [], ◌∷◌, ◌++◌, length, drop, Option, Some, None, option_map, slice_get, append_assoc, refl, sym, ap, arith}
use Rattle.std.proofs.lemmas.List.{append-nil, drop_all}
use Rattle.std.proofs.lemmas.Option.{same_Some}
use Rattle.php_syntax.specs.declared.tree.FileTree.{FileTree}
use Rattle.php_syntax.specs.Trees.{PlainFile, plain_file, stmts_of, functions_of_list}
use Rattle.program_rules.specs.Calls.{PlainCall, statement_calls, function_calls}
use Rattle.program_rules.specs.Programs.{ReadFile}
use Rattle.include_expansion.specs.FileCalls.{calls_of_file, calls_in_files}

pub tree_of : (o : Option ReadFile) (tree : PlainFile) → Some tree ≡ option_map (λ (file : ReadFile). file.tree) o → (file : ReadFile) × (o ≡ Some file) × (tree ≡ file.tree)
tree_of None tree e = absurd (cc)
tree_of (Some file) tree e = (file, refl, same_Some tree file.tree e)

pub drop_file : (files : List ReadFile) (k : ℕ) (file : ReadFile) → slice_get files k ≡ Some file → drop k files ≡ file ∷ drop (suc k) files
drop_file [] k file e = absurd (cc)
drop_file (f ∷ fs) zero file e = ap (λ (g : ReadFile). g ∷ fs) (same_Some f file e)
drop_file (f ∷ fs) (suc k) file e = drop_file fs k file e

pub calls_step : (files : List ReadFile) (place : ℕ) (tree : FileTree) (old new init : List PlainCall) → Some (plain_file tree) ≡ option_map (λ (file : ReadFile). file.tree) (slice_get files place)
    → new ≡ old ++ (statement_calls (stmts_of tree.body.items) ++ function_calls (functions_of_list tree.functions.items)) → old ++ calls_in_files (drop place files) ≡ init → new ++ calls_in_files (drop (place + 1) files) ≡ init
unfolding calls_in_files
calls_step files place tree old new init own push inv =
    let f = tree_of (slice_get files place) (plain_file tree) own in
    let e : suc place ≡ place + 1 = omega arith in
    let rest = calls_in_files (drop (suc place) files) in
    let split : calls_in_files (drop place files) ≡ calls_of_file (plain_file tree) ++ rest = ap calls_in_files (drop_file files place f.0 f.1) ∙ ap (λ (t : PlainFile). calls_of_file t ++ rest) (sym f.2) in
    ap (λ (k : ℕ). new ++ calls_in_files (drop k files)) (sym e) ∙ ap (λ (v : List PlainCall). v ++ rest) push ∙ append_assoc old (calls_of_file (plain_file tree)) rest
    ∙ sym (ap (λ (v : List PlainCall). old ++ v) split) ∙ inv

pub calls_end : (files : List ReadFile) (place : ℕ) (old init : List PlainCall) → length files ≤ place → old ++ calls_in_files (drop place files) ≡ init → old ≡ init
unfolding calls_in_files
calls_end files place old init le inv = sym (append-nil old) ∙ sym (ap (λ (fs : List ReadFile). old ++ calls_in_files fs) (drop_all place files le)) ∙ inv
