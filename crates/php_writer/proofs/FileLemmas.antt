-- The bytes of a file, and that they spell it.
use Rattle.std.proofs.Common.{◌≡◌, ◌∙◌, ℕ, List, [], ◌∷◌, ◌++◌, Result, Ok, Err, IfOk, refl, sym, ap, subst, append-nil}
use Rattle.text_base.specs.declared.memory.NoMemory.{NoMemory}
use Rattle.php_syntax.specs.Trees.{PlainFile, stmts_of, functions_of_list, plain_file}
use Rattle.php_syntax.specs.declared.tree.Stmt.{Stmt}
use Rattle.php_syntax.specs.declared.tree.FunctionDef.{FunctionDef}
use Rattle.php_syntax.specs.declared.tree.FileTree.{FileTree}
use Rattle.php_syntax.specs.Height.{file_height}
use Rattle.spellable.specs.Marks.{Adds, all_written, file_written}
use Rattle.php_writer.specs.Spelled.{Spells, IsSpelled}
use Rattle.php_writer.specs.Tested.{file_good}
use Rattle.std.specs.Prelude.{Bool, true, false, IsTrue, ◌↔◌, ◌≤◌}
use Rattle.spellable.proofs.BackFiles.{spelled_is_spellable}
use Rattle.php_writer.proofs.TestedFiles.{file_sound, file_tests}
use Rattle.php_writer.specs.Written.{functions_marks, stmts_marks, file_marks}
use Rattle.php_writer.proofs.SpelledFiles.{file_spelled}

pub file_bytes_are : (t : PlainFile) (a b c : List ℕ) → a ≡ 60 ∷ 63 ∷ 112 ∷ 104 ∷ 112 ∷ 32 ∷ [] → Adds a b (functions_marks t.functions_of) → Adds b c (stmts_marks t.body_of) → c ≡ file_written (file_marks t)
unfolding all_written
file_bytes_are t a b c is f g = sym (append-nil c) ∙ g [] ∙ f (stmts_marks t.body_of []) ∙ ap (λ x. x ++ all_written (file_marks t)) is

pub file_bytes_of : (tree : FileTree) (xs : List FunctionDef) (ys : List Stmt) (a b c : List ℕ) → xs ≡ tree.functions.items → ys ≡ tree.body.items → a ≡ 60 ∷ 63 ∷ 112 ∷ 104 ∷ 112 ∷ 32 ∷ []
    → Adds a b (functions_marks (functions_of_list xs)) → Adds b c (stmts_marks (stmts_of ys)) → c ≡ file_written (file_marks (plain_file tree))
file_bytes_of tree xs ys a b c same also is f g =
    file_bytes_are (record { body_of = stmts_of ys; functions_of = functions_of_list xs }) a b c is f g
    ∙ ap (λ (x : List FunctionDef). file_written (functions_marks (functions_of_list x) (stmts_marks (stmts_of ys) []))) same
    ∙ ap (λ (y : List Stmt). file_written (functions_marks (functions_of_list tree.functions.items) (stmts_marks (stmts_of y) []))) also

spelled_again : (t : PlainFile) (bytes : List ℕ) → bytes ≡ file_written (file_marks t) → IsSpelled t → Spells bytes t
spelled_again t bytes is some =
    let P : List ℕ → Type 0 = λ x. Spells x t
    in subst P (sym is) (file_spelled t (spelled_is_spellable some.0 some.1.0 t some.1.1 some.1.2) some.1.2.fits)

pub written_spells : (t : PlainFile) (result : Result (List ℕ) NoMemory) → IfOk result (λ bytes. bytes ≡ file_written (file_marks t)) → IfOk result (λ bytes. IsSpelled t → Spells bytes t)
written_spells t (Ok bytes) is = λ some. spelled_again t bytes is some
written_spells t (Err e) is = is

of_good : (t : PlainFile) → file_good t 200 ≡ true → IsSpelled t × (file_height t ≤ 200)
of_good t h = let s = file_sound t 200 h in ((file_written (file_marks t), file_spelled t s.is_spelled s.is_fit), s.is_high)

to_good : (t : PlainFile) → IsSpelled t × (file_height t ≤ 200) → file_good t 200 ≡ true
to_good t h = let some = h.0 in file_tests t 200 (record { is_high = h.1; is_spelled = spelled_is_spellable some.0 some.1.0 t some.1.1 some.1.2; is_fit = some.1.2.fits })

pub well_formed_is : (t : PlainFile) (b : Bool) → b ≡ file_good t 200 → IsTrue b ↔ (IsSpelled t × (file_height t ≤ 200))
well_formed_is t true e = (λ h. of_good t (sym e), λ h. refl)
well_formed_is t false e = (λ h. absurd (cc), λ h. let both : false ≡ true = e ∙ to_good t h in absurd (cc))
