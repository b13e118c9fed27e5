-- Functions and one more.
use Rattle.std.proofs.Common.{◌≡◌, ℕ, ◌+◌, ◌<◌, List, [], ◌∷◌, ◌++◌, ap, ◌∙◌, sym}
use Rattle.std.specs.Prelude.{Option, Some, None, max, nat_lt, if◌then◌else◌}
use Rattle.std.specs.Str.{str_to_ascii_lowercase}
use Rattle.std.proofs.lemmas.Bool.{lt-ltb, cond-true}
use Rattle.php_syntax.specs.declared.tree.Param.{Param}
use Rattle.php_syntax.specs.declared.tree.FunctionDef.{FunctionDef}
use Rattle.php_syntax.specs.Trees.{PlainFunction, plain_function, params_of_list, functions_of_list, stmts_of}
use Rattle.php_syntax.specs.Height.{params_height}
use Rattle.stmt_machine.specs.Made.{add_function, function_of, put_function}
use Rattle.stmt_builder.specs.declared.body.Row.{Row}
use Rattle.stmt_builder.specs.declared.functions.Functions.{Functions}
use Rattle.stmt_builder.specs.Views.{row_of, kept_functions}
use Rattle.stmt_builder.proofs.RowLemmas.{functions_push}

-- the plain form of a function, by its parts
function_is : (f : FunctionDef) (name : List ℕ) (ps : List Param) (r : Row) → f.name ≡ str_to_ascii_lowercase name → f.params.items ≡ ps → f.body.items ≡ r.stmts.items → plain_function f ≡ function_of (name, params_of_list ps) (stmts_of r.stmts.items)
function_is f name ps r named params body =
    ap (λ x. record { name_of = x; params_of = params_of_list f.params.items; body_of = stmts_of f.body.items }) named ∙ ap (λ x. record { name_of = str_to_ascii_lowercase name; params_of = params_of_list x; body_of = stmts_of f.body.items }) params ∙ ap (λ x. record { name_of = str_to_ascii_lowercase name; params_of = params_of_list ps; body_of = stmts_of x }) body

-- functions with the height of the highest
abbrev pub those : List PlainFunction → ℕ → Option (List PlainFunction × ℕ)
those gs h = Some (gs, h)

kept : (gs : List PlainFunction) (h own high wanted : ℕ) → own ≡ wanted → own < 200 → high ≡ max h (own + 1) → those gs high ≡ (if nat_lt wanted 200 then those gs (max h (wanted + 1)) else None)
kept gs h own high wanted e low highest =
    ap (λ k. those gs k) (highest ∙ ap (λ k. max h (k + 1)) e) ∙ sym (cond-true (nat_lt wanted 200) (those gs (max h (wanted + 1))) None (ap (λ k. nat_lt k 200) (sym e) ∙ lt-ltb own 200 low))

put_both : (name : List ℕ) (ps : List Param) (r : Row) (g : Functions) (f : FunctionDef) (more : List FunctionDef) (own high : ℕ) → more ≡ g.functions.items ++ f ∷ [] → f.name ≡ str_to_ascii_lowercase name → f.params.items ≡ ps → f.body.items ≡ r.stmts.items
    → own ≡ max (params_height (params_of_list ps)) r.height → own < 200 → high ≡ max g.height (own + 1) → those (functions_of_list more) high ≡ put_function (name, params_of_list ps) (row_of (Some r)) (kept_functions (Some g))
put_both name ps r g f more own high items named params body is low highest =
    ap (λ gs. those gs high) (ap functions_of_list items ∙ functions_push g.functions.items f ∙ ap (add_function (functions_of_list g.functions.items)) (function_is f name ps r named params body)) ∙ kept _ g.height own high _ is low highest

pub put_kept : (name : List ℕ) (ps : List Param) (row : Option Row) (functions : Option Functions) (r : Row) (g : Functions) (f : FunctionDef) (more : List FunctionDef) (own high : ℕ) → row ≡ Some r → functions ≡ Some g → more ≡ g.functions.items ++ f ∷ [] → f.name ≡ str_to_ascii_lowercase name → f.params.items ≡ ps
    → f.body.items ≡ r.stmts.items → own ≡ max (params_height (params_of_list ps)) r.height → own < 200 → high ≡ max g.height (own + 1) → those (functions_of_list more) high ≡ put_function (name, params_of_list ps) (row_of row) (kept_functions functions)
put_kept name ps row functions r g f more own high row_is functions_are items named params body is low highest =
    put_both name ps r g f more own high items named params body is low highest ∙ sym (ap (λ x. put_function (name, params_of_list ps) (row_of x) (kept_functions functions)) row_is ∙ ap (λ x. put_function (name, params_of_list ps) (row_of (Some r)) (kept_functions x)) functions_are)
