-- The names that PHP reserves and that the language speaks of (PHP manual, "Predefined variables", "Predefined constants").
use Rattle.std.specs.Prelude.{ℕ, List, [], ◌∷◌, codes}
use Rattle.php_syntax.specs.declared.tree.SuperName.{SuperName}
use Rattle.php_syntax.specs.declared.tree.SuperName.TheVariants as request

-- the variables of the request, which are read and never written
abbrev pub request_name : SuperName → List ℕ
request_name request.Get = codes "_GET"
request_name request.Post = codes "_POST"
request_name request.Cookie = codes "_COOKIE"
request_name request.Request = codes "_REQUEST"
request_name request.Server = codes "_SERVER"

-- The variables outside the language: the object of a method, and those in which a run finds variables by name, or input that is not
-- the request's five.
abbrev pub outside_names : List (List ℕ)
outside_names = codes "this" ∷ codes "GLOBALS" ∷ codes "_FILES" ∷ codes "_SESSION" ∷ codes "_ENV" ∷ codes "argv" ∷ codes "argc" ∷ []

-- the constants, which have case
abbrev pub eol_name : List ℕ
eol_name = codes "PHP_EOL"

-- the largest integer
abbrev pub int_max_name : List ℕ
int_max_name = codes "PHP_INT_MAX"

-- the least integer
abbrev pub int_min_name : List ℕ
int_min_name = codes "PHP_INT_MIN"
