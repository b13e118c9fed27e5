-- The tree of a variable: a leaf that is a place, and keeps the rules where its name is known.
use Rattle.std.proofs.Common.{◌≡◌, ℕ, Bool, true, false, List, refl, sym, subst}
use Rattle.std.specs.Prelude.{Option, Some, None, if◌then◌else◌, codes}
use Rattle.std.specs.Cmp.Lexicographic.{same_text}
use Rattle.php_syntax.specs.declared.tree.SuperName.{SuperName}
use Rattle.php_syntax.specs.declared.tree.SuperName.TheVariants as request
use Rattle.script_grammar.specs.Terminals.{same_bytes}
use Rattle.script_grammar.specs.Expressions.{request_or, variable_tree}
use Rattle.script_grammar.specs.Rules.{is_known, request_named, expr_fits}
use Rattle.php_syntax.specs.Height.{height}

-- which variable of the request it is, by the answers of the five tests
abbrev by_tests : Bool → Bool → Bool → Bool → Bool → Option SuperName
by_tests a b c d e =
    if a then Some request.Get
    else (if b then Some request.Post
    else (if c then Some request.Cookie
    else (if d then Some request.Request
    else (if e then Some request.Server
    else None))))

named_known : (x y : List ℕ) → same_bytes x y ≡ true → is_known y ≡ true → true ≡ is_known x
named_known x y e k = sym (subst (λ z. is_known z ≡ true) (sym (same_text x y (sym e))) k)

fits_by : (a b c d e : Bool) (x : List ℕ) → same_bytes x (codes "_GET") ≡ a → same_bytes x (codes "_POST") ≡ b → same_bytes x (codes "_COOKIE") ≡ c
    → same_bytes x (codes "_REQUEST") ≡ d → same_bytes x (codes "_SERVER") ≡ e → expr_fits (request_or (by_tests a b c d e) x) ≡ is_known x
unfolding expr_fits
fits_by true b c d e x i j k l m = named_known x (codes "_GET") i refl
fits_by false true c d e x i j k l m = named_known x (codes "_POST") j refl
fits_by false false true d e x i j k l m = named_known x (codes "_COOKIE") k refl
fits_by false false false true e x i j k l m = named_known x (codes "_REQUEST") l refl
fits_by false false false false true x i j k l m = named_known x (codes "_SERVER") m refl
fits_by false false false false false x i j k l m = refl

pub variable_fits : (x : List ℕ) → expr_fits (variable_tree x) ≡ is_known x
variable_fits x = fits_by (same_bytes x (codes "_GET")) (same_bytes x (codes "_POST")) (same_bytes x (codes "_COOKIE")) (same_bytes x (codes "_REQUEST")) (same_bytes x (codes "_SERVER")) x refl refl refl refl refl

height_of : (o : Option SuperName) (x : List ℕ) → height (request_or o x) ≡ 1
unfolding height
height_of None x = refl
height_of (Some s) x = refl

pub variable_height : (x : List ℕ) → height (variable_tree x) ≡ 1
variable_height x = height_of (request_named x) x
