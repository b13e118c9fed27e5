-- Parameters are bound one after the other.
use Rattle.std.proofs.Common.{◌≡◌, ℕ, List, [], ◌∷◌, ◌++◌, refl, sym, ap, ◌∙◌, append_assoc, length, arith, Bor}
use Rattle.std.proofs.lemmas.List.{append-nil}
use Rattle.php_syntax.specs.declared.tree.Param.{Param}
use Rattle.php_syntax.specs.Trees.{params_of_list, maybe_of}
use Rattle.php_values.specs.declared.array.Value.{Value}
use Rattle.php_values.specs.View.{plain_of, plain_list}
use Rattle.script_meaning.specs.Runs.{Variables}
use Rattle.script_meaning.specs.Programs.{arguments_of, default_value}
use Rattle.expr_evaluator.specs.VariablesView.{plain_variables}

abbrev pub Made : Type 0
Made = List (Bor (List ℕ) × Value)

variables_push : (made : Made) (x : Bor (List ℕ)) (v : Value) → plain_variables (made ++ (x, v) ∷ []) ≡ plain_variables made ++ (x.now, plain_of v) ∷ []
variables_push [] x v = refl
variables_push (m ∷ made) x v = ap (λ vs. (m.0.now, plain_of m.1) ∷ vs) (variables_push made x v)

-- one variable more
pushed : (made made' : Made) (x : Bor (List ℕ)) (v : Value) (rest : Variables) → made' ≡ made ++ (x, v) ∷ [] → plain_variables made' ++ rest ≡ plain_variables made ++ (x.now, plain_of v) ∷ rest
pushed made made' x v rest is = ap (λ m. plain_variables m ++ rest) is ∙ ap (λ vs. vs ++ rest) (variables_push made x v) ∙ append_assoc (plain_variables made) ((x.now, plain_of v) ∷ []) rest

-- a parameter gets its default
pub default_put : (made made' : Made) (x : Bor (List ℕ)) (v : Value) (param : Param) (rest others : List Param) (all : Variables) → rest ≡ param ∷ others → made' ≡ made ++ (x, v) ∷ [] → x.now ≡ param.name → plain_of v ≡ default_value (maybe_of param.default)
    → plain_variables made ++ arguments_of (params_of_list rest) [] ≡ all → plain_variables made' ++ arguments_of (params_of_list others) [] ≡ all
unfolding arguments_of
default_put made made' x v param rest others all is more name value h =
    pushed made made' x v _ more
    ∙ ap (λ n. plain_variables made ++ (n, plain_of v) ∷ arguments_of (params_of_list others) []) name
    ∙ ap (λ d. plain_variables made ++ (param.name, d) ∷ arguments_of (params_of_list others) []) value
    ∙ ap (λ ps. plain_variables made ++ arguments_of (params_of_list ps) []) (sym is) ∙ h

-- none is left
pub defaults_done : (made : Made) (rest : List Param) (all : Variables) → rest ≡ [] → plain_variables made ++ arguments_of (params_of_list rest) [] ≡ all → plain_variables made ≡ all
unfolding arguments_of
defaults_done made rest all none h = sym (append-nil (plain_variables made)) ∙ ap (λ ps. plain_variables made ++ arguments_of (params_of_list ps) []) (sym none) ∙ h

-- a parameter gets its argument
pub argument_put : (made made' : Made) (x : Bor (List ℕ)) (v : Value) (param : Param) (params others : List Param) (args : List Value) → params ≡ param ∷ others → made' ≡ made ++ (x, v) ∷ [] → x.now ≡ param.name
    → plain_variables made' ++ arguments_of (params_of_list others) (plain_list args) ≡ plain_variables made ++ arguments_of (params_of_list params) (plain_list (v ∷ args))
unfolding arguments_of
argument_put made made' x v param params others args is more name =
    pushed made made' x v _ more
    ∙ ap (λ n. plain_variables made ++ (n, plain_of v) ∷ arguments_of (params_of_list others) (plain_list args)) name
    ∙ ap (λ ps. plain_variables made ++ arguments_of (params_of_list ps) (plain_list (v ∷ args))) (sym is)

-- an argument for which there is no parameter
pub argument_left : (made : Made) (v : Value) (params : List Param) (args : List Value) → params ≡ []
    → plain_variables made ++ arguments_of (params_of_list params) (plain_list args) ≡ plain_variables made ++ arguments_of (params_of_list params) (plain_list (v ∷ args))
unfolding arguments_of
argument_left made v params args none = rw none refl

-- no argument is left
pub arguments_done : (made made' : Made) (params : List Param) (args : List Value) (all : Variables) → args ≡ [] → plain_variables made' ≡ plain_variables made ++ arguments_of (params_of_list params) []
    → plain_variables made ++ arguments_of (params_of_list params) (plain_list args) ≡ all → plain_variables made' ≡ all
arguments_done made made' params args all none is h = is ∙ ap (λ vs. plain_variables made ++ arguments_of (params_of_list params) (plain_list vs)) (sym none) ∙ h

pub no_items : {X : Type 0} (xs : List X) → length xs ≡ 0 → xs ≡ []
no_items [] h = refl
no_items (x ∷ xs) h = absurd (omega arith)
