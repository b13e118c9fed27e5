-- Whether texts are short.
use Rattle.std.proofs.Common.{◌≡◌, ◌∙◌, ℕ, zero, suc, ◌<◌, ◌≤◌, Bool, true, false, ◌&&◌, List, [], ◌∷◌, ◌++◌, length, refl, sym, ap, arith, leb-true, leb-false}
use Rattle.std.specs.List.{Contains, fold}
use Rattle.std.proofs.lemmas.List.Folds.{list_all-append}
use Rattle.std.proofs.lemmas.List.Elements.{Contains-append_right}
use Rattle.text_base.specs.declared.limits.TheConstants.{TEXT_LIMIT}
use Rattle.php_syntax.specs.declared.tree.Expr.{Expr, Text}
use Rattle.php_syntax.specs.Trees.{PlainStmts, PlainFunction, plain_expr, var_expr}
use Rattle.program_expressions.specs.Collected.{itself, stmts_collected, functions_collected}
use Rattle.program_expressions.proofs.CollectedLemmas.{TakesUp, takes_stmts, takes_functions}
use Rattle.script_meaning.specs.Programs.{PlainProgram}
use Rattle.flow_runs.specs.Texts.{own_text, statement_texts, function_texts, TextsFit}
use Rattle.program_lowering.specs.Short.{is_short, all_short, HasLongText}

pub short_none : all_short [] ≡ true
unfolding all_short
short_none = refl

one_of : (b : Bool) → (b && true) ≡ b
one_of true = refl
one_of false = refl

pub short_one : (t : List ℕ) → all_short (t ∷ []) ≡ is_short t
unfolding all_short
short_one t = one_of (is_short t)

pub short_both : (xs ys : List (List ℕ)) → all_short (xs ++ ys) ≡ (all_short xs && all_short ys)
unfolding all_short
short_both xs ys = list_all-append is_short xs ys

pub ruleset shorts = (short_none, short_one, short_both)

-- an expression of another form has no text of its own
no_own : (e : Expr) → ((t : List ℕ) → e ≡ Text t → ⊥) → own_text (plain_expr e) ≡ []
unfolding plain_expr own_text
no_own (Text t) h = absurd (h t refl)
no_own _ h = refl

-- whether all are short, so far and with more
and_all : TakesUp (λ (short : Bool) (texts : List (List ℕ)). short && all_short texts)
and_all = record {
  nothing = λ short. ap (λ (b : Bool). short && b) short_none ∙ one_of short;
  one_by_one = λ short xs ys. ap (λ (b : Bool). short && b) (short_both xs ys) ∙ regroup short (all_short xs) (all_short ys);
}
  where
    regroup : (a b c : Bool) → (a && (b && c)) ≡ ((a && b) && c)
    regroup true b c = refl
    regroup false b c = refl

pub unchanged : (short : Bool) (e : Expr) → ((t : List ℕ) → e ≡ Text t → ⊥) → short ≡ (short && all_short (own_text (plain_expr e)))
unchanged short e h = sym (ap (λ (ts : List (List ℕ)). short && all_short ts) (no_own e h) ∙ and_all.nothing short)

-- a variable is no text
pub unchanged_there : (short : Bool) (x : List ℕ) → short ≡ (short && all_short (own_text (var_expr x)))
unfolding own_text
unchanged_there short x = sym (and_all.nothing short)

-- the texts of statements and then those of functions
pub looked : (short first last : Bool) (ss body : PlainStmts) (fs functions : List PlainFunction) → body ≡ ss → functions ≡ fs
    → first ≡ fold (λ short e. short && all_short (own_text e)) short (stmts_collected itself body)
    → last ≡ fold (λ short e. short && all_short (own_text e)) first (functions_collected itself functions)
    → last ≡ (short && all_short (statement_texts ss ++ function_texts fs))
looked short first last ss body fs functions is_body are_functions one two =
    let main : first ≡ (short && all_short (statement_texts ss)) =
    one ∙ takes_stmts (λ (short : Bool) (texts : List (List ℕ)). short && all_short texts) own_text and_all short body
    ∙ ap (λ (b : PlainStmts). short && all_short (statement_texts b)) is_body in
    two ∙ takes_functions (λ (short : Bool) (texts : List (List ℕ)). short && all_short texts) own_text and_all first functions
    ∙ ap (λ (g : List PlainFunction). first && all_short (function_texts g)) are_functions
    ∙ ap (λ (b : Bool). b && all_short (function_texts fs)) main
    ∙ sym (and_all.one_by_one short (statement_texts ss) (function_texts fs))

-- what is found of all texts

and_left : (a b : Bool) → (a && b) ≡ true → a ≡ true
and_left true b e = refl
and_left false b e = e

and_right : (a b : Bool) → (a && b) ≡ true → b ≡ true
and_right true b e = e
and_right false b e = absurd cc

pub each_short : (ts : List (List ℕ)) → all_short ts ≡ true → (t : List ℕ) → Contains ts t → length t ≤ TEXT_LIMIT
unfolding all_short
each_short [] e t c = absurd (let lt : c.0 < 0 = c.1 in omega (arith, lt))
each_short (x ∷ ts) e t (zero, lt, is) = let same : x ≡ t = is in subst_le same (leb-true (length x) TEXT_LIMIT (and_left (is_short x) (all_short ts) e))
  where
    subst_le : x ≡ t → length x ≤ TEXT_LIMIT → length t ≤ TEXT_LIMIT
    subst_le same le = let n : length x ≡ length t = ap length same in omega (arith, n, le)
each_short (x ∷ ts) e t (suc n, lt, is) = each_short ts (and_right (is_short x) (all_short ts) e) t (n, omega (arith, lt), is)

-- some text that is too long
pub record SomeLong (ts : List (List ℕ)) : Type 0 where
  pub long : List ℕ
  pub stands : Contains ts long
  pub is_long : TEXT_LIMIT < length long

pub some_long : (ts : List (List ℕ)) → all_short ts ≡ false → SomeLong ts
unfolding all_short
some_long [] e = absurd cc
some_long (x ∷ ts) e = at (is_short x) refl (some_long ts)
  where
    at : (b : Bool) → is_short x ≡ b → (all_short ts ≡ false → SomeLong ts) → SomeLong (x ∷ ts)
    at true h go = let s = go (sym (ap (λ (b : Bool). b && all_short ts) h) ∙ e) in record { long = s.long; stands = Contains-append_right (x ∷ []) ts s.long s.stands; is_long = s.is_long }
    at false h go = record { long = x; stands = (0, omega arith, refl); is_long = leb-false (length x) TEXT_LIMIT h }

pub fits_of : (program : PlainProgram) → all_short (statement_texts program.main_of ++ function_texts program.functions_of) ≡ true → TextsFit program
fits_of program e = each_short (statement_texts program.main_of ++ function_texts program.functions_of) e

pub long_of : (program : PlainProgram) → all_short (statement_texts program.main_of ++ function_texts program.functions_of) ≡ false → HasLongText program
long_of program e = let s = some_long (statement_texts program.main_of ++ function_texts program.functions_of) e in record { long = s.long; stands = s.stands; is_long = s.is_long }
