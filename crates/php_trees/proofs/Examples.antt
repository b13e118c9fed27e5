-- Small scripts and their trees, and scripts of PHP that are outside of the language, by computation.
use Rattle.std.proofs.Common.{◌≡◌, ℕ, ◌+◌, ◌<◌, pos, List, [], ◌∷◌, Option, Some, None, refl, sym, ap, ◌∙◌, subst, arith}
use Rattle.std.specs.Prelude.{codes}
use Rattle.php_syntax.specs.declared.token.Sign.TheVariants as signs
use Rattle.php_syntax.specs.declared.tree.ArithSign.TheVariants as arith_sign
use Rattle.php_syntax.specs.Tokens.{PlainKind, variable, name, integer, sign, PlainToken}
use Rattle.php_syntax.specs.Trees.{int_expr, var_expr, neg_expr, join_expr, arith_expr, assign_expr, call_expr, no_exprs, more_exprs, no_keys, PlainStmt, PlainStmts, run_stmt, if_stmt, no_stmts, more_stmts, no_arms, more_arms, PlainFile}
use Rattle.lr_tables.specs.declared.event.Event as event
use Rattle.lr_tables.specs.Machine.{Answer, Read, Wrong, Going, run}
use Rattle.lr_tables.specs.Checks.{paid, weight_of}
use Rattle.lr_tables.specs.Values.{Meaning, kinds, make, HasValue}
use Rattle.lr_tables.proofs.Basics.{read_is}
use Rattle.lr_tables.proofs.Sound.{is_sound}
use Rattle.lr_tables.proofs.Complete.{is_complete, moves_of, tables_of}
use Rattle.lr_tables.proofs.Making.{are_made, are_meant}
use Rattle.php_grammar.specs.Certificate.{certificate}
use Rattle.php_grammar.specs.Php.{php}
use Rattle.php_grammar.proofs.AreGood.{are_good}
use Rattle.script_grammar.specs.Rules.{stmts_fit, stmt_fits, arms_fit, expr_fits, exprs_fit, path_fits}
use Rattle.php_trees.specs.Values.{Value}
use Rattle.php_trees.specs.Reads.{language, ReadAs}

-- the stack that is made of tokens, if the machine reads them in so many turns
abbrev made_of : (m : Meaning) → Answer → List m.Token → Option (List m.Value)
made_of m (Read es) ks = make php.grammar m es ks []
made_of m (Wrong left) ks = None
made_of m (Going stack left) ks = None

made_is : {A : Type 0} {v w : A} → v ∷ [] ≡ w ∷ [] → v ≡ w
made_is e = cc

some_is : {A : Type 0} {a b : A} → Some a ≡ Some b → a ≡ b
some_is e = cc

none_made : {A : Type 0} {a : A} → None ≡ Some a → ⊥
none_made e = cc

-- what the machine reads, and the actions make, is read
pub has_value : (m : Meaning) (answer : Answer) (n : ℕ) (ks : List m.Token) (v : m.Value) → run php n [] (kinds m ks) ≡ answer → made_of m answer ks ≡ Some (v ∷ []) → HasValue php.grammar m ks v
has_value m (Read es) n ks v is h =
    let a = are_meant php.grammar m ks es (v ∷ []) (is_sound php (moves_of php certificate are_good) n (kinds m ks) es is) h in
    subst (HasValue php.grammar m ks) (sym (made_is a.1)) a.2
has_value m (Wrong left) n ks v is h = absurd (none_made h)
has_value m (Going stack left) n ks v is h = absurd (none_made h)

-- what the machine reads, and the actions make nothing of, has no value
no_value : (es : List event.Event) (n : ℕ) (ks : List PlainKind) (v : Value) → run php n [] (kinds language ks) ≡ Read es
    → paid certificate.most (kinds language ks) + weight_of php.grammar.terminals certificate.facts php.grammar.start < n
    → make php.grammar language es ks [] ≡ None → HasValue php.grammar language ks v → ⊥
no_value es n ks v is enough h value =
    let a = are_made php.grammar language ks v value in
    let same : es ≡ a.0 = read_is (sym is ∙ is_complete php certificate (tables_of php certificate are_good) (kinds language ks) a.0 a.1 n enough) in
    none_made (sym h ∙ ap (λ (fs : List event.Event). make php.grammar language fs ks []) same ∙ a.2)

abbrev pub spelled : List PlainKind → List PlainToken
spelled [] = []
spelled (k ∷ ks) = record { kind = k; at = 0 } ∷ spelled ks

abbrev pub body : PlainStmts → PlainFile
body ss = record { body_of = ss; functions_of = [] }

-- $x = 1 + 2 * 3;
abbrev sum : List PlainKind
sum = variable (codes "x") ∷ sign signs.Assign ∷ integer (pos 1) ∷ sign signs.Plus ∷ integer (pos 2) ∷ sign signs.Star ∷ integer (pos 3) ∷ sign signs.Semicolon ∷ []

sum_is_read : ReadAs (spelled sum) (body (more_stmts (run_stmt (assign_expr (codes "x") no_keys (arith_expr arith_sign.Add (int_expr (pos 1)) (arith_expr arith_sign.Mul (int_expr (pos 2)) (int_expr (pos 3)))))) no_stmts))
unfolding run make php stmts_fit stmt_fits expr_fits path_fits
sum_is_read = record { derived = has_value language _ 60 sum _ refl refl; fits = refl }

abbrev only_stmt : PlainStmt → PlainStmts
only_stmt s = more_stmts s no_stmts

abbrev pub called : List ℕ → PlainStmts
called f = only_stmt (run_stmt (call_expr f no_exprs))

-- if ($a) if ($b) c(); else d();
abbrev nested : List PlainKind
nested = name (codes "if") ∷ sign signs.OpenParen ∷ variable (codes "a") ∷ sign signs.CloseParen
    ∷ name (codes "IF") ∷ sign signs.OpenParen ∷ variable (codes "b") ∷ sign signs.CloseParen
    ∷ name (codes "c") ∷ sign signs.OpenParen ∷ sign signs.CloseParen ∷ sign signs.Semicolon
    ∷ name (codes "else") ∷ name (codes "D") ∷ sign signs.OpenParen ∷ sign signs.CloseParen ∷ sign signs.Semicolon ∷ []

-- the else belongs to the inner if, and names of functions are kept in lower case
nested_is_read : ReadAs (spelled nested) (body (only_stmt (if_stmt (more_arms (var_expr (codes "a"))
    (only_stmt (if_stmt (more_arms (var_expr (codes "b")) (called (codes "c")) no_arms) (called (codes "d")))) no_arms) no_stmts)))
unfolding run make php stmts_fit stmt_fits arms_fit expr_fits exprs_fit path_fits
nested_is_read = record { derived = has_value language _ 90 nested _ refl refl; fits = refl }

-- -$x;
abbrev negated : List PlainKind
negated = sign signs.Minus ∷ variable (codes "x") ∷ sign signs.Semicolon ∷ []

abbrev negation : PlainStmts
negation = only_stmt (run_stmt (neg_expr (var_expr (codes "x"))))

-- if ($a) f(); -$x;
abbrev two : List PlainKind
two = name (codes "if") ∷ sign signs.OpenParen ∷ variable (codes "a") ∷ sign signs.CloseParen
    ∷ name (codes "f") ∷ sign signs.OpenParen ∷ sign signs.CloseParen ∷ sign signs.Semicolon ∷ negated

-- behind an if without else the next statement begins with any operator that may begin one
two_are_read : ReadAs (spelled two) (body (more_stmts (if_stmt (more_arms (var_expr (codes "a")) (called (codes "f")) no_arms) no_stmts) negation))
unfolding run make php stmts_fit stmt_fits arms_fit expr_fits exprs_fit path_fits
two_are_read = record { derived = has_value language _ 90 two _ refl refl; fits = refl }

-- if ($a): f(); elseif ($b): g(); endif; -$x;
abbrev armed : List PlainKind
armed = name (codes "if") ∷ sign signs.OpenParen ∷ variable (codes "a") ∷ sign signs.CloseParen ∷ sign signs.Colon
    ∷ name (codes "f") ∷ sign signs.OpenParen ∷ sign signs.CloseParen ∷ sign signs.Semicolon
    ∷ name (codes "elseif") ∷ sign signs.OpenParen ∷ variable (codes "b") ∷ sign signs.CloseParen ∷ sign signs.Colon
    ∷ name (codes "g") ∷ sign signs.OpenParen ∷ sign signs.CloseParen ∷ sign signs.Semicolon ∷ name (codes "endif") ∷ sign signs.Semicolon ∷ negated

-- the same behind arms with colons
armed_is_read : ReadAs (spelled armed) (body (more_stmts (if_stmt (more_arms (var_expr (codes "a")) (called (codes "f"))
    (more_arms (var_expr (codes "b")) (called (codes "g")) no_arms)) no_stmts) negation))
unfolding run make php stmts_fit stmt_fits arms_fit expr_fits exprs_fit path_fits
armed_is_read = record { derived = has_value language _ 120 armed _ refl refl; fits = refl }

-- $a . $b . $c; is one flat join
abbrev joins : List PlainKind
joins = variable (codes "a") ∷ sign signs.Dot ∷ variable (codes "b") ∷ sign signs.Dot ∷ variable (codes "c") ∷ sign signs.Semicolon ∷ []

joins_are_read : ReadAs (spelled joins) (body (only_stmt (run_stmt (join_expr (more_exprs (var_expr (codes "a")) (more_exprs (var_expr (codes "b")) (more_exprs (var_expr (codes "c")) no_exprs)))))))
unfolding run make php stmts_fit stmt_fits expr_fits exprs_fit path_fits
joins_are_read = record { derived = has_value language _ 60 joins _ refl refl; fits = refl }

-- !$x = 1; is PHP, and outside of the language
abbrev operand : List PlainKind
operand = sign signs.Not ∷ variable (codes "x") ∷ sign signs.Assign ∷ integer (pos 1) ∷ sign signs.Semicolon ∷ []

operand_has_no_value : (v : Value) → HasValue php.grammar language operand v → ⊥
unfolding run make php stmts_fit stmt_fits expr_fits path_fits
operand_has_no_value v h = no_value _ 40 operand v refl (omega arith) refl h

-- class A { } is PHP too, and outside of the language
abbrev class_a : List PlainKind
class_a = name (codes "class") ∷ name (codes "A") ∷ sign signs.OpenBrace ∷ sign signs.CloseBrace ∷ []

class_has_no_value : (v : Value) → HasValue php.grammar language class_a v → ⊥
unfolding run make php stmts_fit stmt_fits expr_fits path_fits
class_has_no_value v h = no_value _ 40 class_a v refl (omega arith) refl h

-- and so is $x = $y = 1 < 2 and 3;
abbrev loosely : List PlainKind
loosely = variable (codes "x") ∷ sign signs.Assign ∷ variable (codes "y") ∷ sign signs.Assign ∷ integer (pos 1) ∷ sign signs.Less ∷ integer (pos 2)
    ∷ name (codes "and") ∷ integer (pos 3) ∷ sign signs.Semicolon ∷ []

loosely_has_no_value : (v : Value) → HasValue php.grammar language loosely v → ⊥
unfolding run make php stmts_fit stmt_fits expr_fits path_fits
loosely_has_no_value v h = no_value _ 70 loosely v refl (omega arith) refl h
