-- Lists of calls, side by side.
use Rattle.std.proofs.Common.{◌≡◌, ◌∙◌, suc, List, [], ◌∷◌, ◌++◌, length, append_assoc, refl, sym, ap}
use Rattle.std.specs.List.{fold}
use Rattle.std.proofs.lemmas.List.{append-nil}
use Rattle.php_syntax.specs.declared.tree.Expr.{Expr}
use Rattle.php_syntax.specs.Trees.{PlainStmts, PlainFunction, exprs_of}
use Rattle.program_expressions.specs.Collected.{itself, stmts_collected, bodies_collected}
use Rattle.program_expressions.proofs.CollectedLemmas.{TakesUp, takes_stmts, takes_bodies}
use Rattle.program_rules.specs.Calls.{PlainCall, number_of, own_call, statement_calls, function_calls}
use Rattle.tree_walks.specs.declared.call.Call.{Call}
use Rattle.tree_walks.specs.Seen.{plain_call, calls_seen}

pub seen_append : (xs ys : List Call) → calls_seen (xs ++ ys) ≡ calls_seen xs ++ calls_seen ys
seen_append [] ys = refl
seen_append (x ∷ xs) ys = ap (λ (cs : List PlainCall). plain_call x ∷ cs) (seen_append xs ys)

pub number_of_exprs : (es : List Expr) → number_of (exprs_of es) ≡ length es
unfolding number_of
number_of_exprs [] = refl
number_of_exprs (e ∷ es) = ap suc (number_of_exprs es)

-- calls are put behind others
put_behind : TakesUp (λ (calls more : List PlainCall). calls ++ more)
put_behind = record { nothing = λ calls. append-nil calls; one_by_one = λ calls a b. sym (append_assoc calls a b) }

pub of_stmts : (calls : List PlainCall) (ss : PlainStmts) → fold (λ calls e. calls ++ own_call e) calls (stmts_collected itself ss) ≡ calls ++ statement_calls ss
of_stmts calls ss = takes_stmts (λ (calls more : List PlainCall). calls ++ more) own_call put_behind calls ss

pub of_bodies : (calls : List PlainCall) (fs : List PlainFunction) → fold (λ calls e. calls ++ own_call e) calls (bodies_collected itself fs) ≡ calls ++ function_calls fs
of_bodies calls fs = takes_bodies (λ (calls more : List PlainCall). calls ++ more) own_call put_behind calls fs

-- the calls of statements and then those of functions, put behind those found before
pub behind : (found all begin first calls : List Call) (ss body : PlainStmts) (fs functions : List PlainFunction)
    → begin ≡ [] → body ≡ ss → functions ≡ fs
    → calls_seen first ≡ fold (λ calls e. calls ++ own_call e) (calls_seen begin) (stmts_collected itself body)
    → calls_seen calls ≡ fold (λ calls e. calls ++ own_call e) (calls_seen first) (bodies_collected itself functions)
    → all ≡ found ++ calls → calls_seen all ≡ calls_seen found ++ (statement_calls ss ++ function_calls fs)
behind found all begin first calls ss body fs functions none is_body are_functions one two joined =
    let main : calls_seen first ≡ statement_calls ss =
    one ∙ of_stmts (calls_seen begin) body ∙ ap (λ (l : List Call). calls_seen l ++ statement_calls body) none ∙ ap (λ (b : PlainStmts). statement_calls b) is_body in
    let both : calls_seen calls ≡ statement_calls ss ++ function_calls fs =
    two ∙ of_bodies (calls_seen first) functions ∙ ap (λ (l : List PlainCall). l ++ function_calls functions) main
    ∙ ap (λ (g : List PlainFunction). statement_calls ss ++ function_calls g) are_functions in
    ap calls_seen joined ∙ seen_append found calls ∙ ap (λ (l : List PlainCall). calls_seen found ++ l) both

pub ruleset ends = (append-nil, append_assoc, seen_append)
