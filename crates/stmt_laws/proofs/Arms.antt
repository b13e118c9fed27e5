-- The arms of an `if`: their conditions and bodies on the stacks, and what is taken off.
use Rattle.std.proofs.Common.{◌≡◌, ◌∙◌, ℕ, ◌+◌, Bool, List, [], ◌∷◌, refl, ap, add-one, Some, None}
use Rattle.std.specs.Prelude.{Option, max}
use Rattle.php_syntax.specs.Trees.{PlainStmts, PlainArms, no_arms, more_arms, if_stmt}
use Rattle.php_syntax.specs.Height.{height, arms_height, stmt_height, stmts_height}
use Rattle.expr_machine.specs.Values.{PlainValue, value_of_tree, take_values}
use Rattle.stmt_machine.specs.Actions.{StmtAction}
use Rattle.stmt_machine.specs.Made.{Row, row_of, PlainBody, Functions, on_some, put, if_node, add_arm, gather_arms, take_bodies, put_if_stmt, execute_stmts}
use Rattle.expr_laws.proofs.Carry.{Goes}
use Rattle.stmt_laws.proofs.TreeRows.{kept, put_stmt}
use Rattle.stmt_laws.proofs.States.{Left, Header, body, made}
use Rattle.stmt_laws.proofs.Nodes.{arm_kept, if_kept}
use Rattle.stmt_laws.proofs.TreeSimple.{node_done}

-- what a run comes to behind so many arms, of the values, the last row and the bodies below it
abbrev pub Finish : Type 0
Finish = ℕ → List PlainValue → Row → List PlainBody → Left

-- behind further arms
abbrev pub behind_arms : Bool → Bool → Finish → PlainArms → Finish
behind_arms l g finish no_arms n vs r bs = finish n vs r bs
behind_arms l g finish (more_arms e ss a) n vs r bs = behind_arms l g finish a (n + 1) (value_of_tree e ∷ vs) (row_of ss) (body l g r ∷ bs)

-- a test behind the arms
pub test_behind : (l g : Bool) (a : PlainArms) (b : Bool) (x y : Finish) → ((n : ℕ) (vs : List PlainValue) (r : Row) (bs : List PlainBody) → Goes (x n vs r bs) b (y n vs r bs))
    → (n : ℕ) (vs : List PlainValue) (r : Row) (bs : List PlainBody) → Goes (behind_arms l g x a n vs r bs) b (behind_arms l g y a n vs r bs)
test_behind l g no_arms b x y go n vs r bs = go n vs r bs
test_behind l g (more_arms e ss a) b x y go n vs r bs = test_behind l g a b x y go (n + 1) (value_of_tree e ∷ vs) (row_of ss) (body l g r ∷ bs)

abbrev pub arms_values : PlainArms → List PlainValue
arms_values no_arms = []
arms_values (more_arms e ss a) = value_of_tree e ∷ arms_values a

abbrev pub arms_rows : PlainArms → List Row
arms_rows no_arms = []
arms_rows (more_arms e ss a) = row_of ss ∷ arms_rows a

abbrev pub TakenBodies : Type 0
TakenBodies = Option (List Row × List PlainBody)

abbrev pub TakenValues : Type 0
TakenValues = Option (List PlainValue × List PlainValue)

-- what is taken off behind the arms
pub taken_behind : (l g : Bool) (a : PlainArms) (close : TakenBodies → TakenValues → Left) (n : ℕ) (vs : List PlainValue) (r : Row) (bs : List PlainBody)
    → behind_arms l g (λ n vs r bs. close (take_bodies n [] (body l g r ∷ bs)) (take_values n [] vs)) a n vs r bs
    ≡ close (take_bodies n (arms_rows a) (body l g r ∷ bs)) (take_values n (arms_values a) vs)
taken_behind l g no_arms close n vs r bs = refl
taken_behind l g (more_arms e ss a) close n vs r bs =
    taken_behind l g a close (n + 1) (value_of_tree e ∷ vs) (row_of ss) (body l g r ∷ bs)
    ∙ ap (λ k. close (take_bodies k (arms_rows a) (body l g (row_of ss) ∷ body l g r ∷ bs)) (take_values k (arms_values a) (value_of_tree e ∷ vs))) (add-one n)

pub arms_gathered : (a : PlainArms) → gather_arms (arms_values a) (arms_rows a) ≡ kept a (arms_height a)
unfolding height stmt_height
arms_gathered no_arms = refl
arms_gathered (more_arms e ss a) = ap (add_arm (value_of_tree e) (row_of ss)) (arms_gathered a) ∙ arm_kept e ss a

-- the end of an `if` on what was taken off
abbrev pub closes : Row → Header → Functions → List StmtAction → TakenBodies → TakenValues → Left
closes last h fs k None conditions = None
closes last h fs k (Some bodies) None = None
closes last h fs k (Some bodies) (Some conditions) = on_some (put (if_node (gather_arms conditions.0 bodies.0) last) (made conditions.1 bodies.1 h fs)) (execute_stmts k)

closes_by : (last : Row) (h : Header) (fs : Functions) (k : List StmtAction) (taken : TakenBodies) (conditions : TakenValues)
    → on_some (on_some taken (λ bodies. on_some conditions (λ conditions. put (if_node (gather_arms conditions.0 bodies.0) last) (made conditions.1 bodies.1 h fs)))) (execute_stmts k)
    ≡ closes last h fs k taken conditions
closes_by last h fs k None conditions = refl
closes_by last h fs k (Some bodies) None = refl
closes_by last h fs k (Some bodies) (Some conditions) = refl

pub closed : (n : ℕ) (last : Row) (vs : List PlainValue) (bs cs : List PlainBody) (h : Header) (fs : Functions) (k : List StmtAction)
    → on_some (put_if_stmt n last bs (made vs cs h fs)) (execute_stmts k) ≡ closes last h fs k (take_bodies n [] bs) (take_values n [] vs)
closed n last vs bs cs h fs k = closes_by last h fs k (take_bodies n [] bs) (take_values n [] vs)

-- a whole `if`
pub if_end : (a : PlainArms) (ss : PlainStmts) (l g : Bool) (r : Row) (k : List StmtAction) (vs : List PlainValue) (bs : List PlainBody) (h : Header) (fs : Functions)
    → closes (row_of ss) h fs k (Some (arms_rows a, body l g r ∷ bs)) (Some (arms_values a, vs)) ≡ execute_stmts k (made vs (body l g (put_stmt (if_stmt a ss) r) ∷ bs) h fs)
unfolding stmt_height
if_end a ss l g r k vs bs h fs =
    node_done (if_node (gather_arms (arms_values a) (arms_rows a)) (row_of ss)) (if_stmt a ss) (max (arms_height a) (stmts_height ss)) l g r k vs bs h fs
    (ap (λ o. if_node o (row_of ss)) (arms_gathered a) ∙ if_kept a ss) refl
