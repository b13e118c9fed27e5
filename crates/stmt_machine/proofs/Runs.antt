-- What a run makes, move by move.
use Rattle.std.proofs.Common.{◌≡◌, ℕ, ◌+◌, ◌<◌, zero, suc, List, [], ◌∷◌, ◌++◌, refl, ap, subst, arith, sym, ◌∙◌}
use Rattle.std.specs.Prelude.{Option, Some, None}
use Rattle.script_grammar.specs.Terminals.{Terminal}
use Rattle.stmt_machine.specs.declared.frame.Focus.{Focus}
use Rattle.stmt_machine.specs.declared.frame.Frame.{Frame}
use Rattle.stmt_machine.specs.Actions.{StmtAction}
use Rattle.stmt_machine.specs.Machine.{Move, moves, finished, stuck, move}
use Rattle.stmt_machine.specs.Made.{Made, on_some, apply_stmt, execute_stmts}
use Rattle.stmt_machine.specs.Reading.{weight, after_actions, run_from, run, run_on, makes_on, makes_after, makes_next}
use Rattle.stmt_machine.proofs.Falls.{Falls, ReadsShorter}
use Rattle.stmt_machine.proofs.BehindFalls.{move_falls}

lighter_of : (w : ℕ) (m : Move) (g : Focus) (gs : List Frame) (r : List Terminal) (acts : List StmtAction) → Falls w m → m ≡ moves g gs r acts → weight g gs r < w
lighter_of w (moves g' gs' r' acts') g gs r acts h e = let P : Move → Type 0 = Falls w in subst P e h
lighter_of w finished g gs r acts h e = absurd (cc)
lighter_of w stuck g gs r acts h e = absurd (cc)

pub lighter : ReadsShorter → (f : Focus) (fs : List Frame) (ts : List Terminal) (g : Focus) (gs : List Frame) (r : List Terminal) (acts : List StmtAction) → move f fs ts ≡ moves g gs r acts → weight g gs r < weight f fs ts
lighter law f fs ts g gs r acts e = lighter_of (weight f fs ts) (move f fs ts) g gs r acts (move_falls law f fs ts) e

-- more moves than the weight change nothing

abbrev pub Reads : Type 0
Reads = Focus → List Frame → List Terminal → Option (List StmtAction)

from_same : (run run' : Reads) (w : ℕ) (m : Move) → Falls w m → ((g : Focus) (gs : List Frame) (r : List Terminal) → weight g gs r < w → run g gs r ≡ run' g gs r) → run_from run m ≡ run_from run' m
from_same run run' w (moves g gs r acts) h same = ap (after_actions acts) (same g gs r h)
from_same run run' w finished h same = refl
from_same run run' w stuck h same = refl

enough : ReadsShorter → (n k : ℕ) (f : Focus) (fs : List Frame) (ts : List Terminal) → weight f fs ts < n → weight f fs ts < k → run n f fs ts ≡ run k f fs ts
unfolding run
enough law zero k f fs ts p q = absurd (omega arith)
enough law (suc n) zero f fs ts p q = absurd (omega arith)
enough law (suc n) (suc k) f fs ts p q = from_same (run n) (run k) (weight f fs ts) (move f fs ts) (move_falls law f fs ts) (λ g gs r h. enough law n k g gs r (omega arith) (omega arith))

run_suc : (n : ℕ) (f : Focus) (fs : List Frame) (ts : List Terminal) → run (suc n) f fs ts ≡ run_from (run n) (move f fs ts)
unfolding run
run_suc n f fs ts = refl

one_more : (n : ℕ) → 1 + n ≡ suc n
one_more n = omega arith

run_on_next : ReadsShorter → (f : Focus) (fs : List Frame) (ts : List Terminal) → run_on f fs ts ≡ run_from run_on (move f fs ts)
run_on_next law f fs ts =
    ap (λ n. run n f fs ts) (one_more (weight f fs ts))
    ∙ run_suc (weight f fs ts) f fs ts
    ∙ from_same (run (weight f fs ts)) run_on (weight f fs ts) (move f fs ts) (move_falls law f fs ts) (λ g gs r h. enough law (weight f fs ts) (1 + weight g gs r) g gs r h (omega arith))

-- what is made after actions, and then others

some_assoc : (first : Option Made) (next last : Made → Option Made) → on_some first (λ m. on_some (next m) last) ≡ on_some (on_some first next) last
some_assoc None next last = refl
some_assoc (Some m) next last = refl

some_same : (first : Option Made) (next next' : Made → Option Made) → ((m : Made) → next m ≡ next' m) → on_some first next ≡ on_some first next'
some_same None next next' h = refl
some_same (Some m) next next' h = h m

execute_both : (acts others : List StmtAction) (m : Made) → execute_stmts (acts ++ others) m ≡ on_some (execute_stmts acts m) (execute_stmts others)
unfolding execute_stmts
execute_both [] others m = refl
execute_both (a ∷ acts) others m = some_same (apply_stmt a m) (execute_stmts (acts ++ others)) (λ n. on_some (execute_stmts acts n) (execute_stmts others)) (execute_both acts others) ∙ some_assoc (apply_stmt a m) (execute_stmts acts) (execute_stmts others)

made_after : (first : Option Made) (found : Option (List StmtAction)) (g : Focus) (gs : List Frame) (r : List Terminal) → run_on g gs r ≡ found → on_some found (λ rest. on_some first (execute_stmts rest)) ≡ makes_after first g gs r
made_after None None g gs r e = refl
made_after None (Some rest) g gs r e = refl
made_after (Some m) None g gs r e = ap (λ x. on_some x (λ acts. execute_stmts acts m)) (sym e)
made_after (Some m) (Some rest) g gs r e = ap (λ x. on_some x (λ acts. execute_stmts acts m)) (sym e)

after_both : (found : Option (List StmtAction)) (acts : List StmtAction) (m : Made) → on_some (after_actions acts found) (λ a. execute_stmts a m) ≡ on_some found (λ rest. on_some (execute_stmts acts m) (execute_stmts rest))
after_both None acts m = refl
after_both (Some rest) acts m = execute_both acts rest m

execute_none : (m : Made) → execute_stmts [] m ≡ Some m
unfolding execute_stmts
execute_none m = refl

made_next : (x : Move) (m : Made) → on_some (run_from run_on x) (λ acts. execute_stmts acts m) ≡ makes_next m x
made_next (moves g gs r acts) m = after_both (run_on g gs r) acts m ∙ made_after (execute_stmts acts m) (run_on g gs r) g gs r refl
made_next finished m = execute_none m
made_next stuck m = refl

pub goes_on : ReadsShorter → (f : Focus) (fs : List Frame) (ts : List Terminal) (m : Made) → makes_on f fs ts m ≡ makes_next m (move f fs ts)
goes_on law f fs ts m = ap (λ x. on_some x (λ acts. execute_stmts acts m)) (run_on_next law f fs ts) ∙ made_next (move f fs ts) m
