-- What a run reads, move by move.
use Rattle.std.proofs.Common.{◌≡◌, ℕ, ◌+◌, ◌<◌, ◌≤◌, zero, suc, List, [], ◌∷◌, ◌++◌, length, refl, ap, subst, arith, sym, ◌∙◌}
use Rattle.std.specs.Prelude.{Option, Some, None}
use Rattle.script_grammar.specs.Terminals.{Terminal}
use Rattle.expr_machine.specs.declared.frame.Focus.{Focus}
use Rattle.expr_machine.specs.declared.frame.Focus.TheVariants as focus
use Rattle.expr_machine.specs.declared.frame.Frame.{Frame}
use Rattle.expr_machine.specs.Actions.{Action}
use Rattle.expr_machine.specs.Machine.{Move, moves, finished, stuck, move}
use Rattle.expr_machine.specs.Values.{PlainValue, apply, with_those, execute}
use Rattle.expr_machine.specs.Reading.{weight, after_actions, run_from, run, run_on, expr_at, with_values, executed, reads_on, reads_after, reads_next}
use Rattle.expr_machine.proofs.EndFalls.{taken, Goes_down, move_goes_down}

lighter_of : (f : Focus) (fs : List Frame) (ts : List Terminal) (m : Move) (g : Focus) (gs : List Frame) (r : List Terminal) (acts : List Action) → Goes_down f fs ts m → m ≡ moves g gs r acts → weight g gs r < weight f fs ts
lighter_of f fs ts (moves g' gs' r' acts') g gs r acts h e = let P : Move → Type 0 = Goes_down f fs ts in (subst P e h).0
lighter_of f fs ts finished g gs r acts h e = absurd (cc)
lighter_of f fs ts stuck g gs r acts h e = absurd (cc)

pub lighter : (f : Focus) (fs : List Frame) (ts : List Terminal) (g : Focus) (gs : List Frame) (r : List Terminal) (acts : List Action) → move f fs ts ≡ moves g gs r acts → weight g gs r < weight f fs ts
lighter f fs ts g gs r acts e = lighter_of f fs ts (move f fs ts) g gs r acts (move_goes_down f fs ts) e

-- more moves than the weight change nothing

abbrev pub Reads : Type 0
Reads = Focus → List Frame → List Terminal → Option (List Action × List Terminal)

from_same : (run run' : Reads) (f : Focus) (fs : List Frame) (ts : List Terminal) (m : Move) → Goes_down f fs ts m → ((g : Focus) (gs : List Frame) (r : List Terminal) → weight g gs r < weight f fs ts → run g gs r ≡ run' g gs r) → run_from run ts m ≡ run_from run' ts m
from_same run run' f fs ts (moves g gs r acts) h same = ap (after_actions acts) (same g gs r h.0)
from_same run run' f fs ts finished h same = refl
from_same run run' f fs ts stuck h same = refl

pub enough : (n k : ℕ) (f : Focus) (fs : List Frame) (ts : List Terminal) → weight f fs ts < n → weight f fs ts < k → run n f fs ts ≡ run k f fs ts
unfolding run
enough zero k f fs ts p q = absurd (omega arith)
enough (suc n) zero f fs ts p q = absurd (omega arith)
enough (suc n) (suc k) f fs ts p q = from_same (run n) (run k) f fs ts (move f fs ts) (move_goes_down f fs ts) (λ g gs r h. enough n k g gs r (omega arith) (omega arith))

run_suc : (n : ℕ) (f : Focus) (fs : List Frame) (ts : List Terminal) → run (suc n) f fs ts ≡ run_from (run n) ts (move f fs ts)
unfolding run
run_suc n f fs ts = refl

one_more : (n : ℕ) → 1 + n ≡ suc n
one_more n = omega arith

run_on_next : (f : Focus) (fs : List Frame) (ts : List Terminal) → run_on f fs ts ≡ run_from run_on ts (move f fs ts)
run_on_next f fs ts =
    ap (λ n. run n f fs ts) (one_more (weight f fs ts))
    ∙ run_suc (weight f fs ts) f fs ts
    ∙ from_same (run (weight f fs ts)) run_on f fs ts (move f fs ts) (move_goes_down f fs ts) (λ g gs r h. enough (weight f fs ts) (1 + weight g gs r) g gs r h (omega arith))

-- the values after actions, and then others

those_assoc : (first : Option (List PlainValue)) (next last : List PlainValue → Option (List PlainValue)) → with_those first (λ vs. with_those (next vs) last) ≡ with_those (with_those first next) last
those_assoc None next last = refl
those_assoc (Some vs) next last = refl

those_same : (first : Option (List PlainValue)) (next next' : List PlainValue → Option (List PlainValue)) → ((vs : List PlainValue) → next vs ≡ next' vs) → with_those first next ≡ with_those first next'
those_same None next next' h = refl
those_same (Some vs) next next' h = h vs

pub execute_both : (acts others : List Action) (vs : List PlainValue) → execute (acts ++ others) vs ≡ with_those (execute acts vs) (execute others)
unfolding execute
execute_both [] others vs = refl
execute_both (a ∷ acts) others vs = those_same (apply a vs) (execute (acts ++ others)) (λ ws. with_those (execute acts ws) (execute others)) (execute_both acts others) ∙ those_assoc (apply a vs) (execute acts) (execute others)

values_after : (first : Option (List PlainValue)) (rest : List Action) (r s : List Terminal) (f : Focus) (fs : List Frame) → run_on f fs s ≡ Some (rest, r) → with_values (with_those first (execute rest)) r ≡ reads_after first f fs s
values_after None rest r s f fs e = refl
values_after (Some vs) rest r s f fs e = ap (λ x. executed x vs) (sym e)

after_none : (first : Option (List PlainValue)) (s : List Terminal) (f : Focus) (fs : List Frame) → run_on f fs s ≡ None → None ≡ reads_after first f fs s
after_none None s f fs e = refl
after_none (Some vs) s f fs e = ap (λ x. executed x vs) (sym e)

executed_after : (found : Option (List Action × List Terminal)) (acts : List Action) (s : List Terminal) (f : Focus) (fs : List Frame) (vs : List PlainValue) → run_on f fs s ≡ found → executed (after_actions acts found) vs ≡ reads_after (execute acts vs) f fs s
executed_after None acts s f fs vs e = after_none (execute acts vs) s f fs e
executed_after (Some rest) acts s f fs vs e = ap (λ x. with_values x rest.1) (execute_both acts rest.0 vs) ∙ values_after (execute acts vs) rest.0 rest.1 s f fs e

execute_none : (vs : List PlainValue) → execute [] vs ≡ Some vs
unfolding execute
execute_none vs = refl

executed_next : (m : Move) (ts : List Terminal) (vs : List PlainValue) → executed (run_from run_on ts m) vs ≡ reads_next ts vs m
executed_next (moves g gs r acts) ts vs = executed_after (run_on g gs r) acts r g gs vs refl
executed_next finished ts vs = ap (λ x. with_values x ts) (execute_none vs)
executed_next stuck ts vs = refl

pub goes_on : (f : Focus) (fs : List Frame) (ts : List Terminal) (vs : List PlainValue) → reads_on f fs ts vs ≡ reads_next ts vs (move f fs ts)
goes_on f fs ts vs = ap (λ x. executed x vs) (run_on_next f fs ts) ∙ executed_next (move f fs ts) ts vs

-- what is left behind an expression is shorter

abbrev pub Left : ℕ → ℕ → Option (List Action × List Terminal) → Type 0
Left k n None = Unit {0}
Left k n (Some found) = length found.1 + k ≤ n

left_after : (acts : List Action) (found : Option (List Action × List Terminal)) (k m n j : ℕ) → m + j ≤ n → Left k m found → Left j n (after_actions acts found)
left_after acts None k m n j p h = tt
left_after acts (Some found) k m n j p h = omega arith

left_from : (next : Reads) (f : Focus) (fs : List Frame) (ts : List Terminal) (m : Move) → Goes_down f fs ts m → ((g : Focus) (gs : List Frame) (r : List Terminal) → Left (taken g) (length r) (next g gs r)) → Left (taken f) (length ts) (run_from next ts m)
left_from next f fs ts (moves g gs r acts) h left = left_after acts (next g gs r) (taken g) (length r) (length ts) (taken f) h.1 (left g gs r)
left_from next f fs ts finished h left = h
left_from next f fs ts stuck h left = tt

left_run : (n : ℕ) (f : Focus) (fs : List Frame) (ts : List Terminal) → Left (taken f) (length ts) (run n f fs ts)
unfolding run
left_run zero f fs ts = tt
left_run (suc n) f fs ts = left_from (run n) f fs ts (move f fs ts) (move_goes_down f fs ts) (left_run n)

pub shorter : (ts : List Terminal) (acts : List Action) (r : List Terminal) → expr_at ts ≡ Some (acts, r) → length r < length ts
shorter ts acts r e =
    let P : Option (List Action × List Terminal) → Type 0 = Left 1 (length ts) in
    let h : length r + 1 ≤ length ts = subst P e (left_run (1 + weight focus.Begin [] ts) focus.Begin [] ts) in
    omega arith
