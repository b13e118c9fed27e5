-- Actions in turn, as a template has them.
use Rattle.std.proofs.Common.{◌≡◌, Bool, true, false, List, [], ◌∷◌, refl, ap, ◌∙◌}
use Rattle.std.specs.Prelude.{Some, None, Result, Ok, Err, IfOk}
use Rattle.expr_machine.specs.Actions.{Action}
use Rattle.expr_machine.specs.Values.{PlainValue, apply, with_those, execute}
use Rattle.expr_builder.specs.Outcomes.{Applied, AppliedFirst}

pub run_one : (a : Action) (r : List Action) (vs ws : List PlainValue) → apply a vs ≡ Some ws → execute (a ∷ r) vs ≡ execute r ws
unfolding execute
run_one a r vs ws h = ap (λ x. with_those x (execute r)) h

pub run_none : (a : Action) (r : List Action) (vs : List PlainValue) → apply a vs ≡ None → execute (a ∷ r) vs ≡ None
unfolding execute
run_none a r vs h = ap (λ x. with_those x (execute r)) h

pub run_end : (vs : List PlainValue) → execute [] vs ≡ Some vs
unfolding execute
run_end vs = refl

pub run_last : (fine : Bool) (a : Action) (vs ws : List PlainValue) → Applied fine (apply a vs) ws → Applied fine (execute (a ∷ []) vs) ws
run_last true a vs ws h = run_one a [] vs ws h ∙ run_end ws
run_last false a vs ws h = run_none a [] vs h

-- one action, and then others
pub run_before : (fine : Bool) (a : Action) (acts : List Action → List Action) (vs us ws : List PlainValue) → apply a vs ≡ Some us → AppliedFirst fine acts us ws → AppliedFirst fine (λ r. a ∷ acts r) vs ws
run_before true a acts vs us ws h k = λ r. run_one a (acts r) vs us h ∙ k r
run_before false a acts vs us ws h k = λ r. run_one a (acts r) vs us h ∙ k r

-- some actions, and then one
pub run_after : (fine : Bool) (acts : List Action → List Action) (a : Action) (vs us ws : List PlainValue) → AppliedFirst true acts vs us → Applied fine (apply a us) ws → Applied fine (execute (acts (a ∷ [])) vs) ws
run_after true acts a vs us ws h k = h (a ∷ []) ∙ run_last true a us ws k
run_after false acts a vs us ws h k = h (a ∷ []) ∙ run_last false a us ws k

-- what a call answered, passed on

pub passed_last : {E : Type 0} (result : Result Bool E) (a : Action) (vs ws : List PlainValue) → IfOk result (λ fine. Applied fine (apply a vs) ws) → IfOk result (λ fine. Applied fine (execute (a ∷ []) vs) ws)
passed_last (Ok fine) a vs ws h = run_last fine a vs ws h
passed_last (Err x) a vs ws h = tt

pub passed_first : {E : Type 0} (result : Result Bool E) (a : Action) (acts : List Action → List Action) (vs ws : List PlainValue) → ((r : List Action) → acts r ≡ a ∷ r) → IfOk result (λ fine. Applied fine (apply a vs) ws) → IfOk result (λ fine. AppliedFirst fine acts vs ws)
passed_first (Ok true) a acts vs ws e h = λ r. ap (λ x. execute x vs) (e r) ∙ run_one a r vs ws h
passed_first (Ok false) a acts vs ws e h = λ r. ap (λ x. execute x vs) (e r) ∙ run_none a r vs h
passed_first (Err x) a acts vs ws e h = tt

pub passed_after : {E : Type 0} (result : Result Bool E) (first : List Action → List Action) (a : Action) (vs us ws : List PlainValue) → AppliedFirst true first vs us → IfOk result (λ fine. Applied fine (apply a us) ws) → IfOk result (λ fine. Applied fine (execute (first (a ∷ [])) vs) ws)
passed_after (Ok fine) first a vs us ws h k = run_after fine first a vs us ws h k
passed_after (Err x) first a vs us ws h k = tt

pub passed_before : {E : Type 0} (result : Result Bool E) (a : Action) (acts : List Action → List Action) (vs us ws : List PlainValue) → apply a vs ≡ Some us → IfOk result (λ fine. AppliedFirst fine acts us ws) → IfOk result (λ fine. AppliedFirst fine (λ r. a ∷ acts r) vs ws)
passed_before (Ok fine) a acts vs us ws h k = run_before fine a acts vs us ws h k
passed_before (Err x) a acts vs us ws h k = tt

-- what a test of the answer says

pub first_true : (fine : Bool) (acts : List Action → List Action) (vs ws : List PlainValue) → fine ≡ true → AppliedFirst fine acts vs ws → AppliedFirst true acts vs ws
first_true true acts vs ws e h = h
first_true false acts vs ws e h = absurd (cc)

pub first_false : (fine : Bool) (acts : List Action → List Action) (vs ws : List PlainValue) → fine ≡ false → AppliedFirst fine acts vs ws → (r : List Action) → execute (acts r) vs ≡ None
first_false true acts vs ws e h = absurd (cc)
first_false false acts vs ws e h = h

pub first_end : (fine : Bool) (acts : List Action → List Action) (vs ws : List PlainValue) → AppliedFirst fine acts vs ws → Applied fine (execute (acts []) vs) ws
first_end true acts vs ws h = h [] ∙ run_end ws
first_end false acts vs ws h = h []

pub one_true : (fine : Bool) (a : Action) (vs ws : List PlainValue) → fine ≡ true → Applied fine (apply a vs) ws → apply a vs ≡ Some ws
one_true true a vs ws e h = h
one_true false a vs ws e h = absurd (cc)

pub one_false : (fine : Bool) (a : Action) (vs ws : List PlainValue) → fine ≡ false → Applied fine (apply a vs) ws → apply a vs ≡ None
one_false true a vs ws e h = absurd (cc)
one_false false a vs ws e h = h

pub passed_actions : {E : Type 0} (result : Result Bool E) (acts others : List Action) (vs ws : List PlainValue) → acts ≡ others → IfOk result (λ fine. Applied fine (execute others vs) ws) → IfOk result (λ fine. Applied fine (execute acts vs) ws)
passed_actions (Ok true) acts others vs ws e h = ap (λ x. execute x vs) e ∙ h
passed_actions (Ok false) acts others vs ws e h = ap (λ x. execute x vs) e ∙ h
passed_actions (Err x) acts others vs ws e h = tt

pub passed_end : {E : Type 0} (result : Result Bool E) (acts : List Action → List Action) (vs ws : List PlainValue) → IfOk result (λ fine. AppliedFirst fine acts vs ws) → IfOk result (λ fine. Applied fine (execute (acts []) vs) ws)
passed_end (Ok fine) acts vs ws h = first_end fine acts vs ws h
passed_end (Err x) acts vs ws h = tt
