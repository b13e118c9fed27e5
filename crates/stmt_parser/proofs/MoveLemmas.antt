-- Each move behind an expression is the making of its value and then what follows it.
use Rattle.std.proofs.Common.{◌≡◌, ℕ, ◌+◌, Bool, true, false, List, [], ◌∷◌, refl, ap, ◌∙◌}
use Rattle.std.specs.Prelude.{Option, Some, None, if◌then◌else◌}
use Rattle.php_syntax.specs.declared.token.Sign.TheVariants as sign
use Rattle.script_grammar.specs.declared.keyword.Keyword.TheVariants as word
use Rattle.script_grammar.specs.Terminals.{Terminal, variable_terminal, word_terminal, sign_terminal}
use Rattle.expr_machine.specs.Actions.{Action}
use Rattle.expr_machine.specs.Machine.{behind}
use Rattle.stmt_machine.specs.declared.frame.Loop.{Loop}
use Rattle.stmt_machine.specs.declared.frame.Loop.TheVariants as loop
use Rattle.stmt_machine.specs.declared.frame.Row.{Row}
use Rattle.stmt_machine.specs.declared.frame.Focus.TheVariants as focus
use Rattle.stmt_machine.specs.declared.frame.Frame.{Frame}
use Rattle.stmt_machine.specs.declared.frame.Frame.TheVariants as frame
use Rattle.stmt_machine.specs.Actions.{StmtAction, value_action, open_action, do_action}
use Rattle.stmt_machine.specs.Machine.{Move, moves, stuck, colon_next, semicolon_next, value_move, listed_move, if_move, body_move, while_move, each_move, foreach_move, for_condition_move, elseif_move, else_if_move, colon_elseif_move, do_end_move, jump_move}
use Rattle.stmt_machine.specs.Made.{Made, apply_stmt}
use Rattle.stmt_builder.specs.Answers.{Does}
use Rattle.stmt_parser.specs.Nexts.{value_next, listed_next, if_next, body_next, each_next, for_condition_next, elseif_next, else_if_next, colon_elseif_next}
use Rattle.stmt_parser.specs.Outcomes.{failed, acted, on_made, with_action, GoesOn, behind_value, reads_as}
use Rattle.stmt_parser.proofs.ActedLemmas.{acted_behind, acted_first}

-- tests
if_goes : (b : Bool) (x y : Move) → GoesOn x → GoesOn y → GoesOn (if b then x else y)
if_goes true x y p q = p
if_goes false x y p q = q

if_with : {z w : Move} (b : Bool) (a : StmtAction) (x y : Move) → z ≡ with_action a x → w ≡ with_action a y → (if b then z else w) ≡ with_action a (if b then x else y)
if_with true a x y p q = p
if_with false a x y p q = q

value_same : (a : StmtAction) (fs : List Frame) (found : Option (List Action × List Terminal)) → value_move a fs found ≡ behind_value found (value_next a fs)
value_same a fs None = refl
value_same a fs (Some found) = refl

pub value_acted : (a : StmtAction) (fs : List Frame) (found : Option (List Action × List Terminal)) (m : Made) → acted (value_move a fs found) m ≡ reads_as found m (λ r n. acted (value_next a fs r) n)
value_acted a fs found m = ap (λ x. acted x m) (value_same a fs found) ∙ acted_behind found (value_next a fs) m (λ r. tt)

listed_same : (l : Row) (k : ℕ) (fs : List Frame) (found : Option (List Action × List Terminal)) → listed_move l k fs found ≡ behind_value found (listed_next l k fs)
listed_same l k fs None = refl
listed_same l k fs (Some found) = refl

pub listed_acted : (l : Row) (k : ℕ) (fs : List Frame) (found : Option (List Action × List Terminal)) (m : Made) → acted (listed_move l k fs found) m ≡ reads_as found m (λ r n. acted (listed_next l k fs r) n)
listed_acted l k fs found m = ap (λ x. acted x m) (listed_same l k fs found) ∙ acted_behind found (listed_next l k fs) m (λ r. tt)

if_same : (fs : List Frame) (found : Option (List Action × List Terminal)) → if_move fs found ≡ behind_value found (if_next fs)
if_same fs None = refl
if_same fs (Some found) =
    if_with (colon_next found.1) (value_action found.0) (moves focus.Behind (frame.ColonArm 1 ∷ fs) (behind found.1) (open_action false ∷ [])) (moves focus.Begin (frame.Arm 1 ∷ fs) found.1 (open_action false ∷ [])) refl refl

pub if_acted : (fs : List Frame) (found : Option (List Action × List Terminal)) (m : Made) → acted (if_move fs found) m ≡ reads_as found m (λ r n. acted (if_next fs r) n)
if_acted fs found m = ap (λ x. acted x m) (if_same fs found) ∙ acted_behind found (if_next fs) m (λ r. if_goes (colon_next r) _ _ tt tt)

body_with : (l : Loop) (fs : List Frame) (r : List Terminal) (a : StmtAction) → body_move l fs r (λ acts. a ∷ acts) ≡ with_action a (body_next l fs r)
body_with l fs r a = if_with (colon_next r) a (moves focus.Behind (frame.ColonBody l ∷ fs) (behind r) (open_action true ∷ [])) (moves focus.Begin (frame.Body l ∷ fs) r (open_action true ∷ [])) refl refl

body_goes : (l : Loop) (fs : List Frame) (r : List Terminal) → GoesOn (body_next l fs r)
body_goes l fs r = if_goes (colon_next r) _ _ tt tt

while_same : (fs : List Frame) (found : Option (List Action × List Terminal)) → while_move fs found ≡ behind_value found (body_next loop.While fs)
while_same fs None = refl
while_same fs (Some found) = body_with loop.While fs found.1 (value_action found.0)

pub while_acted : (fs : List Frame) (found : Option (List Action × List Terminal)) (m : Made) → acted (while_move fs found) m ≡ reads_as found m (λ r n. acted (body_next loop.While fs r) n)
while_acted fs found m = ap (λ x. acted x m) (while_same fs found) ∙ acted_behind found (body_next loop.While fs) m (body_goes loop.While fs)

each_with : (acts : List Action) (fs : List Frame) (ts : List Terminal) → each_move acts fs ts ≡ with_action (value_action acts) (each_next fs ts)
each_with acts fs (word_terminal word.As ∷ variable_terminal x ∷ sign_terminal sign.CloseParen ∷ r) = body_with (loop.Each None x) fs r (value_action acts)
each_with acts fs (word_terminal word.As ∷ variable_terminal k ∷ sign_terminal sign.DoubleArrow ∷ variable_terminal x ∷ sign_terminal sign.CloseParen ∷ r) = body_with (loop.Each (Some k) x) fs r (value_action acts)
each_with acts fs _ = refl

each_goes : (fs : List Frame) (ts : List Terminal) → GoesOn (each_next fs ts)
each_goes fs (word_terminal word.As ∷ variable_terminal x ∷ sign_terminal sign.CloseParen ∷ r) = body_goes (loop.Each None x) fs r
each_goes fs (word_terminal word.As ∷ variable_terminal k ∷ sign_terminal sign.DoubleArrow ∷ variable_terminal x ∷ sign_terminal sign.CloseParen ∷ r) = body_goes (loop.Each (Some k) x) fs r
each_goes fs _ = tt

foreach_same : (fs : List Frame) (found : Option (List Action × List Terminal)) → foreach_move fs found ≡ behind_value found (each_next fs)
foreach_same fs None = refl
foreach_same fs (Some found) = each_with found.0 fs found.1

pub foreach_acted : (fs : List Frame) (found : Option (List Action × List Terminal)) (m : Made) → acted (foreach_move fs found) m ≡ reads_as found m (λ r n. acted (each_next fs r) n)
foreach_acted fs found m = ap (λ x. acted x m) (foreach_same fs found) ∙ acted_behind found (each_next fs) m (each_goes fs)

condition_same : (k : ℕ) (fs : List Frame) (found : Option (List Action × List Terminal)) → for_condition_move k fs found ≡ behind_value found (for_condition_next k fs)
condition_same k fs None = refl
condition_same k fs (Some found) = refl

pub condition_acted : (k : ℕ) (fs : List Frame) (found : Option (List Action × List Terminal)) (m : Made) → acted (for_condition_move k fs found) m ≡ reads_as found m (λ r n. acted (for_condition_next k fs r) n)
condition_acted k fs found m = ap (λ x. acted x m) (condition_same k fs found) ∙ acted_behind found (for_condition_next k fs) m (λ r. tt)

elseif_same : (k : ℕ) (fs : List Frame) (found : Option (List Action × List Terminal)) → elseif_move k fs found ≡ behind_value found (elseif_next k fs)
elseif_same k fs None = refl
elseif_same k fs (Some found) = refl

pub elseif_acted : (k : ℕ) (fs : List Frame) (found : Option (List Action × List Terminal)) (m : Made) → acted (elseif_move k fs found) m ≡ reads_as found m (λ r n. acted (elseif_next k fs r) n)
elseif_acted k fs found m = ap (λ x. acted x m) (elseif_same k fs found) ∙ acted_behind found (elseif_next k fs) m (λ r. tt)

else_if_value : (k : ℕ) (fs : List Frame) (acts : List Action) (r : List Terminal) → (if colon_next r then moves focus.Behind (frame.ColonArm 1 ∷ frame.Else k ∷ fs) (behind r) (open_action false ∷ value_action acts ∷ open_action false ∷ []) else moves focus.Begin (frame.Arm (k + 1) ∷ fs) r (open_action false ∷ value_action acts ∷ [])) ≡ with_action (open_action false) (with_action (value_action acts) (else_if_next k fs r))
else_if_value k fs acts r = go (colon_next r)
  where
    go : (b : Bool) → (if b then moves focus.Behind (frame.ColonArm 1 ∷ frame.Else k ∷ fs) (behind r) (open_action false ∷ value_action acts ∷ open_action false ∷ []) else moves focus.Begin (frame.Arm (k + 1) ∷ fs) r (open_action false ∷ value_action acts ∷ [])) ≡ with_action (open_action false) (with_action (value_action acts) (if b then moves focus.Behind (frame.ColonArm 1 ∷ frame.Else k ∷ fs) (behind r) (open_action false ∷ []) else moves focus.Begin (frame.Arm (k + 1) ∷ fs) r []))
    go true = refl
    go false = refl

else_if_same : (k : ℕ) (fs : List Frame) (found : Option (List Action × List Terminal)) → else_if_move k fs found ≡ with_action (open_action false) (behind_value found (else_if_next k fs))
else_if_same k fs None = refl
else_if_same k fs (Some found) = else_if_value k fs found.0 found.1

with_goes : (a : StmtAction) (x : Move) → GoesOn (with_action a x)
with_goes a (moves f fs r acts) = tt
with_goes a _ = tt

behind_goes : (found : Option (List Action × List Terminal)) (next : List Terminal → Move) → GoesOn (behind_value found next)
behind_goes None next = tt
behind_goes (Some found) next = with_goes (value_action found.0) (next found.1)

-- a body is opened first
pub else_if_acted : (k : ℕ) (fs : List Frame) (found : Option (List Action × List Terminal)) (m : Made) → acted (else_if_move k fs found) m ≡ on_made (apply_stmt (open_action false) m) (acted (behind_value found (else_if_next k fs)))
else_if_acted k fs found m = ap (λ x. acted x m) (else_if_same k fs found) ∙ acted_first (open_action false) (behind_value found (else_if_next k fs)) m (behind_goes found (else_if_next k fs))

pub else_if_behind : (k : ℕ) (fs : List Frame) (found : Option (List Action × List Terminal)) (m : Made) → acted (behind_value found (else_if_next k fs)) m ≡ reads_as found m (λ r n. acted (else_if_next k fs r) n)
else_if_behind k fs found m = acted_behind found (else_if_next k fs) m (λ r. if_goes (colon_next r) _ _ tt tt)

colon_elseif_same : (k : ℕ) (fs : List Frame) (found : Option (List Action × List Terminal)) → colon_elseif_move k fs found ≡ behind_value found (colon_elseif_next k fs)
colon_elseif_same k fs None = refl
colon_elseif_same k fs (Some found) = if_with (colon_next found.1) (value_action found.0) (moves focus.Behind (frame.ColonArm (k + 1) ∷ fs) (behind found.1) (open_action false ∷ [])) stuck refl refl

pub colon_elseif_acted : (k : ℕ) (fs : List Frame) (found : Option (List Action × List Terminal)) (m : Made) → acted (colon_elseif_move k fs found) m ≡ reads_as found m (λ r n. acted (colon_elseif_next k fs r) n)
colon_elseif_acted k fs found m = ap (λ x. acted x m) (colon_elseif_same k fs found) ∙ acted_behind found (colon_elseif_next k fs) m (λ r. if_goes (colon_next r) _ _ tt tt)

do_end_same : (fs : List Frame) (found : Option (List Action × List Terminal)) → do_end_move fs found ≡ behind_value found (jump_move do_action fs)
do_end_same fs None = refl
do_end_same fs (Some found) = if_with (semicolon_next found.1) (value_action found.0) (moves focus.Behind fs (behind found.1) (do_action ∷ [])) stuck refl refl

pub do_end_acted : (fs : List Frame) (found : Option (List Action × List Terminal)) (m : Made) → acted (do_end_move fs found) m ≡ reads_as found m (λ r n. acted (jump_move do_action fs r) n)
do_end_acted fs found m = ap (λ x. acted x m) (do_end_same fs found) ∙ acted_behind found (jump_move do_action fs) m (λ r. if_goes (semicolon_next r) _ _ tt tt)

does_not : (wanted : Option Made) (done : Bool) (m : Made) → Does wanted done m → done ≡ false → wanted ≡ None
does_not wanted true m h e = absurd (cc)
does_not wanted false m h e = h

does : (wanted : Option Made) (done : Bool) (m : Made) → Does wanted done m → done ≡ true → wanted ≡ Some m
does wanted true m h e = h
does wanted false m h e = absurd (cc)

pub else_if_fails : (k : ℕ) (fs : List Frame) (found : Option (List Action × List Terminal)) (m n : Made) (done : Bool) → Does (apply_stmt (open_action false) m) done n → done ≡ false → acted (else_if_move k fs found) m ≡ failed
else_if_fails k fs found m n done h e = else_if_acted k fs found m ∙ ap (λ x. on_made x (acted (behind_value found (else_if_next k fs)))) (does_not (apply_stmt (open_action false) m) done n h e)

pub else_if_opens : (k : ℕ) (fs : List Frame) (found : Option (List Action × List Terminal)) (m n : Made) (done : Bool) → Does (apply_stmt (open_action false) m) done n → done ≡ true → acted (else_if_move k fs found) m ≡ reads_as found n (λ r q. acted (else_if_next k fs r) q)
else_if_opens k fs found m n done h e = else_if_acted k fs found m ∙ ap (λ x. on_made x (acted (behind_value found (else_if_next k fs)))) (does (apply_stmt (open_action false) m) done n h e) ∙ else_if_behind k fs found n
