-- What a move with its actions leads to, by what was done.
use Rattle.std.proofs.Common.{◌≡◌, Bool, true, false, List, [], ◌∷◌, refl, ap, sym, ◌∙◌}
use Rattle.std.specs.Prelude.{Option, Some, None, if◌then◌else◌}
use Rattle.script_grammar.specs.Terminals.{Terminal}
use Rattle.expr_machine.specs.Actions.{Action}
use Rattle.expr_machine.specs.Machine.{behind}
use Rattle.expr_machine.specs.Reading.{executed}
use Rattle.expr_machine.specs.Reading as exprs
use Rattle.expr_machine.specs.Values.{PlainValue, execute}
use Rattle.stmt_machine.specs.declared.frame.Focus.{Focus}
use Rattle.stmt_machine.specs.declared.frame.Focus.TheVariants as focus
use Rattle.stmt_machine.specs.declared.frame.Frame.{Frame}
use Rattle.stmt_machine.specs.Actions.{StmtAction, value_action}
use Rattle.stmt_machine.specs.Machine.{Move, moves, finished, stuck, semicolon_next, paren_end_next, jump_move, ended_by}
use Rattle.stmt_machine.specs.Made.{Made, with_values, on_some, apply_stmt, execute_stmts}
use Rattle.stmt_builder.specs.Answers.{Does}
use Rattle.stmt_parser.specs.Ends.{behind_test, behind_end, ended_with}
use Rattle.stmt_parser.specs.declared.reads.End.{End}
use Rattle.stmt_parser.specs.declared.reads.End.TheVariants as end
use Rattle.stmt_parser.specs.Outcomes.{Outcome, gone, ended, failed, gone_with, acted, gone_if, jump_if, on_made, with_action, GoesOn, behind_value, with_read, reads_as}

-- no action
pub acted_none : (f : Focus) (fs : List Frame) (r : List Terminal) (m : Made) → acted (moves f fs r []) m ≡ gone f fs r m
unfolding acted execute_stmts
acted_none f fs r m = refl

pub acted_finished : (m : Made) → acted finished m ≡ ended m
unfolding acted
acted_finished m = refl

pub acted_stuck : (m : Made) → acted stuck m ≡ failed
unfolding acted
acted_stuck m = refl

-- one action

then_none : (x : Option Made) → on_some x (execute_stmts []) ≡ x
unfolding execute_stmts
then_none None = refl
then_none (Some m) = refl

acted_one : (a : StmtAction) (f : Focus) (fs : List Frame) (r : List Terminal) (m : Made) → acted (moves f fs r (a ∷ [])) m ≡ gone_with (apply_stmt a m) f fs r
unfolding acted execute_stmts
acted_one a f fs r m = ap (λ x. gone_with x f fs r) (then_none (apply_stmt a m))

gone_done : (done : Bool) (wanted : Option Made) (f : Focus) (fs : List Frame) (r : List Terminal) (m : Made) → Does wanted done m → gone_with wanted f fs r ≡ gone_if done f fs r m
gone_done true wanted f fs r m h = ap (λ x. gone_with x f fs r) h
gone_done false wanted f fs r m h = ap (λ x. gone_with x f fs r) h

pub acted_does : (done : Bool) (a : StmtAction) (f : Focus) (fs : List Frame) (r : List Terminal) (m n : Made) → Does (apply_stmt a m) done n → acted (moves f fs r (a ∷ [])) m ≡ gone_if done f fs r n
acted_does done a f fs r m n h = acted_one a f fs r m ∙ gone_done done (apply_stmt a m) f fs r n h

-- an action that is always done
pub acted_always : (a : StmtAction) (f : Focus) (fs : List Frame) (r : List Terminal) (m n : Made) → apply_stmt a m ≡ Some n → acted (moves f fs r (a ∷ [])) m ≡ gone f fs r n
acted_always a f fs r m n h = acted_does true a f fs r m n h

jump_case : (b : Bool) (done : Bool) (a : StmtAction) (fs : List Frame) (r : List Terminal) (m n : Made) → Does (apply_stmt a m) done n → acted (if b then moves focus.Behind fs r (a ∷ []) else stuck) m ≡ (if b then gone_if done focus.Behind fs r n else failed)
jump_case true done a fs r m n h = acted_does done a focus.Behind fs r m n h
jump_case false done a fs r m n h = acted_stuck m

pub acted_jump : (done : Bool) (a : StmtAction) (fs : List Frame) (ts : List Terminal) (m n : Made) → Does (apply_stmt a m) done n → acted (jump_move a fs ts) m ≡ jump_if done fs ts n
acted_jump done a fs ts m n h = jump_case (semicolon_next ts) done a fs (behind ts) m n h

-- one action before others

first_done : (x : Option Made) (acts : List StmtAction) (f : Focus) (fs : List Frame) (r : List Terminal) → gone_with (on_some x (execute_stmts acts)) f fs r ≡ on_made x (λ n. gone_with (execute_stmts acts n) f fs r)
first_done None acts f fs r = refl
first_done (Some n) acts f fs r = refl

first_failed : (x : Option Made) → failed ≡ on_made x (λ n. failed)
first_failed None = refl
first_failed (Some n) = refl

pub acted_first : (a : StmtAction) (x : Move) (m : Made) → GoesOn x → acted (with_action a x) m ≡ on_made (apply_stmt a m) (acted x)
unfolding acted execute_stmts
acted_first a (moves f fs r acts) m h = first_done (apply_stmt a m) acts f fs r
acted_first a finished m h = absurd h
acted_first a stuck m h = first_failed (apply_stmt a m)

-- an expression

value_done : (x : Option (List PlainValue)) (r : List Terminal) (m : Made) (next : List Terminal → Made → Outcome) → on_made (on_some x (λ vs. Some (with_values vs m))) (next r) ≡ with_read (exprs.with_values x r) m next
value_done None r m next = refl
value_done (Some vs) r m next = refl

value_applied : (acts : List Action) (m : Made) → apply_stmt (value_action acts) m ≡ on_some (execute acts m.values) (λ vs. Some (with_values vs m))
unfolding apply_stmt
value_applied acts m = refl

pub acted_behind : (found : Option (List Action × List Terminal)) (next : List Terminal → Move) (m : Made) → ((r : List Terminal) → GoesOn (next r)) → acted (behind_value found next) m ≡ reads_as found m (λ r n. acted (next r) n)
acted_behind None next m h = acted_stuck m
acted_behind (Some found) next m h =
    acted_first (value_action found.0) (next found.1) m (h found.1)
    ∙ ap (λ x. on_made x (acted (next found.1))) (value_applied found.0 m)
    ∙ value_done (execute found.0 m.values) found.1 m (λ r n. acted (next r) n)

-- an expression and the signs behind it

-- what follows behind signs, if they stand next
abbrev pub on_end : Option (List Terminal) → Made → (List Terminal → Made → Outcome) → Outcome
on_end None n next = failed
on_end (Some r) n next = next r n

abbrev tested : (List Terminal → Bool) → (List Terminal → Made → Outcome) → List Terminal → Made → Outcome
tested test next r n = on_end (behind_test test r) n next

sign_case : (x : Option (List PlainValue)) (b : Bool) (test : List Terminal → Bool) (r : List Terminal) (m : Made) (next : List Terminal → Made → Outcome) → test r ≡ b → (if b then with_read (exprs.with_values x (behind r)) m next else failed) ≡ with_read (exprs.with_values x r) m (tested test next)
sign_case None true test r m next e = refl
sign_case None false test r m next e = refl
sign_case (Some vs) true test r m next e = ap (λ b. on_end (if b then Some (behind r) else None) (with_values vs m) next) (sym e)
sign_case (Some vs) false test r m next e = ap (λ b. on_end (if b then Some (behind r) else None) (with_values vs m) next) (sym e)

sign_read : (b : Bool) (acts : List Action) (r : List Terminal) (m : Made) (next : List Terminal → Made → Outcome) → reads_as (if b then Some (acts, behind r) else None) m next ≡ (if b then with_read (exprs.with_values (execute acts m.values) (behind r)) m next else failed)
sign_read true acts r m next = refl
sign_read false acts r m next = refl

tested_reads : (test : List Terminal → Bool) (found : Option (List Action × List Terminal)) (m : Made) (next : List Terminal → Made → Outcome) → reads_as (ended_by test found) m next ≡ reads_as found m (tested test next)
tested_reads test None m next = refl
tested_reads test (Some found) m next = sign_read (test found.1) found.0 found.1 m next ∙ sign_case (execute found.0 m.values) (test found.1) test found.1 m next refl

same_read : (x : Option (List PlainValue × List Terminal)) (m : Made) (f g : List Terminal → Made → Outcome) → ((r : List Terminal) (n : Made) → f r n ≡ g r n) → with_read x m f ≡ with_read x m g
same_read None m f g h = refl
same_read (Some found) m f g h = h found.1 (with_values found.0 m)

on_both : (x : Option (List Terminal)) (more : List Terminal → Option (List Terminal)) (n : Made) (next : List Terminal → Made → Outcome) → on_end x n (λ r k. on_end (more r) k next) ≡ on_end (on_some x more) n next
on_both None more n next = refl
on_both (Some r) more n next = refl

pub ended_reads : (e : End) (found : Option (List Action × List Terminal)) (m : Made) (next : List Terminal → Made → Outcome) → reads_as (ended_with e found) m next ≡ reads_as found m (λ r n. on_end (behind_end e r) n next)
ended_reads end.Semicolon found m next = tested_reads semicolon_next found m next
ended_reads end.Bracket found m next = tested_reads paren_end_next found m next
ended_reads end.BracketSemicolon found m next =
    tested_reads semicolon_next (ended_by paren_end_next found) m next
    ∙ tested_reads paren_end_next found m (tested semicolon_next next)
    ∙ same_read (executed found m.values) m _ _ (λ r n. on_both (behind_test paren_end_next r) (behind_test semicolon_next) n next)
