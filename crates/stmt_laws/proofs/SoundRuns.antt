-- A whole run reads what may stand where it begins, and so a file.
use Rattle.std.proofs.Common.{◌≡◌, ℕ, zero, suc, true, List, [], ◌++◌, refl, subst, Option, Some, None}
use Rattle.script_grammar.specs.Terminals.{Terminal}
use Rattle.script_grammar.specs.Statements.{FileForm, file_terminals, file_nearest}
use Rattle.stmt_machine.specs.declared.frame.Focus.{Focus}
use Rattle.stmt_machine.specs.declared.frame.Focus.TheVariants as focus
use Rattle.stmt_machine.specs.declared.frame.Frame.{Frame}
use Rattle.stmt_machine.specs.Actions.{StmtAction}
use Rattle.stmt_machine.specs.Machine.{Move, moves, finished, stuck, move}
use Rattle.stmt_machine.specs.Postfix.{file_actions}
use Rattle.stmt_machine.specs.Reading.{after_actions, run_from, run, file_at}
use Rattle.stmt_laws.proofs.Stands.{FileRest, Stands, Carries}
use Rattle.stmt_laws.proofs.Cases.{ExprSound}
use Rattle.stmt_laws.proofs.Words.{begin_carries}
use Rattle.stmt_laws.proofs.RowMoves.{row_carries, start_carries, condition_carries, parameter_carries, parameters_carries, parameter_end_carries}
use Rattle.stmt_laws.proofs.Behinds.{behind_carries}

carries : ExprSound → (f : Focus) (fs : List Frame) (ts : List Terminal) → Carries (move f fs ts) (Stands f fs ts)
unfolding move
carries sound focus.Begin fs ts = begin_carries sound fs ts
carries sound focus.Behind fs ts = behind_carries sound fs ts
carries sound (focus.Start l) fs ts = start_carries sound l fs ts
carries sound (focus.Listed l n) fs ts = row_carries sound l n fs ts
carries sound (focus.Condition n) fs ts = condition_carries sound n fs ts
carries sound focus.Parameters fs ts = parameters_carries fs ts
carries sound focus.Parameter fs ts = parameter_carries fs ts
carries sound focus.BehindParameter fs ts = parameter_end_carries fs ts

some_same : {A : Type 0} {x y : A} → Some x ≡ Some y → x ≡ y
some_same e = cc

none_some : {A : Type 0} {x : A} → None ≡ Some x → ⊥
none_some e = cc

after_read : (S P : List StmtAction → Type 0) (a : List StmtAction) (o : Option (List StmtAction)) → ((bs : List StmtAction) → o ≡ Some bs → S bs) → ((bs : List StmtAction) → S bs → P (a ++ bs))
    → (acts : List StmtAction) → after_actions a o ≡ Some acts → P acts
after_read S P a None ih h acts e = absurd (none_some e)
after_read S P a (Some bs) ih h acts e = subst P (some_same e) (h bs (ih bs refl))

move_read : (P : List StmtAction → Type 0) (next : Focus → List Frame → List Terminal → Option (List StmtAction))
    → ((f : Focus) (fs : List Frame) (ts : List Terminal) (bs : List StmtAction) → next f fs ts ≡ Some bs → Stands f fs ts bs)
    → (m : Move) → Carries m P → (acts : List StmtAction) → run_from next m ≡ Some acts → P acts
move_read P next ih (moves f fs r a) h acts e = after_read (λ bs. Stands f fs r bs) P a (next f fs r) (ih f fs r) h acts e
move_read P next ih finished h acts e = subst P (some_same e) h
move_read P next ih stuck h acts e = absurd (none_some e)

run_read : ExprSound → (n : ℕ) (f : Focus) (fs : List Frame) (ts : List Terminal) (acts : List StmtAction) → run n f fs ts ≡ Some acts → Stands f fs ts acts
unfolding run
run_read sound zero f fs ts acts e = absurd (none_some e)
run_read sound (suc n) f fs ts acts e = move_read (λ bs. Stands f fs ts bs) (λ g gs us. run n g gs us) (λ g gs us bs i. run_read sound n g gs us bs i) (move f fs ts) (carries sound f fs ts) acts e

file_rest : (ts : List Terminal) (acts : List StmtAction) → FileRest ts acts → (f : FileForm) × (file_terminals f ≡ ts) × (file_nearest f ≡ true) × (file_actions f ≡ acts)
file_rest ts acts q = (q.form, q.reads, q.holds, q.does)

pub file_read : ExprSound → (ts : List Terminal) (acts : List StmtAction) → file_at ts ≡ Some acts → (f : FileForm) × (file_terminals f ≡ ts) × (file_nearest f ≡ true) × (file_actions f ≡ acts)
file_read sound ts acts e = file_rest ts acts (run_read sound _ focus.Behind [] ts acts e)
