-- What stands behind a statement that an `else` could go on with: no `else`, where each belongs to the nearest `if`.
use Rattle.std.proofs.Common.{◌≡◌, Bool, true, false, List, ◌∷◌, refl}
use Rattle.std.specs.Prelude.{not, ◌&&◌}
use Rattle.script_grammar.specs.declared.keyword.Keyword.{Keyword}
use Rattle.script_grammar.specs.declared.keyword.Keyword.TheVariants as word
use Rattle.script_grammar.specs.Terminals.{Terminal, word_terminal}
use Rattle.script_grammar.specs.Expressions.{ExprForm}
use Rattle.script_grammar.specs.Statements.{StmtForm, if_form, StmtsForm, no_stmts_form, more_stmts_form, ArmsForm, no_arms_form, elseif_form, else_if_form, ElseForm, no_else_form, else_form, ColonArmsForm, no_colon_arms, colon_arm, ColonElseForm, no_colon_else, colon_else, stmt_terminals, stmts_terminals, arms_terminals, else_terminals, colon_arms_terminals, colon_else_terminals, takes_else, last_takes_else, goes_on, colon_goes_on}
use Rattle.stmt_machine.specs.declared.frame.Loop.{Loop}
use Rattle.stmt_machine.specs.declared.frame.Loop.TheVariants as loop
use Rattle.stmt_machine.specs.Machine.{ends_loop}
use Rattle.stmt_machine.specs.Reading.{else_next}
use Rattle.stmt_laws.proofs.Firsts.{stmt_begins, stmt_no_else}

pub and_left : (a b : Bool) → a && b ≡ true → a ≡ true
and_left true b h = refl
and_left false b h = absurd cc

pub and_right : (a b : Bool) → a && b ≡ true → b ≡ true
and_right true b h = h
and_right false b h = absurd cc

pub not_true : (a : Bool) → not a ≡ true → a ≡ false
not_true true h = absurd cc
not_true false h = refl

not_both : (a b : Bool) → not (a && b) ≡ true → a ≡ true → b ≡ false
not_both true b h is = not_true b h
not_both false b h is = absurd cc

-- whether an `else` behind an `if` could belong to it, by its own `else`
abbrev pub else_takes : ElseForm → Bool
else_takes no_else_form = true
else_takes (else_form b) = takes_else b

pub if_takes : (e : ExprForm) (s : StmtForm) (a : ArmsForm) (l : ElseForm) → takes_else (if_form e s a l) ≡ else_takes l
unfolding takes_else
if_takes e s a no_else_form = refl
if_takes e s a (else_form b) = refl

-- behind the statement of an arm
arms_ahead : (a : ArmsForm) (l : ElseForm) (r : List Terminal) → goes_on a l ≡ false → (else_takes l ≡ true → else_next r ≡ false) → else_next (arms_terminals a (else_terminals l r)) ≡ false
unfolding stmt_terminals
arms_ahead no_arms_form no_else_form r h ahead = ahead refl
arms_ahead no_arms_form (else_form b) r h ahead = absurd cc
arms_ahead (elseif_form e s a) l r h ahead = absurd cc
arms_ahead (else_if_form e s a) l r h ahead = absurd cc

pub arm_ahead : (s : StmtForm) (a : ArmsForm) (l : ElseForm) (r : List Terminal) → not (takes_else s && goes_on a l) ≡ true → (else_takes l ≡ true → else_next r ≡ false) → takes_else s ≡ true → else_next (arms_terminals a (else_terminals l r)) ≡ false
arm_ahead s a l r near ahead takes = arms_ahead a l r (not_both (takes_else s) (goes_on a l) near takes) ahead

-- behind the statements of an arm in the form with `:`
colon_arms_ahead : (a : ColonArmsForm) (l : ColonElseForm) (r : List Terminal) → colon_goes_on a l ≡ false → else_next (colon_arms_terminals a (colon_else_terminals l (word_terminal word.EndIf ∷ r))) ≡ false
unfolding stmt_terminals
colon_arms_ahead no_colon_arms no_colon_else r h = refl
colon_arms_ahead no_colon_arms (colon_else ss) r h = absurd cc
colon_arms_ahead (colon_arm e ss a) l r h = absurd cc

pub colon_arm_ahead : (ss : StmtsForm) (a : ColonArmsForm) (l : ColonElseForm) (r : List Terminal) → not (last_takes_else ss && colon_goes_on a l) ≡ true → last_takes_else ss ≡ true → else_next (colon_arms_terminals a (colon_else_terminals l (word_terminal word.EndIf ∷ r))) ≡ false
colon_arm_ahead ss a l r near takes = colon_arms_ahead a l r (not_both (last_takes_else ss) (colon_goes_on a l) near takes)

-- behind the first of several statements, and behind the others
pub first_ahead : (s : StmtForm) (ss : StmtsForm) (r : List Terminal) → (last_takes_else (more_stmts_form s ss) ≡ true → else_next r ≡ false) → takes_else s ≡ true → else_next (stmts_terminals ss r) ≡ false
unfolding stmt_terminals
first_ahead s no_stmts_form r ahead takes = ahead takes
first_ahead s (more_stmts_form t ss) r ahead takes = stmt_no_else _ (stmt_begins t (stmts_terminals ss r))

pub others_ahead : (s : StmtForm) (ss : StmtsForm) (r : List Terminal) → (last_takes_else (more_stmts_form s ss) ≡ true → else_next r ≡ false) → last_takes_else ss ≡ true → else_next r ≡ false
others_ahead s no_stmts_form r ahead takes = absurd cc
others_ahead s (more_stmts_form t ss) r ahead takes = ahead takes

-- the word that ends a loop is no `else`
pub end_ahead : (l : Loop) (w : Keyword) (r : List Terminal) → ends_loop l w ≡ true → else_next (word_terminal w ∷ r) ≡ false
end_ahead loop.While word.EndWhile r h = refl
end_ahead loop.While _ r h = absurd cc
end_ahead (loop.For b c n) word.EndFor r h = refl
end_ahead (loop.For b c n) _ r h = absurd cc
end_ahead (loop.Each k x) word.EndForeach r h = refl
end_ahead (loop.Each k x) _ r h = absurd cc
