-- Where no `else` stands next, no arm of an `if` follows.
use Rattle.std.proofs.Common.{◌≡◌, Bool, true, false, not, ◌&&◌, List, refl}
use Rattle.script_grammar.specs.Terminals.{Terminal}
use Rattle.script_grammar.specs.Expressions.{ExprForm}
use Rattle.script_grammar.specs.Statements.{StmtForm, if_form, StmtsForm, no_stmts_form, more_stmts_form, ArmsForm, no_arms_form, elseif_form, else_if_form, ElseForm, no_else_form, else_form, ColonArmsForm, no_colon_arms, colon_arm, ColonElseForm, no_colon_else, colon_else, stmts_terminals, arms_terminals, else_terminals, colon_arms_terminals, colon_else_terminals, takes_else, goes_on, colon_goes_on, last_takes_else}
use Rattle.stmt_machine.specs.Reading.{else_next}
use Rattle.script_grammar.specs.declared.keyword.Keyword.TheVariants as word
use Rattle.stmt_laws.proofs.Stands.{Arms, arms_left, word_then, last_open}

pub true_false : true ≡ false → ⊥
true_false e = cc

pub false_true : false ≡ true → ⊥
false_true e = cc

none_ahead : (a : ArmsForm) (l : ElseForm) (r : List Terminal) → else_next (arms_terminals a (else_terminals l r)) ≡ false → not (goes_on a l) ≡ true
unfolding arms_terminals
none_ahead no_arms_form no_else_form r e = refl
none_ahead no_arms_form (else_form s) r e = absurd (true_false e)
none_ahead (elseif_form c s a) l r e = absurd (true_false e)
none_ahead (else_if_form c s a) l r e = absurd (true_false e)

pub no_arm : (t : Bool) (x : Arms) (r : List Terminal) → (t ≡ true → else_next (arms_left x r) ≡ false) → not (t && goes_on x.arms x.last) ≡ true
no_arm false x r h = refl
no_arm true x r h = none_ahead x.arms x.last r (h refl)

none_colon : (a : ColonArmsForm) (l : ColonElseForm) (r : List Terminal) → else_next (colon_arms_terminals a (colon_else_terminals l (word_then word.EndIf r))) ≡ false → not (colon_goes_on a l) ≡ true
unfolding arms_terminals
none_colon no_colon_arms no_colon_else r e = refl
none_colon no_colon_arms (colon_else ss) r e = absurd (true_false e)
none_colon (colon_arm c ss a) l r e = absurd (true_false e)

-- statements with one more at their front
pub no_colon_arm : (s : StmtForm) (ss : StmtsForm) (a : ColonArmsForm) (l : ColonElseForm) (r : List Terminal)
    → (takes_else s ≡ true → else_next (stmts_terminals ss (colon_arms_terminals a (colon_else_terminals l (word_then word.EndIf r)))) ≡ false)
    → not (last_takes_else ss && colon_goes_on a l) ≡ true → not (last_takes_else (more_stmts_form s ss) && colon_goes_on a l) ≡ true
unfolding arms_terminals
no_colon_arm s no_stmts_form a l r h d = go (takes_else s) h
  where
    go : (t : Bool) → (t ≡ true → else_next (colon_arms_terminals a (colon_else_terminals l (word_then word.EndIf r))) ≡ false) → not (t && colon_goes_on a l) ≡ true
    go false h' = refl
    go true h' = none_colon a l r (h' refl)
no_colon_arm s (more_stmts_form t ss) a l r h d = d

-- what an `if` takes
pub takes_last : (c : ExprForm) (s : StmtForm) (a : ArmsForm) (l : ElseForm) → takes_else (if_form c s a l) ≡ last_open l
unfolding takes_else
takes_last c s a no_else_form = refl
takes_last c s a (else_form t) = refl
