-- Each statement whose `else`s belong to the nearest `if` is read, with its actions.
use Rattle.std.proofs.Common.{◌≡◌, ℕ, ◌+◌, true, false, List, [], ◌∷◌, refl, ◌∙◌}
use Rattle.std.specs.Prelude.{not, ◌&&◌}
use Rattle.php_syntax.specs.declared.token.Sign.TheVariants as sign
use Rattle.script_grammar.specs.declared.keyword.Keyword.{Keyword}
use Rattle.script_grammar.specs.declared.keyword.Keyword.TheVariants as word
use Rattle.script_grammar.specs.Terminals.{Terminal, word_terminal, sign_terminal}
use Rattle.script_grammar.specs.Statements.{StmtForm, semicolon_form, inline_form, block_form, echo_form, print_form, run_form, if_form, colon_if_form, while_form, do_form, for_form, each_form, break_form, continue_form, return_form, include_form, include_parens_form, exit_form, exit_parens_form, StmtsForm, no_stmts_form, more_stmts_form, ArmsForm, no_arms_form, elseif_form, else_if_form, ElseForm, no_else_form, else_form, ColonArmsForm, no_colon_arms, colon_arm, ColonElseForm, no_colon_else, colon_else, BodyForm, stmt_body, colon_body, key_variable, value_variable, condition_terminals, stmt_terminals, stmts_terminals, arms_terminals, else_terminals, colon_arms_terminals, colon_else_terminals, body_terminals, takes_else, body_takes_else, is_if, goes_on, colon_goes_on, last_takes_else, nearest, all_nearest, arms_nearest, else_nearest, colon_arms_nearest, colon_else_nearest, body_nearest}
use Rattle.stmt_machine.specs.declared.frame.Loop.{Loop}
use Rattle.stmt_machine.specs.declared.frame.Loop.TheVariants as loop
use Rattle.stmt_machine.specs.declared.frame.Focus.TheVariants as focus
use Rattle.stmt_machine.specs.declared.frame.Frame.{Frame}
use Rattle.stmt_machine.specs.declared.frame.Frame.TheVariants as frame
use Rattle.stmt_machine.specs.Actions.{StmtAction, do_action, if_action, loop_action}
use Rattle.stmt_machine.specs.Machine.{moves, move, ends_loop}
use Rattle.stmt_machine.specs.Postfix.{list_count, is_something, value_actions, stmt_actions, stmts_actions, arms_actions, else_actions, colon_arms_actions, colon_else_actions, body_actions}
use Rattle.stmt_machine.specs.Reading.{else_next}
use Rattle.stmt_laws.proofs.Runs.{Goes}
use Rattle.stmt_laws.proofs.Firsts.{stmt_first, stmt_begins, block_sends, colon_arm_sends, colon_else_sends, colon_body_sends}
use Rattle.stmt_laws.proofs.Values.{Expressions, run_reads, print_reads, return_reads, exit_parens_reads}
use Rattle.stmt_laws.proofs.Rows.{echo_reads}
use Rattle.stmt_laws.proofs.Loops.{BodyGoes, stmt_body_goes, body_end, colon_body_goes, colon_body_end, while_reads, for_loop_reads, each_reads, do_begins, do_end}
use Rattle.stmt_laws.proofs.Branches.{if_begins, colon_if_begins, arm_ends, else_ends, elseif_begins, else_if_begins, else_begins, colon_elseif_begins, colon_else_begins, colon_arm_ends, colon_else_ends}
use Rattle.stmt_laws.proofs.Ahead.{and_left, and_right, not_true, else_takes, if_takes, arm_ahead, colon_arm_ahead, first_ahead, others_ahead, end_ahead}
use Rattle.stmt_laws.proofs.Simple.{semicolon_reads, inline_reads, break_reads, continue_reads, include_reads, include_parens_reads, exit_reads, block_begins, block_ends, sent}

mutual
  unfolding stmt_terminals stmt_actions nearest takes_else

  -- a statement, where no `else` behind it could belong to it
  pub stmt_reads : (s : StmtForm) → Expressions → (fs : List Frame) (r : List Terminal) (k : List StmtAction) → nearest s ≡ true → (takes_else s ≡ true → else_next r ≡ false) → Goes focus.Behind fs r k → Goes focus.Begin fs (stmt_terminals s r) (stmt_actions s k)
  stmt_reads semicolon_form x fs r k near ahead goes = semicolon_reads fs r k goes
  stmt_reads (inline_form t) x fs r k near ahead goes = inline_reads t fs r k goes
  stmt_reads (block_form ss) x fs r k near ahead goes =
      block_begins fs _ _ (stmts_reads ss x (frame.Block ∷ fs) (sign_terminal sign.CloseBrace ∷ r) k (block_sends fs) near (λ t. refl) (block_ends fs r k goes))
  stmt_reads (echo_form e es) x fs r k near ahead goes = echo_reads x e es fs r k goes
  stmt_reads (print_form e) x fs r k near ahead goes = print_reads x e fs r k goes
  stmt_reads (run_form e) x fs r k near ahead goes = run_reads x e fs r k goes
  stmt_reads (if_form e s a l) x fs r k near ahead goes =
      let behind : else_takes l ≡ true → else_next r ≡ false = λ t. ahead (if_takes e s a l ∙ t)
      in let near_s = and_left (nearest s) _ near
      in let more = and_right (nearest s) _ near
      in let apart = and_left (not (takes_else s && goes_on a l)) _ more
      in let others = and_right (not (takes_else s && goes_on a l)) _ more
      in if_begins x e fs _ _ (stmt_begins s _)
      (stmt_reads s x (frame.Arm 1 ∷ fs) (arms_terminals a (else_terminals l r)) (arms_actions a 1 (λ n. else_actions l n k)) near_s (arm_ahead s a l r apart behind)
      (arms_reads a x l 1 fs r k (and_left (arms_nearest a l) _ others) behind (λ n. else_reads l x n fs r k (and_right (arms_nearest a l) _ others) behind goes)))
  stmt_reads (colon_if_form e ss a l) x fs r k near ahead goes =
      let near_s = and_left (all_nearest ss) _ near
      in let more = and_right (all_nearest ss) _ near
      in let apart = and_left (not (last_takes_else ss && colon_goes_on a l)) _ more
      in let others = and_right (not (last_takes_else ss && colon_goes_on a l)) _ more
      in colon_if_begins x e fs _ _
      (stmts_reads ss x (frame.ColonArm 1 ∷ fs) (colon_arms_terminals a (colon_else_terminals l (word_terminal word.EndIf ∷ sign_terminal sign.Semicolon ∷ r))) (colon_arms_actions a 1 (λ n. colon_else_actions l n k))
      (colon_arm_sends 1 fs) near_s (colon_arm_ahead ss a l (sign_terminal sign.Semicolon ∷ r) apart)
      (colon_arms_reads a x l 1 fs r k (and_left (colon_arms_nearest a l) _ others) (λ n. colon_else_reads l x n fs r k (and_right (colon_arms_nearest a l) _ others) goes)))
  stmt_reads (while_form e b) x fs r k near ahead goes =
      while_reads x e fs _ _ (body_reads b x loop.While word.EndWhile fs r k refl near ahead goes)
  stmt_reads (do_form s e) x fs r k near ahead goes =
      do_begins fs _ _ (stmt_reads s x (frame.Do ∷ fs) (word_terminal word.While ∷ condition_terminals e (sign_terminal sign.Semicolon ∷ r)) (value_actions e (do_action ∷ k)) near (λ t. refl) (do_end x e fs r k goes))
  stmt_reads (for_form begin e next b) x fs r k near ahead goes =
      for_loop_reads x begin e next fs _ _ (body_reads b x (loop.For (list_count begin) (is_something e) (list_count next)) word.EndFor fs r k refl near ahead goes)
  stmt_reads (each_form e v b) x fs r k near ahead goes =
      each_reads x e v fs _ _ (body_reads b x (loop.Each (key_variable v) (value_variable v)) word.EndForeach fs r k refl near ahead goes)
  stmt_reads break_form x fs r k near ahead goes = break_reads fs r k goes
  stmt_reads continue_form x fs r k near ahead goes = continue_reads fs r k goes
  stmt_reads (return_form e) x fs r k near ahead goes = return_reads x e fs r k goes
  stmt_reads (include_form w is t) x fs r k near ahead goes = include_reads w t fs r k is goes
  stmt_reads (include_parens_form w is t) x fs r k near ahead goes = include_parens_reads w t fs r k is goes
  stmt_reads exit_form x fs r k near ahead goes = exit_reads fs r k goes
  stmt_reads (exit_parens_form e) x fs r k near ahead goes = exit_parens_reads x e fs r k goes

  -- statements, under a frame that sends each to where it begins
  pub stmts_reads : (ss : StmtsForm) → Expressions → (fs : List Frame) (r : List Terminal) (k : List StmtAction) → ((ts : List Terminal) → stmt_first ts ≡ true → move focus.Behind fs ts ≡ moves focus.Begin fs ts []) → all_nearest ss ≡ true → (last_takes_else ss ≡ true → else_next r ≡ false) → Goes focus.Behind fs r k → Goes focus.Behind fs (stmts_terminals ss r) (stmts_actions ss k)
  stmts_reads no_stmts_form x fs r k sends near ahead goes = goes
  stmts_reads (more_stmts_form s ss) x fs r k sends near ahead goes =
      sent fs _ _ (sends _ (stmt_begins s _))
      (stmt_reads s x fs (stmts_terminals ss r) (stmts_actions ss k) (and_left (nearest s) _ near) (first_ahead s ss r ahead)
      (stmts_reads ss x fs r k sends (and_right (nearest s) _ near) (others_ahead s ss r ahead) goes))

  -- further arms, before an `else` or none
  arms_reads : (a : ArmsForm) → Expressions → (l : ElseForm) (n : ℕ) (fs : List Frame) (r : List Terminal) (k : List StmtAction) → arms_nearest a l ≡ true → (else_takes l ≡ true → else_next r ≡ false) → ((m : ℕ) → Goes focus.Behind (frame.Arm m ∷ fs) (else_terminals l r) (else_actions l m k)) → Goes focus.Behind (frame.Arm n ∷ fs) (arms_terminals a (else_terminals l r)) (arms_actions a n (λ m. else_actions l m k))
  arms_reads no_arms_form x l n fs r k near ahead goes = goes n
  arms_reads (elseif_form e s a) x l n fs r k near ahead goes =
      let more = and_right (nearest s) _ near
      in elseif_begins x e n fs _ _
      (stmt_reads s x (frame.Arm (n + 1) ∷ fs) (arms_terminals a (else_terminals l r)) (arms_actions a (n + 1) (λ m. else_actions l m k)) (and_left (nearest s) _ near)
      (arm_ahead s a l r (and_left (not (takes_else s && goes_on a l)) _ more) ahead)
      (arms_reads a x l (n + 1) fs r k (and_right (not (takes_else s && goes_on a l)) _ more) ahead goes))
  arms_reads (else_if_form e s a) x l n fs r k near ahead goes =
      let more = and_right (nearest s) _ near
      in else_if_begins x e n fs _ _ (stmt_begins s _)
      (stmt_reads s x (frame.Arm (n + 1) ∷ fs) (arms_terminals a (else_terminals l r)) (arms_actions a (n + 1) (λ m. else_actions l m k)) (and_left (nearest s) _ near)
      (arm_ahead s a l r (and_left (not (takes_else s && goes_on a l)) _ more) ahead)
      (arms_reads a x l (n + 1) fs r k (and_right (not (takes_else s && goes_on a l)) _ more) ahead goes))

  else_reads : (l : ElseForm) → Expressions → (n : ℕ) (fs : List Frame) (r : List Terminal) (k : List StmtAction) → else_nearest l ≡ true → (else_takes l ≡ true → else_next r ≡ false) → Goes focus.Behind fs r k → Goes focus.Behind (frame.Arm n ∷ fs) (else_terminals l r) (else_actions l n k)
  else_reads no_else_form x n fs r k near ahead goes = arm_ends n fs r k (ahead refl) goes
  else_reads (else_form s) x n fs r k near ahead goes =
      else_begins x s n fs r _ (not_true (is_if s) (and_right (nearest s) _ near))
      (stmt_reads s x (frame.Else n ∷ fs) r (if_action n true ∷ k) (and_left (nearest s) _ near) ahead (else_ends n fs r k goes))

  -- the same in the form with `:`
  colon_arms_reads : (a : ColonArmsForm) → Expressions → (l : ColonElseForm) (n : ℕ) (fs : List Frame) (r : List Terminal) (k : List StmtAction) → colon_arms_nearest a l ≡ true
      → ((m : ℕ) → Goes focus.Behind (frame.ColonArm m ∷ fs) (colon_else_terminals l (word_terminal word.EndIf ∷ sign_terminal sign.Semicolon ∷ r)) (colon_else_actions l m k))
      → Goes focus.Behind (frame.ColonArm n ∷ fs) (colon_arms_terminals a (colon_else_terminals l (word_terminal word.EndIf ∷ sign_terminal sign.Semicolon ∷ r))) (colon_arms_actions a n (λ m. colon_else_actions l m k))
  colon_arms_reads no_colon_arms x l n fs r k near goes = goes n
  colon_arms_reads (colon_arm e ss a) x l n fs r k near goes =
      let more = and_right (all_nearest ss) _ near
      in colon_elseif_begins x e n fs _ _
      (stmts_reads ss x (frame.ColonArm (n + 1) ∷ fs) (colon_arms_terminals a (colon_else_terminals l (word_terminal word.EndIf ∷ sign_terminal sign.Semicolon ∷ r))) (colon_arms_actions a (n + 1) (λ m. colon_else_actions l m k))
      (colon_arm_sends (n + 1) fs) (and_left (all_nearest ss) _ near)
      (colon_arm_ahead ss a l (sign_terminal sign.Semicolon ∷ r) (and_left (not (last_takes_else ss && colon_goes_on a l)) _ more))
      (colon_arms_reads a x l (n + 1) fs r k (and_right (not (last_takes_else ss && colon_goes_on a l)) _ more) goes))

  colon_else_reads : (l : ColonElseForm) → Expressions → (n : ℕ) (fs : List Frame) (r : List Terminal) (k : List StmtAction) → colon_else_nearest l ≡ true → Goes focus.Behind fs r k → Goes focus.Behind (frame.ColonArm n ∷ fs) (colon_else_terminals l (word_terminal word.EndIf ∷ sign_terminal sign.Semicolon ∷ r)) (colon_else_actions l n k)
  colon_else_reads no_colon_else x n fs r k near goes = colon_arm_ends n fs r k goes
  colon_else_reads (colon_else ss) x n fs r k near goes =
      colon_else_begins n fs _ _
      (stmts_reads ss x (frame.ColonElse n ∷ fs) (word_terminal word.EndIf ∷ sign_terminal sign.Semicolon ∷ r) (if_action n true ∷ k) (colon_else_sends n fs) near (λ t. refl) (colon_else_ends n fs r k goes))

  -- the body of a loop
  body_reads : (b : BodyForm) → Expressions → (l : Loop) (w : Keyword) (fs : List Frame) (r : List Terminal) (k : List StmtAction) → ends_loop l w ≡ true → body_nearest b ≡ true → (body_takes_else b ≡ true → else_next r ≡ false) → Goes focus.Behind fs r k → BodyGoes l fs (body_terminals w b r) (body_actions b (loop_action l ∷ k))
  body_reads (stmt_body s) x l w fs r k is near ahead goes =
      stmt_body_goes l fs _ _ (stmt_begins s r) (stmt_reads s x (frame.Body l ∷ fs) r (loop_action l ∷ k) near ahead (body_end l fs r k goes))
  body_reads (colon_body ss) x l w fs r k is near ahead goes =
      colon_body_goes l fs _ _
      (stmts_reads ss x (frame.ColonBody l ∷ fs) (word_terminal w ∷ sign_terminal sign.Semicolon ∷ r) (loop_action l ∷ k) (colon_body_sends l fs) near (λ t. end_ahead l w (sign_terminal sign.Semicolon ∷ r) is) (colon_body_end l w fs r k is goes))
