-- The moves that look at the last thing begun.
use Rattle.std.proofs.Common.{◌≡◌, ◌≢◌, ℕ, Bool, true, false, List, [], ◌∷◌, refl, ap, ◌∙◌, eqb, inl, inr}
use Rattle.std.specs.Prelude.{if◌then◌else◌}
use Rattle.std.proofs.lemmas.Bool.{eq-eqb}
use Rattle.std.proofs.lemmas.Bool.Decides.{eqb_tells}
use Rattle.script_grammar.specs.declared.operator.Level.{Level}
use Rattle.script_grammar.specs.declared.operator.Level.TheVariants as level
use Rattle.script_grammar.specs.declared.operator.Operator.{Operator}
use Rattle.script_grammar.specs.declared.operator.Prefix.{Prefix}
use Rattle.script_grammar.specs.Operators.{repeats}
use Rattle.script_grammar.specs.Terminals.{Terminal}
use Rattle.expr_machine.specs.declared.frame.Focus.TheVariants as focus
use Rattle.expr_machine.specs.declared.frame.Frame.{Frame}
use Rattle.expr_machine.specs.declared.frame.Frame.TheVariants as frame
use Rattle.expr_machine.specs.Actions.{prefix_action, binary_action, coalesce_action, short_choice_action, full_choice_action}
use Rattle.expr_machine.specs.Machine.{moves, stuck, looser, wanted_rank, unary_move, right_move, join_move, operator_next, choice_move, question_move, level_move, chain_move, level_rank}
use Rattle.expr_parser.specs.declared.reader.Waiting.TheVariants as waiting
use Rattle.expr_parser.specs.Frames.{waiting_of, rank_of, behind_top}

pub rank_is : (fs : List Frame) → wanted_rank fs ≡ rank_of (waiting_of fs)
rank_is [] = refl
rank_is (frame.Prefix p ∷ fs) = refl
rank_is (frame.Operator l o ∷ fs) = refl
rank_is (frame.Join n ∷ fs) = refl
rank_is (frame.Coalesce ∷ fs) = refl
rank_is (frame.ShortChoice ∷ fs) = refl
rank_is (frame.FullChoice ∷ fs) = refl
rank_is (f ∷ fs) = refl

-- behind a unary operand

pub unary_prefix : (fs : List Frame) (p : Prefix) (ts : List Terminal) → waiting_of fs ≡ waiting.Prefix p → unary_move fs ts ≡ moves focus.Unary (behind_top fs) ts (prefix_action p ∷ [])
unary_prefix [] p ts e = absurd (cc)
unary_prefix (frame.Prefix q ∷ fs) p ts e = let h : q ≡ p = cc in ap (λ x. moves focus.Unary fs ts (prefix_action x ∷ [])) h
unary_prefix (frame.Operator l o ∷ fs) p ts e = absurd (cc)
unary_prefix (frame.Join n ∷ fs) p ts e = absurd (cc)
unary_prefix (frame.Coalesce ∷ fs) p ts e = absurd (cc)
unary_prefix (frame.ShortChoice ∷ fs) p ts e = absurd (cc)
unary_prefix (frame.FullChoice ∷ fs) p ts e = absurd (cc)
unary_prefix (f ∷ fs) p ts e = absurd (cc)

pub unary_other : (fs : List Frame) (ts : List Terminal) → ((p : Prefix) → waiting_of fs ≢ waiting.Prefix p) → unary_move fs ts ≡ moves (focus.Operand level.Product) fs ts []
unary_other [] ts h = refl
unary_other (frame.Prefix q ∷ fs) ts h = absurd (h q refl)
unary_other (f ∷ fs) ts h = refl

-- behind an operand of a level

pub right_operator : (l : Level) (fs : List Frame) (m : Level) (o : Operator) (ts : List Terminal) → waiting_of fs ≡ waiting.Operator m o → right_move l fs ts ≡ moves (if repeats m then focus.Operand m else looser m) (behind_top fs) ts (binary_action o ∷ [])
right_operator l [] m o ts e = absurd (cc)
right_operator l (frame.Operator n q ∷ fs) m o ts e =
    let h : n ≡ m = cc in
    let k : q ≡ o = cc in
    ap (λ x. moves (if repeats x then focus.Operand x else looser x) fs ts (binary_action q ∷ [])) h
    ∙ ap (λ x. moves (if repeats m then focus.Operand m else looser m) fs ts (binary_action x ∷ [])) k
right_operator l (frame.Prefix p ∷ fs) m o ts e = absurd (cc)
right_operator l (frame.Join n ∷ fs) m o ts e = absurd (cc)
right_operator l (frame.Coalesce ∷ fs) m o ts e = absurd (cc)
right_operator l (frame.ShortChoice ∷ fs) m o ts e = absurd (cc)
right_operator l (frame.FullChoice ∷ fs) m o ts e = absurd (cc)
right_operator l (f ∷ fs) m o ts e = absurd (cc)

pub right_join : (l : Level) (fs : List Frame) (n : ℕ) (ts : List Terminal) → waiting_of fs ≡ waiting.Join n → right_move l fs ts ≡ join_move (operator_next level.Join ts) n (behind_top fs) ts
right_join l [] n ts e = absurd (cc)
right_join l (frame.Join m ∷ fs) n ts e = let h : m ≡ n = cc in ap (λ x. join_move (operator_next level.Join ts) x fs ts) h
right_join l (frame.Operator m o ∷ fs) n ts e = absurd (cc)
right_join l (frame.Prefix p ∷ fs) n ts e = absurd (cc)
right_join l (frame.Coalesce ∷ fs) n ts e = absurd (cc)
right_join l (frame.ShortChoice ∷ fs) n ts e = absurd (cc)
right_join l (frame.FullChoice ∷ fs) n ts e = absurd (cc)
right_join l (f ∷ fs) n ts e = absurd (cc)

pub right_other : (l : Level) (fs : List Frame) (ts : List Terminal) → ((m : Level) (o : Operator) → waiting_of fs ≢ waiting.Operator m o) → ((n : ℕ) → waiting_of fs ≢ waiting.Join n) → right_move l fs ts ≡ stuck
right_other l [] ts h k = refl
right_other l (frame.Operator m o ∷ fs) ts h k = absurd (h m o refl)
right_other l (frame.Join n ∷ fs) ts h k = absurd (k n refl)
right_other l (f ∷ fs) ts h k = refl

-- behind a chain of `??`

pub choice_coalesce : (fs : List Frame) (ts : List Terminal) → waiting_of fs ≡ waiting.Coalesce → choice_move fs ts ≡ moves focus.Coalesced (behind_top fs) ts (coalesce_action ∷ [])
choice_coalesce [] ts e = absurd (cc)
choice_coalesce (frame.Coalesce ∷ fs) ts e = refl
choice_coalesce (frame.Operator m o ∷ fs) ts e = absurd (cc)
choice_coalesce (frame.Prefix p ∷ fs) ts e = absurd (cc)
choice_coalesce (frame.Join n ∷ fs) ts e = absurd (cc)
choice_coalesce (f ∷ fs) ts e = absurd (cc)

pub choice_short : (fs : List Frame) (ts : List Terminal) → waiting_of fs ≡ waiting.ShortChoice → choice_move fs ts ≡ moves focus.Whole (behind_top fs) ts (short_choice_action ∷ [])
choice_short [] ts e = absurd (cc)
choice_short (frame.ShortChoice ∷ fs) ts e = refl
choice_short (frame.Operator m o ∷ fs) ts e = absurd (cc)
choice_short (frame.Prefix p ∷ fs) ts e = absurd (cc)
choice_short (frame.Join n ∷ fs) ts e = absurd (cc)
choice_short (f ∷ fs) ts e = absurd (cc)

pub choice_full : (fs : List Frame) (ts : List Terminal) → waiting_of fs ≡ waiting.FullChoice → choice_move fs ts ≡ moves focus.Whole (behind_top fs) ts (full_choice_action ∷ [])
choice_full [] ts e = absurd (cc)
choice_full (frame.FullChoice ∷ fs) ts e = refl
choice_full (frame.Operator m o ∷ fs) ts e = absurd (cc)
choice_full (frame.Prefix p ∷ fs) ts e = absurd (cc)
choice_full (frame.Join n ∷ fs) ts e = absurd (cc)
choice_full (f ∷ fs) ts e = absurd (cc)

pub choice_other : (fs : List Frame) (ts : List Terminal) → waiting_of fs ≢ waiting.Coalesce → waiting_of fs ≢ waiting.ShortChoice → waiting_of fs ≢ waiting.FullChoice → choice_move fs ts ≡ question_move fs ts
choice_other [] ts h k m = refl
choice_other (frame.Coalesce ∷ fs) ts h k m = absurd (h refl)
choice_other (frame.ShortChoice ∷ fs) ts h k m = absurd (k refl)
choice_other (frame.FullChoice ∷ fs) ts h k m = absurd (m refl)
choice_other (f ∷ fs) ts h k m = refl

-- whether the last thing begun waits for an operand of the level

level_by : (l : Level) (fs : List Frame) (ts : List Terminal) (b : Bool) → eqb (wanted_rank fs) (level_rank l) ≡ b → level_move l fs ts ≡ (if b then right_move l fs ts else chain_move (operator_next l ts) l fs ts)
level_by l fs ts b e = ap (λ x. if x then right_move l fs ts else chain_move (operator_next l ts) l fs ts) e

pub level_right : (l : Level) (fs : List Frame) (ts : List Terminal) → wanted_rank fs ≡ level_rank l → level_move l fs ts ≡ right_move l fs ts
level_right l fs ts h = level_by l fs ts true (eq-eqb (wanted_rank fs) (level_rank l) h)

pub level_chain : (l : Level) (fs : List Frame) (ts : List Terminal) → wanted_rank fs ≢ level_rank l → level_move l fs ts ≡ chain_move (operator_next l ts) l fs ts
level_chain l fs ts h = elim (eqb_tells (wanted_rank fs) (level_rank l)) [ inl t ↦ absurd (h t.1) | inr t ↦ level_by l fs ts false t.0 ]
