-- Chains of operators are read, where their operands are.
use Rattle.std.proofs.Common.{◌≡◌, ◌+◌, Bool, true, false, if◌then◌else◌, ◌∷◌, Some, None, refl, sym, subst, arith}
use Rattle.php_syntax.specs.declared.token.Sign.{Sign}
use Rattle.script_grammar.specs.declared.operator.Level.{Level}
use Rattle.script_grammar.specs.declared.operator.Operator.{Operator}
use Rattle.script_grammar.specs.declared.operator.Prefix.{Prefix}
use Rattle.script_grammar.specs.Operators.{tighter_level, repeats, binary_operator, prefix_operator}
use Rattle.script_grammar.specs.Expressions.{ChainForm, chain_form, MoreForm, no_more, once_more, one_more, OperandForm, tighter_form, tightest_form, UnaryForm, prefix_form, post_form, PostForm, expr_terminals, more_terminals, operand_terminals, unary_terminals}
use Rattle.expr_machine.specs.declared.frame.Focus.{Focus}
use Rattle.expr_machine.specs.declared.frame.Focus.TheVariants as focus
use Rattle.expr_machine.specs.declared.frame.Frame.TheVariants as frame
use Rattle.expr_machine.specs.Actions.{prefix_action}
use Rattle.expr_machine.specs.Machine.{move}
use Rattle.expr_machine.specs.Postfix.{is_flat, expr_actions, joined_actions, leaning_actions}
use Rattle.expr_laws.proofs.Goes.{Goes, steps}
use Rattle.expr_laws.proofs.Ahead.{unary_ends, level_ends}
use Rattle.expr_laws.proofs.Begins.{prefix_begins}
use Rattle.expr_laws.proofs.Levels.{tighter_rank, tighter_focus, tightest_rank, tightest_focus, more_rank, leaning_begins, leaning_again, leaning_once, flat_begins, flat_goes_on, flat_ends, flat_repeats, flat_wanted}
use Rattle.expr_laws.proofs.Claims.{ChainReads, Leans, Joins, Counts, OperandReads, UnaryReads, PostReads}

-- unary operands
pub prefix_reads : (s : Sign) (p : Prefix) (is : prefix_operator s ≡ Some p) (u : UnaryForm) → UnaryReads u → UnaryReads (prefix_form s p is u)
unfolding expr_terminals expr_actions move
prefix_reads s p is u reads fs r k next out goes =
    steps (prefix_begins s p fs (unary_terminals u r) is)
    (reads (frame.Prefix p ∷ fs) r (prefix_action p ∷ k) next out
    (steps refl goes))

pub post_reads : (p : PostForm) → PostReads p → UnaryReads (post_form p)
unfolding expr_terminals expr_actions
post_reads p reads = reads

-- operands of a level
pub tighter_reads : {l m : Level} (is : tighter_level l ≡ Some m) (c : ChainForm m) → ChainReads c → OperandReads (tighter_form {l = l} {m = m} is c)
unfolding expr_terminals expr_actions
tighter_reads {l} {m} is c reads fs r k next wanted out goes =
    let rank = tighter_rank l m is in
    reads fs r k (omega arith) (omega arith) out (subst (λ (f : Focus). Goes f fs r k out) (sym (tighter_focus l m is)) goes)

pub tightest_reads : {l : Level} (is : tighter_level l ≡ None) (u : UnaryForm) → UnaryReads u → OperandReads (tightest_form {l = l} is u)
unfolding expr_terminals expr_actions
tightest_reads {l} is u reads fs r k next wanted out goes =
    let rank = tightest_rank l is in
    reads fs r k (omega arith) out
    (steps (unary_ends fs r (omega arith)) (subst (λ (f : Focus). Goes f fs r k out) (sym (tightest_focus l is)) goes))

-- the rest of a chain that leans left
pub leans_no_more : {l : Level} → Leans (no_more {l = l})
unfolding expr_terminals expr_actions
leans_no_more {l} fs r k leans next wanted out goes = steps (level_ends l fs r wanted next) goes

pub leans_once_more : {l : Level} (s : Sign) (o : Operator) (is : binary_operator s ≡ Some (l, o)) (last : repeats l ≡ false) (a : OperandForm l) → OperandReads a → Leans (once_more s o is last a)
unfolding expr_terminals expr_actions
leans_once_more {l} s o is last a reads fs r k leans next wanted out goes =
    steps (leaning_begins l s o fs (operand_terminals a r) is leans wanted)
    (reads (frame.Operator l o ∷ fs) r _ (omega arith) (omega arith) out
    (steps (leaning_once l o fs r last) goes))

pub leans_one_more : {l : Level} (s : Sign) (o : Operator) (is : binary_operator s ≡ Some (l, o)) (on : repeats l ≡ true) (a : OperandForm l) (m : MoreForm l) → OperandReads a → Leans m → Leans (one_more s o is on a m)
unfolding expr_terminals expr_actions
leans_one_more {l} s o is on a m reads more fs r k leans next wanted out goes =
    steps (leaning_begins l s o fs (operand_terminals a (more_terminals m r)) is leans wanted)
    (reads (frame.Operator l o ∷ fs) (more_terminals m r) _ (more_rank m r next) (omega arith) out
    (steps (leaning_again l o fs (more_terminals m r) on) (more fs r k leans next wanted out goes)))

-- the rest of a flat chain, behind some operands
pub counts_no_more : {l : Level} → Counts (no_more {l = l})
unfolding expr_terminals expr_actions
counts_no_more {l} n fs r k flat next out goes = steps (flat_ends l n fs r next flat) goes

pub counts_once_more : {l : Level} (s : Sign) (o : Operator) (is : binary_operator s ≡ Some (l, o)) (last : repeats l ≡ false) (a : OperandForm l) → Counts (once_more s o is last a)
counts_once_more {l} s o is last a n fs r k flat next out goes = absurd (never (flat_repeats l flat) last)
  where
    never : repeats l ≡ true → repeats l ≡ false → ⊥
    never p q = cc

pub counts_one_more : {l : Level} (s : Sign) (o : Operator) (is : binary_operator s ≡ Some (l, o)) (on : repeats l ≡ true) (a : OperandForm l) (m : MoreForm l) → OperandReads a → Counts m → Counts (one_more s o is on a m)
unfolding expr_terminals expr_actions
counts_one_more {l} s o is on a m reads more n fs r k flat next out goes =
    steps (flat_goes_on l s o n fs (operand_terminals a (more_terminals m r)) is flat)
    (reads (frame.Join (n + 1) ∷ fs) (more_terminals m r) _ (more_rank m r next) (flat_wanted l flat) out
    (more (n + 1) fs r k flat next out goes))

-- the rest of a flat chain, behind its first operand
pub joins_no_more : {l : Level} → Joins (no_more {l = l})
unfolding expr_terminals expr_actions
joins_no_more {l} fs r k flat next wanted out goes = steps (level_ends l fs r wanted next) goes

pub joins_once_more : {l : Level} (s : Sign) (o : Operator) (is : binary_operator s ≡ Some (l, o)) (last : repeats l ≡ false) (a : OperandForm l) → Joins (once_more s o is last a)
joins_once_more {l} s o is last a fs r k flat next wanted out goes = absurd (never (flat_repeats l flat) last)
  where
    never : repeats l ≡ true → repeats l ≡ false → ⊥
    never p q = cc

pub joins_one_more : {l : Level} (s : Sign) (o : Operator) (is : binary_operator s ≡ Some (l, o)) (on : repeats l ≡ true) (a : OperandForm l) (m : MoreForm l) → OperandReads a → Counts m → Joins (one_more s o is on a m)
unfolding expr_terminals expr_actions
joins_one_more {l} s o is on a m reads more fs r k flat next wanted out goes =
    steps (flat_begins l s o fs (operand_terminals a (more_terminals m r)) is flat wanted)
    (reads (frame.Join 1 ∷ fs) (more_terminals m r) _ (more_rank m r next) (flat_wanted l flat) out
    (more 1 fs r k flat next out goes))

-- a chain
pub chain_reads : {l : Level} (a : OperandForm l) (m : MoreForm l) → OperandReads a → Leans m → Joins m → ChainReads (chain_form a m)
unfolding expr_terminals expr_actions
chain_reads {l} a m reads leans joins fs r k next wanted out goes =
    reads fs (more_terminals m r) _ (more_rank m r next) (omega arith) out
    (rest (is_flat l) refl)
  where
    rest : (flat : Bool) → is_flat l ≡ flat → Goes (focus.Operand l) fs (more_terminals m r) (if flat then joined_actions m k else leaning_actions m k) out
    rest true e = joins fs r k e next wanted out goes
    rest false e = leans fs r k e next wanted out goes
