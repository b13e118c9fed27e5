-- A unary operand at the front with what leads from it to what is wanted: then what is wanted stands at the front.
use Rattle.std.proofs.Common.{◌≡◌, sym, ◌==◌, Bool, true, false, List, refl, ap, subst, Some}
use Rattle.script_grammar.specs.declared.operator.Level.{Level}
use Rattle.script_grammar.specs.declared.operator.Level.TheVariants as level
use Rattle.script_grammar.specs.Operators.{tighter_level, level_rank}
use Rattle.script_grammar.specs.Terminals.{Terminal}
use Rattle.script_grammar.specs.Expressions.{choice_form, expr_terminals, ChoiceForm, only_choice, short_choice, full_choice, choice_terminals, NulForm, only_nul, coalesce_form, nul_terminals, ChainForm, chain_form, chain_terminals, MoreForm, more_terminals, OperandForm, tighter_form, tightest_form, operand_terminals, UnaryForm, unary_terminals}
use Rattle.expr_machine.specs.Actions.{Action}
use Rattle.expr_machine.specs.Postfix.{expr_actions, choice_actions, nul_actions, chain_actions, operand_actions, unary_actions}
use Rattle.expr_laws.proofs.Shapes.{Rest, Ahead, Reads, joined, OneOf}
use Rattle.expr_laws.proofs.Stands.{Want, wants_unary, wants_operand, wants_nul, wants_expr, rank_of, chained_actions, NulTail, end_of_nul, goes_nul, nul_tail_terminals, nul_tail_actions, ChoiceTail, end_of_choice, short_tail, full_tail, choice_tail_terminals, choice_tail_actions, FromCoalesced, FromChain, FromOr, FromAnd, FromEquality, FromOrder, FromJoin, FromSum, FromProduct, FromUnary, FromBegin}

pub false_true : false ≡ true → ⊥
false_true e = cc

no_level_unary : (l : Level) → (0 == level_rank l) ≡ true → ⊥
no_level_unary level.Product e = false_true e
no_level_unary level.Sum e = false_true e
no_level_unary level.Join e = false_true e
no_level_unary level.Order e = false_true e
no_level_unary level.Equality e = false_true e
no_level_unary level.And e = false_true e
no_level_unary level.Or e = false_true e

no_level_nul : (l : Level) → (8 == level_rank l) ≡ true → ⊥
no_level_nul level.Product e = false_true e
no_level_nul level.Sum e = false_true e
no_level_nul level.Join e = false_true e
no_level_nul level.Order e = false_true e
no_level_nul level.Equality e = false_true e
no_level_nul level.And e = false_true e
no_level_nul level.Or e = false_true e

no_level_expr : (l : Level) → (10 == level_rank l) ≡ true → ⊥
no_level_expr level.Product e = false_true e
no_level_expr level.Sum e = false_true e
no_level_expr level.Join e = false_true e
no_level_expr level.Order e = false_true e
no_level_expr level.Equality e = false_true e
no_level_expr level.And e = false_true e
no_level_expr level.Or e = false_true e

pub same_level : (m l : Level) → (level_rank m == level_rank l) ≡ true → m ≡ l
same_level level.Product level.Product e = refl
same_level level.Sum level.Sum e = refl
same_level level.Join level.Join e = refl
same_level level.Order level.Order e = refl
same_level level.Equality level.Equality e = refl
same_level level.And level.And e = refl
same_level level.Or level.Or e = refl
same_level m l e = absurd (false_true e)

-- a want of the rank of a level is that for an operand of it
pub wants_level : (w : Want) (l : Level) → (rank_of w == level_rank l) ≡ true → w ≡ wants_operand l
wants_level wants_unary l e = absurd (no_level_unary l e)
wants_level (wants_operand m) l e = ap wants_operand (same_level m l e)
wants_level wants_nul l e = absurd (no_level_nul l e)
wants_level wants_expr l e = absurd (no_level_expr l e)

-- a choice that is wanted or a tighter thing
choice_of : NulForm → ChoiceTail → ChoiceForm
choice_of a end_of_choice = only_choice a
choice_of a (short_tail b) = short_choice a b
choice_of a (full_tail e b) = full_choice a e b

choice_read : (a : NulForm) (c : ChoiceTail) {k : Rest} {ts : List Terminal} {acts : List Action}
    → Ahead (λ r. nul_terminals a (choice_tail_terminals c r)) (λ r. nul_actions a (choice_tail_actions c r)) k ts acts
    → Ahead (expr_terminals (choice_form (choice_of a c))) (expr_actions (choice_form (choice_of a c))) k ts acts
unfolding choice_of expr_terminals choice_terminals expr_actions choice_actions
choice_read a end_of_choice h = h
choice_read a (short_tail b) h = h
choice_read a (full_tail e b) h = h

choice_begun : (k : Rest) {ts : List Terminal} {acts : List Action} (a : NulForm) (p : Ahead (nul_terminals a) (nul_actions a) (Reads choice_tail_terminals choice_tail_actions k) ts acts)
    → Reads expr_terminals expr_actions k ts acts
choice_begun k a p = let c = p.goes_on.0 in (choice_form (choice_of a c), choice_read a c (joined p p.goes_on.1))

pub nul_begun : (w : Want) (k : Rest) {ts : List Terminal} {acts : List Action} → Reads nul_terminals nul_actions (FromCoalesced w k) ts acts → FromBegin w k ts acts
nul_begun wants_unary k h = absurd (h.1).goes_on.1.goes_on
nul_begun (wants_operand l) k h = absurd (h.1).goes_on.1.goes_on
nul_begun wants_nul k h = h
nul_begun wants_expr k h = choice_begun k h.0 h.1

nul_of : ChainForm level.Or → NulTail → NulForm
nul_of c end_of_nul = only_nul c
nul_of c (goes_nul n) = coalesce_form c n

nul_read : (c : ChainForm level.Or) (n : NulTail) {k : Rest} {ts : List Terminal} {acts : List Action}
    → Ahead (λ r. chain_terminals c (nul_tail_terminals n r)) (λ r. chain_actions c (nul_tail_actions n r)) k ts acts
    → Ahead (nul_terminals (nul_of c n)) (nul_actions (nul_of c n)) k ts acts
unfolding nul_of nul_terminals nul_actions
nul_read c end_of_nul h = h
nul_read c (goes_nul n) h = h

pub chain_begun : (w : Want) (k : Rest) {ts : List Terminal} {acts : List Action} → Reads (chain_terminals {l = level.Or}) chain_actions (FromChain w k) ts acts → FromBegin w k ts acts
chain_begun w k h = let p = h.1 in let n = p.goes_on.0 in nul_begun w k (nul_of h.0 n, nul_read h.0 n (joined p p.goes_on.1))

-- an operand of a level, where a chain of it leads on
chain_read : {l : Level} (a : OperandForm l) (m : MoreForm l) {k : Rest} {ts : List Terminal} {acts : List Action}
    → Ahead (λ r. operand_terminals a (more_terminals m r)) (λ r. operand_actions a (chained_actions m r)) k ts acts
    → Ahead (chain_terminals (chain_form a m)) (chain_actions (chain_form a m)) k ts acts
unfolding chain_terminals chain_actions
chain_read a m h = h

wanted_now : (l : Level) (w : Want) (k : Rest) {ts : List Terminal} {acts : List Action} → w ≡ wants_operand l → Reads (operand_terminals {l = l}) operand_actions k ts acts → FromBegin w k ts acts
wanted_now l w k {ts = ts} {acts = acts} e h = subst (λ v. FromBegin v k ts acts) (sym e) h

level_begun : (l : Level) (next : Rest) (w : Want) (k : Rest) {ts : List Terminal} {acts : List Action}
    → (Reads (chain_terminals {l = l}) chain_actions next ts acts → FromBegin w k ts acts)
    → (b : Bool) → (rank_of w == level_rank l) ≡ b
    → (a : OperandForm l) (p : Ahead (operand_terminals a) (operand_actions a) (λ us bs. OneOf b (k us bs) (Reads (more_terminals {l = l}) chained_actions next us bs)) ts acts)
    → FromBegin w k ts acts
level_begun l next w k up true e a p = wanted_now l w k (wants_level w l e) (a, p)
level_begun l next w k up false e a p = let m = p.goes_on.0 in up (chain_form a m, chain_read a m (joined p p.goes_on.1))

tighter_read : (l m : Level) (is : tighter_level l ≡ Some m) (c : ChainForm m) {k : Rest} {ts : List Terminal} {acts : List Action}
    → Ahead (chain_terminals c) (chain_actions c) k ts acts → Ahead (operand_terminals (tighter_form is c)) (operand_actions (tighter_form is c)) k ts acts
unfolding operand_terminals operand_actions
tighter_read l m is c h = h

or_begun : (w : Want) (k : Rest) {ts : List Terminal} {acts : List Action} → Reads (operand_terminals {l = level.Or}) operand_actions (FromOr w k) ts acts → FromBegin w k ts acts
or_begun w k h = level_begun level.Or (FromChain w k) w k (chain_begun w k) (rank_of w == level_rank level.Or) refl h.0 h.1

and_begun : (w : Want) (k : Rest) {ts : List Terminal} {acts : List Action} → Reads (operand_terminals {l = level.And}) operand_actions (FromAnd w k) ts acts → FromBegin w k ts acts
and_begun w k h = level_begun level.And (FromOr w k) w k (λ c. or_begun w k (tighter_form refl c.0, tighter_read _ _ refl c.0 c.1)) (rank_of w == level_rank level.And) refl h.0 h.1

equality_begun : (w : Want) (k : Rest) {ts : List Terminal} {acts : List Action} → Reads (operand_terminals {l = level.Equality}) operand_actions (FromEquality w k) ts acts → FromBegin w k ts acts
equality_begun w k h = level_begun level.Equality (FromAnd w k) w k (λ c. and_begun w k (tighter_form refl c.0, tighter_read _ _ refl c.0 c.1)) (rank_of w == level_rank level.Equality) refl h.0 h.1

order_begun : (w : Want) (k : Rest) {ts : List Terminal} {acts : List Action} → Reads (operand_terminals {l = level.Order}) operand_actions (FromOrder w k) ts acts → FromBegin w k ts acts
order_begun w k h = level_begun level.Order (FromEquality w k) w k (λ c. equality_begun w k (tighter_form refl c.0, tighter_read _ _ refl c.0 c.1)) (rank_of w == level_rank level.Order) refl h.0 h.1

join_begun : (w : Want) (k : Rest) {ts : List Terminal} {acts : List Action} → Reads (operand_terminals {l = level.Join}) operand_actions (FromJoin w k) ts acts → FromBegin w k ts acts
join_begun w k h = level_begun level.Join (FromOrder w k) w k (λ c. order_begun w k (tighter_form refl c.0, tighter_read _ _ refl c.0 c.1)) (rank_of w == level_rank level.Join) refl h.0 h.1

sum_begun : (w : Want) (k : Rest) {ts : List Terminal} {acts : List Action} → Reads (operand_terminals {l = level.Sum}) operand_actions (FromSum w k) ts acts → FromBegin w k ts acts
sum_begun w k h = level_begun level.Sum (FromJoin w k) w k (λ c. join_begun w k (tighter_form refl c.0, tighter_read _ _ refl c.0 c.1)) (rank_of w == level_rank level.Sum) refl h.0 h.1

product_begun : (w : Want) (k : Rest) {ts : List Terminal} {acts : List Action} → Reads (operand_terminals {l = level.Product}) operand_actions (FromProduct w k) ts acts → FromBegin w k ts acts
product_begun w k h = level_begun level.Product (FromSum w k) w k (λ c. sum_begun w k (tighter_form refl c.0, tighter_read _ _ refl c.0 c.1)) (rank_of w == level_rank level.Product) refl h.0 h.1

tightest_read : (u : UnaryForm) {k : Rest} {ts : List Terminal} {acts : List Action}
    → Ahead (unary_terminals u) (unary_actions u) k ts acts → Ahead (operand_terminals (tightest_form {l = level.Product} refl u)) (operand_actions (tightest_form {l = level.Product} refl u)) k ts acts
unfolding operand_terminals operand_actions
tightest_read u h = h

pub unary_begun : (w : Want) (k : Rest) {ts : List Terminal} {acts : List Action} → Reads unary_terminals unary_actions (FromUnary w k) ts acts → FromBegin w k ts acts
unary_begun wants_unary k h = h
unary_begun (wants_operand l) k h = product_begun (wants_operand l) k (tightest_form refl h.0, tightest_read h.0 h.1)
unary_begun wants_nul k h = product_begun wants_nul k (tightest_form refl h.0, tightest_read h.0 h.1)
unary_begun wants_expr k h = product_begun wants_expr k (tightest_form refl h.0, tightest_read h.0 h.1)
