-- What may stand at the front where the machine is in some place: what makes a value, so far, into one that the last thing begun waits for,
-- what fills that, and so on down to the whole expression.
use Rattle.std.proofs.Common.{◌≡◌, ◌==◌, ℕ, ◌+◌, Bool, true, false, List, [], ◌∷◌, ◌++◌, Some}
use Rattle.std.specs.Prelude.{if◌then◌else◌}
use Rattle.php_syntax.specs.declared.token.Sign.{Sign}
use Rattle.php_syntax.specs.declared.token.Sign.TheVariants as sign
use Rattle.php_syntax.specs.declared.tree.UpdateSign.{UpdateSign}
use Rattle.script_grammar.specs.declared.operator.Level.{Level}
use Rattle.script_grammar.specs.declared.operator.Level.TheVariants as level
use Rattle.script_grammar.specs.Operators.{repeats, update_sign, step_sign, level_rank}
use Rattle.script_grammar.specs.Terminals.{Terminal, sign_terminal}
use Rattle.script_grammar.specs.Expressions.{is_escape, ExprForm, expr_terminals, NulForm, nul_terminals, MoreForm, more_terminals, operand_terminals, unary_terminals, KeysForm, keys_terminals, SubscriptsForm, subscripts_terminals, MoreExprsForm, more_exprs_terminals, QuotesForm, quotes_terminals, MoreItemsForm, more_items_terminals}
use Rattle.expr_machine.specs.declared.frame.Brackets.{Brackets}
use Rattle.expr_machine.specs.declared.frame.Brackets.TheVariants as brackets
use Rattle.expr_machine.specs.declared.frame.Focus.{Focus}
use Rattle.expr_machine.specs.declared.frame.Focus.TheVariants as focus
use Rattle.expr_machine.specs.declared.frame.Frame.{Frame}
use Rattle.expr_machine.specs.declared.frame.Frame.TheVariants as frame
use Rattle.expr_machine.specs.Actions.{Action, unkeyed_action, prefix_action, binary_action, coalesce_action, short_choice_action, full_choice_action, member_action, read_action, assign_action, update_action, step_action, isset_action, empty_action, array_action, call_action}
use Rattle.expr_machine.specs.Machine.{Move, moves, finished, stuck, looser}
use Rattle.expr_machine.specs.Postfix.{expr_actions, nul_actions, is_flat, joined_actions, counted_actions, leaning_actions, operand_actions, unary_actions, target_keys_actions, keys_count, keys_of_actions, subscripts_count, subscripts_actions, more_exprs_actions, exprs_count, more_items_actions, items_count}
use Rattle.expr_laws.proofs.Shapes.{Rest, Ahead, Reads, OneOf}

-- what the last thing begun waits for
pub data Want : Type 0 where
  wants_unary : Want
  wants_operand : Level → Want
  wants_nul : Want
  wants_expr : Want

abbrev pub want : List Frame → Want
want (frame.Prefix p ∷ fs) = wants_unary
want (frame.Operator l o ∷ fs) = wants_operand l
want (frame.Join n ∷ fs) = wants_operand level.Join
want (frame.Coalesce ∷ fs) = wants_nul
want (frame.ShortChoice ∷ fs) = wants_nul
want (frame.FullChoice ∷ fs) = wants_nul
want _ = wants_expr

abbrev pub rank_of : Want → ℕ
rank_of wants_unary = 0
rank_of (wants_operand l) = level_rank l
rank_of wants_nul = 8
rank_of wants_expr = 10

-- what follows the first operand of a chain
abbrev pub chained_actions : {l : Level} → MoreForm l → List Action → List Action
chained_actions {l = l} m r = if is_flat l then joined_actions m r else leaning_actions m r

-- what may follow a chain of `||`
pub data NulTail : Type 0 where
  end_of_nul : NulTail
  goes_nul : NulForm → NulTail

abbrev pub nul_tail_terminals : NulTail → List Terminal → List Terminal
nul_tail_terminals end_of_nul r = r
nul_tail_terminals (goes_nul n) r = sign_terminal sign.Coalesce ∷ nul_terminals n r

abbrev pub nul_tail_actions : NulTail → List Action → List Action
nul_tail_actions end_of_nul r = r
nul_tail_actions (goes_nul n) r = nul_actions n (coalesce_action ∷ r)

-- what may follow a condition
pub data ChoiceTail : Type 0 where
  end_of_choice : ChoiceTail
  short_tail : NulForm → ChoiceTail
  full_tail : ExprForm → NulForm → ChoiceTail

abbrev pub choice_tail_terminals : ChoiceTail → List Terminal → List Terminal
choice_tail_terminals end_of_choice r = r
choice_tail_terminals (short_tail b) r = sign_terminal sign.Question ∷ sign_terminal sign.Colon ∷ nul_terminals b r
choice_tail_terminals (full_tail e b) r = sign_terminal sign.Question ∷ expr_terminals e (sign_terminal sign.Colon ∷ nul_terminals b r)

abbrev pub choice_tail_actions : ChoiceTail → List Action → List Action
choice_tail_actions end_of_choice r = r
choice_tail_actions (short_tail b) r = nul_actions b (short_choice_action ∷ r)
choice_tail_actions (full_tail e b) r = expr_actions e (nul_actions b (full_choice_action ∷ r))

-- what may follow a variable and so many keys that is an operand: more keys, where none is left out; or a step, where there is none
pub data PlaceTail (n : ℕ) (gap : Bool) : Type 0 where
  read_tail : gap ≡ false → SubscriptsForm → PlaceTail n gap
  step_tail : n ≡ 0 → (s : Sign) (up : Bool) → step_sign s ≡ Some up → PlaceTail n gap

abbrev pub place_tail_terminals : {n : ℕ} {gap : Bool} → PlaceTail n gap → List Terminal → List Terminal
place_tail_terminals (read_tail is ks) r = subscripts_terminals ks r
place_tail_terminals (step_tail none s up is) r = sign_terminal s ∷ r

abbrev pub place_tail_actions : (x : List ℕ) {n : ℕ} {gap : Bool} → PlaceTail n gap → List Action → List Action
place_tail_actions x {n = n} (read_tail is ks) r = keys_of_actions ks (read_action x (n + subscripts_count ks) ∷ r)
place_tail_actions x (step_tail none s up is) r = step_action x up false ∷ r

-- what may follow a variable and so many keys that is a target
pub data TargetTail : Type 0 where
  assign_tail : KeysForm → ExprForm → TargetTail
  update_tail : KeysForm → (s : Sign) (u : UpdateSign) → update_sign s ≡ Some u → ExprForm → TargetTail

abbrev pub target_tail_terminals : TargetTail → List Terminal → List Terminal
target_tail_terminals (assign_tail ks e) r = keys_terminals ks (sign_terminal sign.Assign ∷ expr_terminals e r)
target_tail_terminals (update_tail ks s u is e) r = keys_terminals ks (sign_terminal s ∷ expr_terminals e r)

abbrev pub target_tail_actions : List ℕ → ℕ → TargetTail → List Action → List Action
target_tail_actions x n (assign_tail ks e) r = target_keys_actions ks (expr_actions e (assign_action x (n + keys_count ks) ∷ r))
target_tail_actions x n (update_tail ks s u is e) r = target_keys_actions ks (expr_actions e (update_action u x (n + keys_count ks) ∷ r))

-- what may follow an argument behind so many others
pub data ArgumentTail (f : List ℕ) (n : ℕ) : Type 0 where
  arguments_tail : MoreExprsForm → ArgumentTail f n
  quotes_tail : is_escape f ≡ true → n ≡ 0 → QuotesForm → ArgumentTail f n

abbrev pub argument_tail_terminals : {f : List ℕ} {n : ℕ} → ArgumentTail f n → List Terminal → List Terminal
argument_tail_terminals (arguments_tail es) r = more_exprs_terminals es (sign_terminal sign.CloseParen ∷ r)
argument_tail_terminals (quotes_tail is none q) r = sign_terminal sign.Comma ∷ quotes_terminals q (sign_terminal sign.CloseParen ∷ r)

abbrev pub argument_tail_actions : {f : List ℕ} {n : ℕ} → ArgumentTail f n → List Action → List Action
argument_tail_actions {f = f} {n = n} (arguments_tail es) r = more_exprs_actions es (call_action f (n + exprs_count es + 1) ∷ r)
argument_tail_actions {f = f} (quotes_tail is none q) r = call_action f 1 ∷ r

-- the sign that closes the brackets of an array
abbrev pub closer : Brackets → Sign
closer brackets.Round = sign.CloseParen
closer brackets.Square = sign.CloseBracket

-- what may follow an item behind so many others
abbrev pub items_tail_terminals : Brackets → MoreItemsForm → List Terminal → List Terminal
items_tail_terminals b is r = more_items_terminals is (sign_terminal (closer b) ∷ r)

abbrev pub items_tail_actions : ℕ → MoreItemsForm → List Action → List Action
items_tail_actions n is r = more_items_actions is (array_action (n + items_count is + 1) ∷ r)

-- what may follow an item that may yet be the key of a value
pub data ItemTail : Type 0 where
  value_tail : MoreItemsForm → ItemTail
  keyed_tail : ExprForm → MoreItemsForm → ItemTail

abbrev pub item_tail_terminals : Brackets → ItemTail → List Terminal → List Terminal
item_tail_terminals b (value_tail is) r = items_tail_terminals b is r
item_tail_terminals b (keyed_tail e is) r = sign_terminal sign.DoubleArrow ∷ expr_terminals e (items_tail_terminals b is r)

abbrev pub item_tail_actions : ℕ → ItemTail → List Action → List Action
item_tail_actions n (value_tail is) r = unkeyed_action ∷ items_tail_actions n is r
item_tail_actions n (keyed_tail e is) r = expr_actions e (items_tail_actions n is r)

-- what leads from a whole value to what is wanted
abbrev pub FromWhole : Want → Rest → Rest
FromWhole wants_expr k = k
FromWhole _ k = λ ts acts. ⊥

abbrev pub FromCoalesced : Want → Rest → Rest
FromCoalesced wants_nul k = k
FromCoalesced w k = Reads choice_tail_terminals choice_tail_actions (FromWhole w k)

abbrev pub FromChain : Want → Rest → Rest
FromChain w k = Reads nul_tail_terminals nul_tail_actions (FromCoalesced w k)

-- from an operand of a level, where a whole chain leads on so
abbrev pub FromLevel : Level → Rest → Want → Rest → Rest
FromLevel l next w k = λ ts acts. OneOf (rank_of w == level_rank l) (k ts acts) (Reads (more_terminals {l = l}) chained_actions next ts acts)

abbrev pub FromOr : Want → Rest → Rest
FromOr w k = FromLevel level.Or (FromChain w k) w k

abbrev pub FromAnd : Want → Rest → Rest
FromAnd w k = FromLevel level.And (FromOr w k) w k

abbrev pub FromEquality : Want → Rest → Rest
FromEquality w k = FromLevel level.Equality (FromAnd w k) w k

abbrev pub FromOrder : Want → Rest → Rest
FromOrder w k = FromLevel level.Order (FromEquality w k) w k

abbrev pub FromJoin : Want → Rest → Rest
FromJoin w k = FromLevel level.Join (FromOrder w k) w k

abbrev pub FromSum : Want → Rest → Rest
FromSum w k = FromLevel level.Sum (FromJoin w k) w k

abbrev pub FromProduct : Want → Rest → Rest
FromProduct w k = FromLevel level.Product (FromSum w k) w k

abbrev pub FromOperand : Level → Want → Rest → Rest
FromOperand level.Product w k = FromProduct w k
FromOperand level.Sum w k = FromSum w k
FromOperand level.Join w k = FromJoin w k
FromOperand level.Order w k = FromOrder w k
FromOperand level.Equality w k = FromEquality w k
FromOperand level.And w k = FromAnd w k
FromOperand level.Or w k = FromOr w k

abbrev pub FromUnary : Want → Rest → Rest
FromUnary wants_unary k = k
FromUnary w k = FromProduct w k

abbrev pub FromSubscripted : Want → Rest → Rest
FromSubscripted w k = Reads subscripts_terminals subscripts_actions (FromUnary w k)

-- from a variable with so many keys
pub data FromPlace (x : List ℕ) (n : ℕ) (gap : Bool) (w : Want) (k : List Terminal → List Action → Type 0) (ts : List Terminal) (acts : List Action) : Type 0 where
  is_operand : Reads {X = PlaceTail n gap} place_tail_terminals (place_tail_actions x) (FromUnary w k) ts acts → FromPlace x n gap w k ts acts
  is_target : w ≡ wants_expr → Reads target_tail_terminals (target_tail_actions x n) k ts acts → FromPlace x n gap w k ts acts

-- from where an expression or an operand begins
abbrev pub FromBegin : Want → Rest → Rest
FromBegin wants_unary k = Reads unary_terminals unary_actions k
FromBegin (wants_operand l) k = Reads (operand_terminals {l = l}) operand_actions k
FromBegin wants_nul k = Reads nul_terminals nul_actions k
FromBegin wants_expr k = Reads expr_terminals expr_actions k

abbrev pub From : Focus → Want → Rest → Rest
From focus.Begin w k = FromBegin w k
From (focus.Place x n gap) w k = FromPlace x n gap w k
From focus.Subscripted w k = FromSubscripted w k
From focus.Unary w k = FromUnary w k
From (focus.Operand l) w k = FromOperand l w k
From focus.Chain w k = FromChain w k
From focus.Coalesced w k = FromCoalesced w k
From focus.Whole w k = FromWhole w k

-- what may stand behind the value that fills the last thing begun, where the whole expression leaves these terminals
abbrev pub Filled : List Terminal → List Frame → Rest
Filled end [] = λ ts acts. (ts ≡ end) × (acts ≡ [])
Filled end (frame.Prefix p ∷ fs) = Ahead (λ r. r) (λ r. prefix_action p ∷ r) (FromUnary (want fs) (Filled end fs))
Filled end (frame.Operator l o ∷ fs) = Ahead (λ r. r) (λ r. binary_action o ∷ r) (From (if repeats l then focus.Operand l else looser l) (want fs) (Filled end fs))
Filled end (frame.Join n ∷ fs) = Reads (more_terminals {l = level.Join}) (λ m r. counted_actions m (n + 1) r) (FromOrder (want fs) (Filled end fs))
Filled end (frame.Coalesce ∷ fs) = Ahead (λ r. r) (λ r. coalesce_action ∷ r) (FromCoalesced (want fs) (Filled end fs))
Filled end (frame.ShortChoice ∷ fs) = Ahead (λ r. r) (λ r. short_choice_action ∷ r) (FromWhole (want fs) (Filled end fs))
Filled end (frame.FullChoice ∷ fs) = Ahead (λ r. r) (λ r. full_choice_action ∷ r) (FromWhole (want fs) (Filled end fs))
Filled end (frame.Middle ∷ fs) = Reads (λ n r. sign_terminal sign.Colon ∷ nul_terminals n r) (λ n r. nul_actions n (full_choice_action ∷ r)) (FromWhole (want fs) (Filled end fs))
Filled end (frame.Assign x n ∷ fs) = Ahead (λ r. r) (λ r. assign_action x n ∷ r) (FromWhole (want fs) (Filled end fs))
Filled end (frame.Update u x n ∷ fs) = Ahead (λ r. r) (λ r. update_action u x n ∷ r) (FromWhole (want fs) (Filled end fs))
Filled end (frame.Parens ∷ fs) = Ahead (λ r. sign_terminal sign.CloseParen ∷ r) (λ r. r) (FromSubscripted (want fs) (Filled end fs))
Filled end (frame.Subscript ∷ fs) = Ahead (λ r. sign_terminal sign.CloseBracket ∷ r) (λ r. member_action ∷ r) (FromSubscripted (want fs) (Filled end fs))
Filled end (frame.Key x n gap ∷ fs) = Ahead (λ r. sign_terminal sign.CloseBracket ∷ r) (λ r. r) (FromPlace x (n + 1) gap (want fs) (Filled end fs))
Filled end (frame.Isset n ∷ fs) = Reads (λ es r. more_exprs_terminals es (sign_terminal sign.CloseParen ∷ r)) (λ es r. more_exprs_actions es (isset_action (n + exprs_count es + 1) ∷ r)) (FromUnary (want fs) (Filled end fs))
Filled end (frame.Empty ∷ fs) = Ahead (λ r. sign_terminal sign.CloseParen ∷ r) (λ r. empty_action ∷ r) (FromUnary (want fs) (Filled end fs))
Filled end (frame.Argument f n ∷ fs) = Reads {X = ArgumentTail f n} argument_tail_terminals argument_tail_actions (FromSubscripted (want fs) (Filled end fs))
Filled end (frame.Item b n ∷ fs) = Reads (item_tail_terminals b) (item_tail_actions n) (FromUnary (want fs) (Filled end fs))
Filled end (frame.KeyedItem b n ∷ fs) = Reads (items_tail_terminals b) (items_tail_actions n) (FromUnary (want fs) (Filled end fs))

-- what may stand at the front, where the machine is in some place and these things are begun
abbrev pub Stands : List Terminal → Focus → List Frame → Rest
Stands end f fs = From f (want fs) (Filled end fs)

-- what is to be shown of a move: what may stand where it leads, behind its actions, may stand where it was made
abbrev pub Carries : List Terminal → Move → List Terminal → (List Action → Type 0) → Type 0
Carries end (moves g gs us acts) ts P = (later : List Action) → Stands end g gs us later → P (acts ++ later)
Carries end finished ts P = ts ≡ end → P []
Carries end stuck ts P = Unit {0}
