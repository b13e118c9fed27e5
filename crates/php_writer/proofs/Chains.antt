-- One more operand at the end of a chain.
use Rattle.std.proofs.Common.{◌≡◌, ◌∙◌, true, false, List, ◌∷◌, Some, refl, ap, sym}
use Rattle.php_syntax.specs.declared.token.Sign.{Sign}
use Rattle.script_grammar.specs.declared.operator.Level.{Level}
use Rattle.script_grammar.specs.declared.operator.Operator.{Operator}
use Rattle.script_grammar.specs.Operators.{repeats, binary_operator}
use Rattle.php_syntax.specs.Trees.{PlainExpr}
use Rattle.script_grammar.specs.Terminals.{Terminal, sign_terminal}
use Rattle.script_grammar.specs.Expressions.{ChainForm, chain_form, MoreForm, no_more, once_more, one_more, OperandForm, expr_terminals, expr_tree, chain_terminals, more_terminals, operand_terminals, chain_tree, more_tree, operand_tree, Links, operator_tree, lean_left, chain_tree_of}

-- a chain at this level leans left
abbrev pub Leans : Level → Type 0
Leans l = (a : PlainExpr) (ls : Links) → chain_tree_of l a ls ≡ lean_left a ls

pub more_then : {l : Level} → MoreForm l → (s : Sign) (o : Operator) → binary_operator s ≡ Some (l, o) → repeats l ≡ true → OperandForm l → MoreForm l
more_then no_more s o is on b = one_more s o is on b no_more
more_then (once_more t p it last a) s o is on b = one_more s o is on b no_more
more_then (one_more t p it goes a m) s o is on b = one_more t p it goes a (more_then m s o is on b)

more_then-terminals : {l : Level} (m : MoreForm l) (s : Sign) (o : Operator) (is : binary_operator s ≡ Some (l, o)) (on : repeats l ≡ true) (b : OperandForm l) (r : List Terminal)
    → more_terminals (more_then m s o is on b) r ≡ more_terminals m (sign_terminal s ∷ operand_terminals b r)
unfolding expr_terminals more_then
more_then-terminals no_more s o is on b r = refl
more_then-terminals (once_more t p it last a) s o is on b r = absurd (let both : true ≡ false = sym on ∙ last in cc)
more_then-terminals (one_more t p it goes a m) s o is on b r = ap (λ ts. sign_terminal t ∷ operand_terminals a ts) (more_then-terminals m s o is on b r)

more_then-tree : {l : Level} (a : PlainExpr) (m : MoreForm l) (s : Sign) (o : Operator) (is : binary_operator s ≡ Some (l, o)) (on : repeats l ≡ true) (b : OperandForm l)
    → lean_left a (more_tree (more_then m s o is on b)) ≡ operator_tree o (lean_left a (more_tree m)) (operand_tree b)
unfolding expr_tree more_then
more_then-tree a no_more s o is on b = refl
more_then-tree a (once_more t p it last c) s o is on b = absurd (let both : true ≡ false = sym on ∙ last in cc)
more_then-tree a (one_more t p it goes c m) s o is on b = more_then-tree (operator_tree p a (operand_tree c)) m s o is on b

pub chain_then : {l : Level} → ChainForm l → (s : Sign) (o : Operator) → binary_operator s ≡ Some (l, o) → repeats l ≡ true → OperandForm l → ChainForm l
chain_then (chain_form a m) s o is on b = chain_form a (more_then m s o is on b)

pub chain_then-terminals : {l : Level} (c : ChainForm l) (s : Sign) (o : Operator) (is : binary_operator s ≡ Some (l, o)) (on : repeats l ≡ true) (b : OperandForm l) (r : List Terminal)
    → chain_terminals (chain_then c s o is on b) r ≡ chain_terminals c (sign_terminal s ∷ operand_terminals b r)
unfolding expr_terminals chain_then
chain_then-terminals (chain_form a m) s o is on b r = ap (operand_terminals a) (more_then-terminals m s o is on b r)

pub chain_then-tree : {l : Level} (c : ChainForm l) (s : Sign) (o : Operator) (is : binary_operator s ≡ Some (l, o)) (on : repeats l ≡ true) (b : OperandForm l)
    → Leans l → chain_tree (chain_then c s o is on b) ≡ operator_tree o (chain_tree c) (operand_tree b)
unfolding expr_tree chain_then
chain_then-tree (chain_form a m) s o is on b leans =
    leans (operand_tree a) (more_tree (more_then m s o is on b)) ∙ more_then-tree (operand_tree a) m s o is on b ∙ ap (λ e. operator_tree o e (operand_tree b)) (sym (leans (operand_tree a) (more_tree m)))
