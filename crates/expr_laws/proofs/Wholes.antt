-- Whole expressions are read, where their parts are: assignments, choices and chains of `??`.
use Rattle.std.proofs.Common.{◌≡◌, ℕ, ◌+◌, true, false, List, ◌∷◌, Some, refl, ◌∙◌, subst, arith}
use Rattle.php_syntax.specs.declared.token.Sign.{Sign}
use Rattle.php_syntax.specs.declared.token.Sign.TheVariants as sign
use Rattle.php_syntax.specs.declared.tree.UpdateSign.{UpdateSign}
use Rattle.script_grammar.specs.declared.operator.Level.TheVariants as level
use Rattle.script_grammar.specs.Operators.{update_sign}
use Rattle.script_grammar.specs.Terminals.{Terminal, sign_terminal}
use Rattle.script_grammar.specs.Expressions.{ExprForm, assign_form, update_form, choice_form, target_form, KeysForm, no_key_form, open_key_form, key_form, ChoiceForm, only_choice, short_choice, full_choice, NulForm, only_nul, coalesce_form, ChainForm, expr_terminals, keys_terminals, nul_terminals}
use Rattle.expr_machine.specs.declared.frame.Focus.TheVariants as focus
use Rattle.expr_machine.specs.declared.frame.Frame.TheVariants as frame
use Rattle.expr_machine.specs.Machine.{move}
use Rattle.expr_machine.specs.Postfix.{keys_count, expr_actions}
use Rattle.expr_laws.proofs.Goes.{Goes, steps}
use Rattle.expr_laws.proofs.Ahead.{chain_ends, coalesced_asks, coalesced_ends}
use Rattle.expr_laws.proofs.Opening.{expr_opens, key_begins, middle_begins}
use Rattle.expr_laws.proofs.Begins.{assign_begins, update_begins}
use Rattle.expr_laws.proofs.Claims.{ExprReads, KeysRead, ChoiceReads, NulReads, ChainReads, gap_behind}

-- the keys of a target
pub no_key_reads : KeysRead no_key_form
unfolding expr_terminals expr_actions
no_key_reads x n m gap fs r k count out goes =
    subst (λ (j : ℕ). Goes (focus.Place x j gap) fs r k out) (omega arith) goes

pub open_key_reads : (ks : KeysForm) → KeysRead ks → KeysRead (open_key_form ks)
unfolding expr_terminals expr_actions move
open_key_reads ks reads x n m gap fs r k count out goes =
    steps refl (reads x (n + 1) m true fs r k (omega arith) out goes)

pub key_reads : (e : ExprForm) (ks : KeysForm) → ExprReads e → KeysRead ks → KeysRead (key_form e ks)
unfolding expr_terminals expr_actions move
key_reads e ks key reads x n m gap fs r k count out goes =
    let behind : List Terminal = sign_terminal sign.CloseBracket ∷ keys_terminals ks r in
    steps (key_begins x n gap fs (expr_terminals e behind) (expr_opens e behind))
    (key (frame.Key x n gap ∷ fs) behind _ refl refl out
    (steps refl (reads x (n + 1) m gap fs r k (omega arith) out goes)))

-- assignments
pub assign_reads : (x : List ℕ) (ks : KeysForm) (e : ExprForm) → KeysRead ks → ExprReads e → ExprReads (assign_form (target_form x ks) e)
unfolding expr_terminals expr_actions move
assign_reads x ks e keys reads fs r k next wanted out goes =
    let n = keys_count ks in
    let value : List Terminal = expr_terminals e r in
    steps refl (keys x 0 n false fs (sign_terminal sign.Assign ∷ value) _ (omega arith) out
    (steps (assign_begins x n (gap_behind false ks) fs value wanted)
    (reads (frame.Assign x n ∷ fs) r _ next refl out
    (steps refl goes))))

pub update_reads : (x : List ℕ) (ks : KeysForm) (s : Sign) (u : UpdateSign) (is : update_sign s ≡ Some u) (e : ExprForm) → KeysRead ks → ExprReads e → ExprReads (update_form (target_form x ks) s u is e)
unfolding expr_terminals expr_actions move
update_reads x ks s u is e keys reads fs r k next wanted out goes =
    let n = keys_count ks in
    let value : List Terminal = expr_terminals e r in
    steps refl (keys x 0 n false fs (sign_terminal s ∷ value) _ (omega arith) out
    (steps (update_begins u x n (gap_behind false ks) fs s value is wanted)
    (reads (frame.Update u x n ∷ fs) r _ next refl out
    (steps refl goes))))

pub choice_form_reads : (c : ChoiceForm) → ChoiceReads c → ExprReads (choice_form c)
unfolding expr_terminals expr_actions
choice_form_reads c reads = reads

-- choices
pub only_choice_reads : (a : NulForm) → NulReads a → ChoiceReads (only_choice a)
unfolding expr_terminals expr_actions
only_choice_reads a reads fs r k next wanted out goes =
    reads fs r k (omega arith) (omega arith) out
    (steps (coalesced_ends fs r wanted (omega arith)) goes)

pub short_choice_reads : (a b : NulForm) → NulReads a → NulReads b → ChoiceReads (short_choice a b)
unfolding expr_terminals expr_actions move
short_choice_reads a b first second fs r k next wanted out goes =
    let behind : List Terminal = sign_terminal sign.Question ∷ sign_terminal sign.Colon ∷ nul_terminals b r in
    first fs behind _ (omega arith) (omega arith) out
    (steps (coalesced_asks fs behind wanted)
    (second (frame.ShortChoice ∷ fs) r _ (omega arith) (omega arith) out
    (steps refl goes)))

pub full_choice_reads : (a : NulForm) (e : ExprForm) (b : NulForm) → NulReads a → ExprReads e → NulReads b → ChoiceReads (full_choice a e b)
unfolding expr_terminals expr_actions move
full_choice_reads a e b first middle second fs r k next wanted out goes =
    let last : List Terminal = sign_terminal sign.Colon ∷ nul_terminals b r in
    let inner : List Terminal = expr_terminals e last in
    first fs (sign_terminal sign.Question ∷ inner) _ (omega arith) (omega arith) out
    (steps (coalesced_asks fs (sign_terminal sign.Question ∷ inner) wanted ∙ middle_begins fs inner (expr_opens e last))
    (middle (frame.Middle ∷ fs) last _ refl refl out
    (steps refl
    (second (frame.FullChoice ∷ fs) r _ (omega arith) (omega arith) out
    (steps refl goes)))))

-- chains of `??`
pub only_nul_reads : (c : ChainForm level.Or) → ChainReads c → NulReads (only_nul c)
unfolding expr_terminals expr_actions
only_nul_reads c reads fs r k next wanted out goes =
    reads fs r k (omega arith) wanted out
    (steps (chain_ends fs r next) goes)

pub coalesce_reads : (c : ChainForm level.Or) (n : NulForm) → ChainReads c → NulReads n → NulReads (coalesce_form c n)
unfolding expr_terminals expr_actions move
coalesce_reads c n first second fs r k next wanted out goes =
    first fs (sign_terminal sign.Coalesce ∷ nul_terminals n r) _ (omega arith) wanted out
    (steps refl
    (second (frame.Coalesce ∷ fs) r _ next (omega arith) out
    (steps refl goes)))
