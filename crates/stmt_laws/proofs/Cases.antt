-- Cases of what is read as an expression, and of what stands next.
use Rattle.std.proofs.Common.{◌≡◌, Bool, true, false, List, [], ◌∷◌, refl, subst, Option, Some, None}
use Rattle.std.specs.Prelude.{if◌then◌else◌}
use Rattle.php_syntax.specs.declared.token.Sign.TheVariants as sign
use Rattle.script_grammar.specs.Terminals.{Terminal, sign_terminal}
use Rattle.script_grammar.specs.Expressions.{ExprForm, expr_terminals}
use Rattle.script_grammar.specs.Statements.{condition_terminals}
use Rattle.expr_machine.specs.Actions.{Action}
use Rattle.expr_machine.specs.Machine.{behind}
use Rattle.expr_machine.specs.Postfix.{expr_actions}
use Rattle.expr_machine.specs.Reading.{expr_at}
use Rattle.stmt_machine.specs.Machine.{colon_next, semicolon_next, paren_end_next, ended_by, condition_at, statement_at, argument_at}

-- what is read as an expression is one, with its actions
abbrev pub ExprSound : Type 0
ExprSound = (ts rest : List Terminal) (acts : List Action) → expr_at ts ≡ Some (acts, rest) → (e : ExprForm) × (expr_terminals e rest ≡ ts) × (expr_actions e [] ≡ acts)

pub expr_case : ExprSound → (Q : Option (List Action × List Terminal) → List Terminal → Type 0) → ((ts : List Terminal) → Q None ts)
    → ((e : ExprForm) (r : List Terminal) → Q (Some (expr_actions e [], r)) (expr_terminals e r)) → (ts : List Terminal) → Q (expr_at ts) ts
expr_case sound Q n s ts = go (expr_at ts) refl
  where
    go : (o : Option (List Action × List Terminal)) → expr_at ts ≡ o → Q o ts
    go None i = n ts
    go (Some (acts, r)) i =
        let x = sound ts r acts i in
        subst (λ us. Q (Some (acts, r)) us) x.1 (subst (λ bs. Q (Some (bs, r)) (expr_terminals x.0 r)) x.2 (s x.0 r))

pub semicolon_case : (Q : Bool → List Terminal → List Terminal → Type 0) → ((r : List Terminal) → Q true r (sign_terminal sign.Semicolon ∷ r)) → ((ts : List Terminal) → Q false (behind ts) ts)
    → (ts : List Terminal) → Q (semicolon_next ts) (behind ts) ts
semicolon_case Q t f (sign_terminal sign.Semicolon ∷ r) = t r
semicolon_case Q t f ts = f ts

pub colon_case : (Q : Bool → List Terminal → List Terminal → Type 0) → ((r : List Terminal) → Q true r (sign_terminal sign.Colon ∷ r)) → ((ts : List Terminal) → Q false (behind ts) ts)
    → (ts : List Terminal) → Q (colon_next ts) (behind ts) ts
colon_case Q t f (sign_terminal sign.Colon ∷ r) = t r
colon_case Q t f ts = f ts

pub paren_case : (Q : Bool → List Terminal → List Terminal → Type 0) → ((r : List Terminal) → Q true r (sign_terminal sign.CloseParen ∷ r)) → ((ts : List Terminal) → Q false (behind ts) ts)
    → (ts : List Terminal) → Q (paren_end_next ts) (behind ts) ts
paren_case Q t f (sign_terminal sign.CloseParen ∷ r) = t r
paren_case Q t f ts = f ts

pub statement_case : ExprSound → (Q : Option (List Action × List Terminal) → List Terminal → Type 0) → ((ts : List Terminal) → Q None ts)
    → ((e : ExprForm) (r : List Terminal) → Q (Some (expr_actions e [], r)) (expr_terminals e (sign_terminal sign.Semicolon ∷ r))) → (ts : List Terminal) → Q (statement_at ts) ts
statement_case sound Q n s ts =
    expr_case sound (λ o us. Q (ended_by semicolon_next o) us) n
    (λ e r. semicolon_case (λ b left us. Q (if b then Some (expr_actions e [], left) else None) (expr_terminals e us)) (λ left. s e left) (λ us. n (expr_terminals e us)) r)
    ts

pub argument_case : ExprSound → (Q : Option (List Action × List Terminal) → List Terminal → Type 0) → ((ts : List Terminal) → Q None ts)
    → ((e : ExprForm) (r : List Terminal) → Q (Some (expr_actions e [], r)) (expr_terminals e (sign_terminal sign.CloseParen ∷ sign_terminal sign.Semicolon ∷ r))) → (ts : List Terminal) → Q (argument_at ts) ts
argument_case sound Q n s ts =
    expr_case sound (λ o us. Q (ended_by semicolon_next (ended_by paren_end_next o)) us) n
    (λ e r. paren_case (λ b left us. Q (ended_by semicolon_next (if b then Some (expr_actions e [], left) else None)) (expr_terminals e us))
    (λ left. semicolon_case (λ b after us. Q (if b then Some (expr_actions e [], after) else None) (expr_terminals e (sign_terminal sign.CloseParen ∷ us))) (λ after. s e after) (λ us. n (expr_terminals e (sign_terminal sign.CloseParen ∷ us))) left)
    (λ us. n (expr_terminals e us)) r)
    ts

pub condition_case : ExprSound → (Q : Option (List Action × List Terminal) → List Terminal → Type 0) → ((ts : List Terminal) → Q None ts)
    → ((e : ExprForm) (r : List Terminal) → Q (Some (expr_actions e [], r)) (condition_terminals e r)) → (ts : List Terminal) → Q (condition_at ts) ts
condition_case sound Q n s (sign_terminal sign.OpenParen ∷ ts) =
    expr_case sound (λ o us. Q (ended_by paren_end_next o) (sign_terminal sign.OpenParen ∷ us)) (λ us. n (sign_terminal sign.OpenParen ∷ us))
    (λ e r. paren_case (λ b left us. Q (if b then Some (expr_actions e [], left) else None) (sign_terminal sign.OpenParen ∷ expr_terminals e us)) (λ left. s e left) (λ us. n (sign_terminal sign.OpenParen ∷ expr_terminals e us)) r)
    ts
condition_case sound Q n s ts = n ts
