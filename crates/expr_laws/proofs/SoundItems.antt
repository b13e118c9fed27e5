-- The moves behind an item of an array, and behind an argument that two more may stand behind, carry what stands behind them.
use Rattle.std.proofs.Common.{◌≡◌, ◌∙◌, ◌==◌, ℕ, ◌+◌, Bool, true, false, List, [], ◌∷◌, ◌++◌, refl, ap, Option, Some, None}
use Rattle.std.specs.Prelude.{if◌then◌else◌, ◌&&◌, codes}
use Rattle.std.specs.Cmp.{first_so, second_so}
use Rattle.std.specs.Cmp.Lexicographic.{bytes_decides}
use Rattle.std.specs.Str.{str_eq_ignore_ascii_case}
use Rattle.std.proofs.lemmas.Bool.Decides.{Decides-eqb}
use Rattle.php_syntax.specs.declared.token.Sign.TheVariants as sign
use Rattle.script_grammar.specs.Terminals.{Terminal, sign_terminal, name_terminal, text_terminal, same_bytes}
use Rattle.script_grammar.specs.Expressions.{is_escape, ExprForm, expr_terminals, QuotesForm, only_quotes, quotes_and_charset, quotes_terminals, end_of_items, last_comma, one_more_item, more_items_terminals, value_item, keyed_item, item_terminals}
use Rattle.expr_machine.specs.declared.frame.Brackets.{Brackets}
use Rattle.expr_machine.specs.declared.frame.Focus.TheVariants as focus
use Rattle.expr_machine.specs.declared.frame.Frame.{Frame}
use Rattle.expr_machine.specs.declared.frame.Frame.TheVariants as frame
use Rattle.expr_machine.specs.Actions.{Action, unkeyed_action, array_action, call_action}
use Rattle.expr_machine.specs.Machine.{moves, closed_next, behind, argument_move, escape_move, behind_quotes, behind_charset, item_move, item_end_move, next_item_move, item_actions}
use Rattle.expr_machine.specs.Postfix.{expr_actions, more_items_actions, items_count, item_form_actions}
use Rattle.expr_laws.proofs.Shapes.{Ahead, Reads, joined, after, respelled}
use Rattle.expr_laws.proofs.Stands.{want, quotes_tail, closer, items_tail_terminals, items_tail_actions, ItemTail, value_tail, keyed_tail, item_tail_terminals, item_tail_actions, FromUnary, Filled, Stands, Carries}
use Rattle.expr_laws.proofs.Tests.{carry_test, carry_on, closing, none_some, some_same}
use Rattle.expr_laws.proofs.SoundWholes.{count_none, count_more, next_argument_carries}

-- `ENT_QUOTES`, alone or with a charset, where it was found
quotes_only : (q : List ℕ) (us r : List Terminal) (b : Bool) → same_bytes q (codes "ENT_QUOTES") ≡ b → (if b then Some us else None) ≡ Some r
    → (f : QuotesForm) × (sign_terminal sign.Comma ∷ name_terminal q ∷ sign_terminal sign.CloseParen ∷ us) ≡ (sign_terminal sign.Comma ∷ quotes_terminals f (sign_terminal sign.CloseParen ∷ r))
quotes_only q us r true e h =
    (only_quotes, ap (λ n. sign_terminal sign.Comma ∷ name_terminal n ∷ sign_terminal sign.CloseParen ∷ us) ((bytes_decides q (codes "ENT_QUOTES")).0 e) ∙ ap (λ v. sign_terminal sign.Comma ∷ name_terminal (codes "ENT_QUOTES") ∷ sign_terminal sign.CloseParen ∷ v) (some_same h))
quotes_only q us r false e h = absurd (none_some h)

charset_there : (t : List ℕ) (us r : List Terminal) (b : Bool) → str_eq_ignore_ascii_case t (codes "UTF-8") ≡ b → (if b then Some us else None) ≡ Some r → (str_eq_ignore_ascii_case t (codes "UTF-8") ≡ true) × (us ≡ r)
charset_there t us r true e h = (e, some_same h)
charset_there t us r false e h = absurd (none_some h)

quotes_both : (q t : List ℕ) (us r : List Terminal) (b : Bool) → same_bytes q (codes "ENT_QUOTES") ≡ b → (if b then behind_charset t us else None) ≡ Some r
    → (f : QuotesForm) × (sign_terminal sign.Comma ∷ name_terminal q ∷ sign_terminal sign.Comma ∷ text_terminal t ∷ sign_terminal sign.CloseParen ∷ us) ≡ (sign_terminal sign.Comma ∷ quotes_terminals f (sign_terminal sign.CloseParen ∷ r))
quotes_both q t us r true e h =
    let c = charset_there t us r (str_eq_ignore_ascii_case t (codes "UTF-8")) refl h
    in (quotes_and_charset t c.0, ap (λ n. sign_terminal sign.Comma ∷ name_terminal n ∷ sign_terminal sign.Comma ∷ text_terminal t ∷ sign_terminal sign.CloseParen ∷ us) ((bytes_decides q (codes "ENT_QUOTES")).0 e) ∙ ap (λ v. sign_terminal sign.Comma ∷ name_terminal (codes "ENT_QUOTES") ∷ sign_terminal sign.Comma ∷ text_terminal t ∷ sign_terminal sign.CloseParen ∷ v) c.1)
quotes_both q t us r false e h = absurd (none_some h)

quotes_there : (ts r : List Terminal) → behind_quotes ts ≡ Some r → (f : QuotesForm) × ts ≡ (sign_terminal sign.Comma ∷ quotes_terminals f (sign_terminal sign.CloseParen ∷ r))
quotes_there (sign_terminal sign.Comma ∷ name_terminal q ∷ sign_terminal sign.CloseParen ∷ us) r e = quotes_only q us r (same_bytes q (codes "ENT_QUOTES")) refl e
quotes_there (sign_terminal sign.Comma ∷ name_terminal q ∷ sign_terminal sign.Comma ∷ text_terminal t ∷ sign_terminal sign.CloseParen ∷ us) r e = quotes_both q t us r (same_bytes q (codes "ENT_QUOTES")) refl e
quotes_there _ r e = absurd (none_some e)

-- an argument with what the two more say
escape_found : (f : List ℕ) (n : ℕ) (ts r : List Terminal) (b : Bool) → (is_escape f && (n == 0)) ≡ b → (if b then behind_quotes ts else None) ≡ Some r → ((is_escape f && (n == 0)) ≡ true) × (behind_quotes ts ≡ Some r)
escape_found f n ts r true e h = (e, h)
escape_found f n ts r false e h = absurd (none_some h)

escape_there : (end : List Terminal) (f : List ℕ) (n : ℕ) (fs : List Frame) (ts r : List Terminal) → (is_escape f && (n == 0)) ≡ true → behind_quotes ts ≡ Some r → (later : List Action) → Stands end focus.Subscripted fs r later
    → Filled end (frame.Argument f n ∷ fs) ts (call_action f 1 ∷ later)
escape_there end f n fs ts r both e later h =
    let q = quotes_there ts r e
    in (quotes_tail (first_so (is_escape f) (n == 0) both) ((Decides-eqb n 0).0 (second_so (is_escape f) (n == 0) both)) q.0, record { left = r; later = later; reads = q.1; does = refl; goes_on = h })

escape_carries : (end : List Terminal) (f : List ℕ) (n : ℕ) (fs : List Frame) (ts : List Terminal) (q : Option (List Terminal)) → (if is_escape f && n == 0 then behind_quotes ts else None) ≡ q → Carries end (escape_move q f n fs ts) ts (Filled end (frame.Argument f n ∷ fs) ts)
escape_carries end f n fs ts None e = next_argument_carries end f n fs ts
escape_carries end f n fs ts (Some r) e = let found = escape_found f n ts r (is_escape f && n == 0) refl e in λ later h. escape_there end f n fs ts r found.0 found.1 later h

pub argument_carries : (end : List Terminal) (f : List ℕ) (n : ℕ) (fs : List Frame) (ts : List Terminal) → Carries end (argument_move f n fs ts) ts (Filled end (frame.Argument f n ∷ fs) ts)
argument_carries end f n fs ts = escape_carries end f n fs ts (if is_escape f && n == 0 then behind_quotes ts else None) refl

-- what follows an item whose key, if it has one, was read
abbrev pub ItemsAhead : List Terminal → Brackets → Bool → ℕ → List Frame → List Terminal → List Action → Type 0
ItemsAhead end b keyed n fs ts acts = Reads (items_tail_terminals b) (λ is r. item_actions keyed (items_tail_actions n is r)) (FromUnary (want fs) (Filled end fs)) ts acts

items_end : (end : List Terminal) (b : Brackets) (keyed : Bool) (n : ℕ) (fs : List Frame) (ts : List Terminal) → ts ≡ sign_terminal (closer b) ∷ behind ts → (later : List Action) → Stands end focus.Unary fs (behind ts) later
    → ItemsAhead end b keyed n fs ts (item_actions keyed (array_action (n + 1) ∷ []) ++ later)
unfolding more_items_terminals more_items_actions
items_end end b true n fs ts e later h = (end_of_items, record { left = behind ts; later = later; reads = e; does = ap (λ m. array_action m ∷ later) (count_none n); goes_on = h })
items_end end b false n fs ts e later h = (end_of_items, record { left = behind ts; later = later; reads = e; does = ap (λ m. unkeyed_action ∷ array_action m ∷ later) (count_none n); goes_on = h })

comma_ends : (end : List Terminal) (b : Brackets) (keyed : Bool) (n : ℕ) (fs : List Frame) (us : List Terminal) → us ≡ sign_terminal (closer b) ∷ behind us → (later : List Action) → Stands end focus.Unary fs (behind us) later
    → ItemsAhead end b keyed n fs (sign_terminal sign.Comma ∷ us) (item_actions keyed (array_action (n + 1) ∷ []) ++ later)
unfolding more_items_terminals more_items_actions
comma_ends end b true n fs us e later h = (last_comma, record { left = behind us; later = later; reads = ap (λ r. sign_terminal sign.Comma ∷ r) e; does = ap (λ m. array_action m ∷ later) (count_none n); goes_on = h })
comma_ends end b false n fs us e later h = (last_comma, record { left = behind us; later = later; reads = ap (λ r. sign_terminal sign.Comma ∷ r) e; does = ap (λ m. unkeyed_action ∷ array_action m ∷ later) (count_none n); goes_on = h })

-- the next item before its tail
item_before : (end : List Terminal) (b : Brackets) (n : ℕ) (fs : List Frame) (us : List Terminal) (later : List Action) (e : ExprForm) (t : ItemTail)
    → Ahead (λ r. expr_terminals e (item_tail_terminals b t r)) (λ r. expr_actions e (item_tail_actions (n + 1) t r)) (FromUnary (want fs) (Filled end fs)) us later
    → Reads (items_tail_terminals b) (items_tail_actions n) (FromUnary (want fs) (Filled end fs)) (sign_terminal sign.Comma ∷ us) later
unfolding more_items_terminals more_items_actions item_terminals item_form_actions
item_before end b n fs us later e (value_tail is) q =
    (one_more_item (value_item e) is, respelled (λ r. expr_actions e (unkeyed_action ∷ more_items_actions is (array_action (n + (1 + items_count is) + 1) ∷ r))) (λ r. ap (λ m. expr_actions e (unkeyed_action ∷ more_items_actions is (array_action m ∷ r))) (count_more n (items_count is))) (after (λ r. sign_terminal sign.Comma ∷ r) (λ r. r) q))
item_before end b n fs us later e (keyed_tail v is) q =
    (one_more_item (keyed_item e v) is, respelled (λ r. expr_actions e (expr_actions v (more_items_actions is (array_action (n + (1 + items_count is) + 1) ∷ r)))) (λ r. ap (λ m. expr_actions e (expr_actions v (more_items_actions is (array_action m ∷ r)))) (count_more n (items_count is))) (after (λ r. sign_terminal sign.Comma ∷ r) (λ r. r) q))

item_goes_on : (end : List Terminal) (b : Brackets) (keyed : Bool) (n : ℕ) (fs : List Frame) (us : List Terminal) (later : List Action) → Stands end focus.Begin (frame.Item b (n + 1) ∷ fs) us later
    → ItemsAhead end b keyed n fs (sign_terminal sign.Comma ∷ us) (item_actions keyed [] ++ later)
item_goes_on end b true n fs us later h = let z = (h.1).goes_on in item_before end b n fs us later h.0 z.0 (joined h.1 z.1)
item_goes_on end b false n fs us later h =
    let z = (h.1).goes_on in let q = item_before end b n fs us later h.0 z.0 (joined h.1 z.1) in (q.0, after (λ r. r) (λ r. unkeyed_action ∷ r) q.1)

next_item_carries : (end : List Terminal) (b : Brackets) (keyed : Bool) (n : ℕ) (fs : List Frame) (ts : List Terminal) → Carries end (next_item_move b keyed n fs ts) ts (ItemsAhead end b keyed n fs ts)
next_item_carries end b keyed n fs (sign_terminal sign.Comma ∷ us) =
    carry_test end (sign_terminal sign.Comma ∷ us) (ItemsAhead end b keyed n fs (sign_terminal sign.Comma ∷ us)) (closed_next b us) (moves focus.Unary fs (behind us) (item_actions keyed (array_action (n + 1) ∷ []))) (moves focus.Begin (frame.Item b (n + 1) ∷ fs) us (item_actions keyed []))
    (λ e. λ later h. comma_ends end b keyed n fs us (closing b us e) later h) (λ e. λ later h. item_goes_on end b keyed n fs us later h)
next_item_carries end b keyed n fs _ = tt

item_end_carries : (end : List Terminal) (b : Brackets) (keyed : Bool) (n : ℕ) (fs : List Frame) (ts : List Terminal) → Carries end (item_end_move b keyed n fs ts) ts (ItemsAhead end b keyed n fs ts)
item_end_carries end b keyed n fs ts =
    carry_test end ts (ItemsAhead end b keyed n fs ts) (closed_next b ts) (moves focus.Unary fs (behind ts) (item_actions keyed (array_action (n + 1) ∷ []))) (next_item_move b keyed n fs ts)
    (λ e. λ later h. items_end end b keyed n fs ts (closing b ts e) later h) (λ e. next_item_carries end b keyed n fs ts)

pub keyed_item_carries : (end : List Terminal) (b : Brackets) (n : ℕ) (fs : List Frame) (ts : List Terminal) → Carries end (item_end_move b true n fs ts) ts (Filled end (frame.KeyedItem b n ∷ fs) ts)
keyed_item_carries end b n fs ts = item_end_carries end b true n fs ts

value_of_item : (end : List Terminal) (b : Brackets) (n : ℕ) (fs : List Frame) (ts : List Terminal) → Carries end (item_end_move b false n fs ts) ts (Filled end (frame.Item b n ∷ fs) ts)
value_of_item end b n fs ts = carry_on end ts (ItemsAhead end b false n fs ts) (Filled end (frame.Item b n ∷ fs) ts) (item_end_move b false n fs ts) (λ acts h. (value_tail h.0, h.1)) (item_end_carries end b false n fs ts)

key_of_item : (end : List Terminal) (b : Brackets) (n : ℕ) (fs : List Frame) (us : List Terminal) (later : List Action) → Stands end focus.Begin (frame.KeyedItem b n ∷ fs) us later → Filled end (frame.Item b n ∷ fs) (sign_terminal sign.DoubleArrow ∷ us) later
key_of_item end b n fs us later h = let z = (h.1).goes_on in (keyed_tail h.0 z.0, after (λ r. sign_terminal sign.DoubleArrow ∷ r) (λ r. r) (joined h.1 z.1))

pub item_carries : (end : List Terminal) (b : Brackets) (n : ℕ) (fs : List Frame) (ts : List Terminal) → Carries end (item_move b n fs ts) ts (Filled end (frame.Item b n ∷ fs) ts)
item_carries end b n fs (sign_terminal sign.DoubleArrow ∷ us) = λ later h. key_of_item end b n fs us later h
item_carries end b n fs ts = value_of_item end b n fs ts
