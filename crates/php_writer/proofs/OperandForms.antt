-- Forms of what stands between operators.
use Rattle.std.proofs.Common.{arith, ◌≡◌, ◌∙◌, ℕ, pos, negsuc, Bool, true, false, List, [], ◌∷◌, Some, refl, ap, sym}
use Rattle.std.specs.Prelude.{ℤ, ◌==◌}
use Rattle.std.proofs.lemmas.Bool.Decides.{nat_tests}
use Rattle.php_syntax.specs.declared.token.Sign.TheVariants as signs
use Rattle.script_grammar.specs.declared.keyword.Keyword.{Keyword}
use Rattle.script_grammar.specs.declared.keyword.Keyword.TheVariants as word
use Rattle.php_syntax.specs.declared.tree.SuperName.{SuperName}
use Rattle.php_syntax.specs.declared.tree.SuperName.TheVariants as request
use Rattle.php_syntax.specs.declared.tree.UpdateSign.{UpdateSign}
use Rattle.php_syntax.specs.declared.tree.UpdateSign.TheVariants as update
use Rattle.php_syntax.specs.Tokens.{PlainKey, read_part}
use Rattle.script_grammar.specs.Operators.{update_sign, step_sign}
use Rattle.php_syntax.specs.Trees.{PlainExpr, null_expr, flag_expr, int_expr, text_expr, var_expr, super_expr, member_expr, array_expr, join_expr, isset_expr, empty_expr, assign_expr, update_expr, step_expr, call_expr, PlainExprs, no_exprs, more_exprs, PlainItems, PlainPath}
use Rattle.script_grammar.specs.Terminals.{Terminal, variable_terminal, word_terminal, name_terminal, sign_terminal}
use Rattle.script_grammar.specs.Expressions.{constant_of, ExprForm, assign_form, update_form, target_form, after_form, before_form, int_form, text_form, template_form, constant_form, isset_form, empty_form, bracket_form, variable_base, call_base, SubscriptsForm, no_subscript, subscript_form, expr_terminals, expr_tree, keys_terminals, base_terminals, subscripts_terminals, base_tree, subscripts_tree, list_tree, more_exprs_tree, variable_tree, key_tree, read_tree}
use Rattle.spellable.specs.Marks.{Mark, keyword, name, variable, text, read, sign, marked}
use Rattle.spellable.specs.Spellable.{is_own_name, is_integer, is_part_key, is_read}
use Rattle.script_grammar.specs.Reserved.{request_name}
use Rattle.php_writer.specs.Written.{flag_word, int_mark, sign_of_update, sign_of_step, read_name, part_key, read_keys, expr_marks, path_marks, list_marks, more_marks, items_marks}
use Rattle.spellable.proofs.Halves.{halves, own_variable, IsCallName}
use Rattle.php_writer.proofs.FormPlaces.{IsExpr, IsPost, IsBase}
use Rattle.php_writer.proofs.ListForms.{IsMore, IsList, IsKeys}
use Rattle.php_writer.proofs.ItemForms.{IsItems}

constant_formed : (k : Keyword) (e : PlainExpr) → constant_of k ≡ Some e → IsPost e (λ r. keyword k ∷ r)
unfolding expr_tree expr_terminals
constant_formed k e is = record { form = constant_form k e is; made = refl; spelled = λ r. refl }

pub null_formed : IsPost null_expr (λ r. keyword word.Null ∷ r)
null_formed = constant_formed word.Null null_expr refl

pub flag_formed : (b : Bool) → IsPost (flag_expr b) (λ r. keyword (flag_word b) ∷ r)
flag_formed true = constant_formed word.True (flag_expr true) refl
flag_formed false = constant_formed word.False (flag_expr false) refl

least : (n : ℕ) → (n == 9223372036854775807) ≡ true → n ≡ 9223372036854775807
least n h = grind (arith, nat_tests)

pub int_formed : (z : ℤ) → is_integer z ≡ true → IsPost (int_expr z) (λ r. int_mark z ∷ r)
unfolding expr_tree expr_terminals int_mark
int_formed (pos n) h = record { form = int_form (pos n); made = refl; spelled = λ r. refl }
int_formed (negsuc n) h = constant_formed word.PhpIntMin (int_expr (negsuc n)) (ap (λ k. Some (int_expr (negsuc k))) (sym (least n h)))

pub text_formed : (t : List ℕ) → IsPost (text_expr t) (λ r. text t ∷ r)
unfolding expr_tree expr_terminals
text_formed t = record { form = text_form t; made = refl; spelled = λ r. refl }

pub var_formed : (x : List ℕ) → is_own_name x ≡ true → IsBase (var_expr x) (λ r. variable x ∷ r)
unfolding expr_tree expr_terminals
var_formed x h = record { form = (variable_base x, no_subscript); made = own_variable x h; spelled = λ r. refl }

pub super_variable : (s : SuperName) → variable_tree (request_name s) ≡ super_expr s
super_variable request.Get = refl
super_variable request.Post = refl
super_variable request.Cookie = refl
super_variable request.Request = refl
super_variable request.Server = refl

pub super_formed : (s : SuperName) → IsBase (super_expr s) (λ r. variable (request_name s) ∷ r)
unfolding expr_tree expr_terminals
super_formed s = record { form = (variable_base (request_name s), no_subscript); made = super_variable s; spelled = λ r. refl }

-- one more subscript
subscripts_then : SubscriptsForm → ExprForm → SubscriptsForm
subscripts_then no_subscript k = subscript_form k no_subscript
subscripts_then (subscript_form e ks) k = subscript_form e (subscripts_then ks k)

subscripts_then-tree : (ks : SubscriptsForm) (k : ExprForm) (a : PlainExpr) → subscripts_tree (subscripts_then ks k) a ≡ member_expr (subscripts_tree ks a) (expr_tree k)
unfolding expr_tree subscripts_then
subscripts_then-tree no_subscript k a = refl
subscripts_then-tree (subscript_form e ks) k a = subscripts_then-tree ks k (member_expr a (expr_tree e))

subscripts_then-terminals : (ks : SubscriptsForm) (k : ExprForm) (r : List Terminal)
    → subscripts_terminals (subscripts_then ks k) r ≡ subscripts_terminals ks (sign_terminal signs.OpenBracket ∷ expr_terminals k (sign_terminal signs.CloseBracket ∷ r))
unfolding expr_terminals subscripts_then
subscripts_then-terminals no_subscript k r = refl
subscripts_then-terminals (subscript_form e ks) k r = ap (λ ts. sign_terminal signs.OpenBracket ∷ expr_terminals e (sign_terminal signs.CloseBracket ∷ ts)) (subscripts_then-terminals ks k r)

pub member_formed : (a k : PlainExpr) (m n : List Mark → List Mark) → IsBase a m → IsExpr k n → IsBase (member_expr a k) (λ r. m (sign signs.OpenBracket ∷ n (sign signs.CloseBracket ∷ r)))
member_formed a k m n f g = record {
  form = (f.form.0, subscripts_then f.form.1 g.form);
  made = subscripts_then-tree f.form.1 g.form (base_tree f.form.0) ∙ ap (λ x. member_expr x (expr_tree g.form)) f.made ∙ ap (member_expr a) g.made;
  spelled = λ r. ap (base_terminals f.form.0) (subscripts_then-terminals f.form.1 g.form (marked r))
      ∙ ap (λ (ts : List Terminal). base_terminals f.form.0 (subscripts_terminals f.form.1 (sign_terminal signs.OpenBracket ∷ ts))) (g.spelled (sign signs.CloseBracket ∷ r))
      ∙ f.spelled (sign signs.OpenBracket ∷ n (sign signs.CloseBracket ∷ r));
}

pub call_formed : (f : List ℕ) (es : PlainExprs) → IsCallName f → IsList es → IsBase (call_expr f es) (λ r. name f ∷ sign signs.OpenParen ∷ list_marks es (sign signs.CloseParen ∷ r))
unfolding expr_tree expr_terminals
call_formed f es is g = record {
  form = (call_base f g.form, no_subscript);
  made = ap (λ w. call_expr w (list_tree g.form)) is.lowered ∙ ap (call_expr f) g.made;
  spelled = λ r. ap (λ (ts : List Terminal). name_terminal f ∷ sign_terminal signs.OpenParen ∷ ts) (g.spelled (sign signs.CloseParen ∷ r));
}

pub array_formed : (is : PlainItems) → IsItems is → IsPost (array_expr is) (λ r. sign signs.OpenBracket ∷ items_marks is (sign signs.CloseBracket ∷ r))
unfolding expr_tree expr_terminals
array_formed is g = record {
  form = bracket_form g.form;
  made = ap array_expr g.made;
  spelled = λ r. ap (λ (ts : List Terminal). sign_terminal signs.OpenBracket ∷ ts) (g.spelled (sign signs.CloseBracket ∷ r));
}

pub isset_formed : (e : PlainExpr) (es : PlainExprs) → IsExpr e (expr_marks e) → IsMore es
    → IsPost (isset_expr (more_exprs e es)) (λ r. keyword word.Isset ∷ sign signs.OpenParen ∷ expr_marks e (more_marks es (sign signs.CloseParen ∷ r)))
unfolding expr_tree expr_terminals
isset_formed e es f g = record {
  form = isset_form f.form g.form;
  made = ap (λ x. isset_expr (more_exprs x (more_exprs_tree g.form))) f.made ∙ ap (λ x. isset_expr (more_exprs e x)) g.made;
  spelled = λ r. ap (λ ts. word_terminal word.Isset ∷ sign_terminal signs.OpenParen ∷ expr_terminals f.form ts) (g.spelled (sign signs.CloseParen ∷ r))
      ∙ ap (λ (ts : List Terminal). word_terminal word.Isset ∷ sign_terminal signs.OpenParen ∷ ts) (f.spelled (more_marks es (sign signs.CloseParen ∷ r)));
}

pub empty_formed : (e : PlainExpr) (m : List Mark → List Mark) → IsExpr e m → IsPost (empty_expr e) (λ r. keyword word.Empty ∷ sign signs.OpenParen ∷ m (sign signs.CloseParen ∷ r))
unfolding expr_tree expr_terminals
empty_formed e m f = record {
  form = empty_form f.form;
  made = ap empty_expr f.made;
  spelled = λ r. ap (λ (ts : List Terminal). word_terminal word.Empty ∷ sign_terminal signs.OpenParen ∷ ts) (f.spelled (sign signs.CloseParen ∷ r));
}

step_is : (up : Bool) → step_sign (sign_of_step up) ≡ Some up
step_is true = refl
step_is false = refl

pub before_formed : (x : List ℕ) (up : Bool) → IsPost (step_expr x up true) (λ r. sign (sign_of_step up) ∷ variable x ∷ r)
unfolding expr_tree expr_terminals
before_formed x up = record { form = before_form (sign_of_step up) up (step_is up) x; made = refl; spelled = λ r. refl }

pub after_formed : (x : List ℕ) (up : Bool) → IsPost (step_expr x up false) (λ r. variable x ∷ sign (sign_of_step up) ∷ r)
unfolding expr_tree expr_terminals
after_formed x up = record { form = after_form x (sign_of_step up) up (step_is up); made = refl; spelled = λ r. refl }

pub assign_formed : (x : List ℕ) (ks : PlainPath) (e : PlainExpr) (m : List Mark → List Mark) → IsKeys ks → IsExpr e m → IsExpr (assign_expr x ks e) (λ r. variable x ∷ path_marks ks (sign signs.Assign ∷ m r))
unfolding expr_tree expr_terminals
assign_formed x ks e m f g = record {
  form = assign_form (target_form x f.form) g.form;
  made = ap (λ p. assign_expr x p (expr_tree g.form)) f.made ∙ ap (assign_expr x ks) g.made;
  spelled = λ r. ap (λ ts. variable_terminal x ∷ keys_terminals f.form (sign_terminal signs.Assign ∷ ts)) (g.spelled r) ∙ ap (λ (ts : List Terminal). variable_terminal x ∷ ts) (f.spelled (sign signs.Assign ∷ m r));
}

update_is : (u : UpdateSign) → update_sign (sign_of_update u) ≡ Some u
unfolding sign_of_update
update_is update.Join = refl
update_is update.Add = refl
update_is update.Sub = refl
update_is update.Mul = refl
update_is update.Rem = refl
update_is update.Coalesce = refl

pub update_formed : (u : UpdateSign) (x : List ℕ) (ks : PlainPath) (e : PlainExpr) (m : List Mark → List Mark) → IsKeys ks → IsExpr e m
    → IsExpr (update_expr u x ks e) (λ r. variable x ∷ path_marks ks (sign (sign_of_update u) ∷ m r))
unfolding expr_tree expr_terminals
update_formed u x ks e m f g = record {
  form = update_form (target_form x f.form) (sign_of_update u) u (update_is u) g.form;
  made = ap (λ p. update_expr u x p (expr_tree g.form)) f.made ∙ ap (update_expr u x ks) g.made;
  spelled = λ r. ap (λ ts. variable_terminal x ∷ keys_terminals f.form (sign_terminal (sign_of_update u) ∷ ts)) (g.spelled r)
      ∙ ap (λ (ts : List Terminal). variable_terminal x ∷ ts) (f.spelled (sign (sign_of_update u) ∷ m r));
}

part_key_is : (k : PlainExpr) → is_part_key k ≡ true → key_tree (part_key k) ≡ k
unfolding part_key
part_key_is (text_expr t) h = refl
part_key_is (int_expr z) h = refl
part_key_is (var_expr x) h = own_variable x h
part_key_is (super_expr s) h = super_variable s
part_key_is _ h = absurd (cc)

read_is : (e : PlainExpr) (ks : List PlainKey) → is_read e ≡ true → read_tree (variable_tree (read_name e)) (read_keys e ks) ≡ read_tree e ks
unfolding read_name read_keys
read_is (var_expr x) ks h = ap (λ v. read_tree v ks) (own_variable x h)
read_is (super_expr s) ks h = ap (λ v. read_tree v ks) (super_variable s)
read_is (member_expr a k) ks h =
    let both = halves (is_read a) (is_part_key k) h
    in read_is a (part_key k ∷ ks) both.0 ∙ ap (λ v. read_tree (member_expr a v) ks) (part_key_is k both.1)
read_is _ ks h = absurd (cc)

pub template_formed : (e : PlainExpr) → is_read e ≡ true → IsPost (join_expr (more_exprs e no_exprs)) (λ r. read (read_name e) (read_keys e []) ∷ r)
unfolding expr_tree expr_terminals
template_formed e h = record {
  form = template_form (read_part (read_name e) (read_keys e []) ∷ []);
  made = ap (λ x. join_expr (more_exprs x no_exprs)) (read_is e [] h);
  spelled = λ r. refl;
}
