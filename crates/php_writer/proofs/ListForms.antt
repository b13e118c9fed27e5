-- Forms of lists of expressions, from forms of their members.
use Rattle.std.proofs.Common.{◌∙◌, List, ◌∷◌, refl, ap}
use Rattle.php_syntax.specs.declared.token.Sign.TheVariants as signs
use Rattle.script_grammar.specs.declared.operator.Level.TheVariants as level
use Rattle.script_grammar.specs.declared.operator.Operator.TheVariants as operator
use Rattle.php_syntax.specs.Trees.{PlainExpr, join_expr, MaybeExpr, no_expr, some_expr, PlainExprs, no_exprs, more_exprs, PlainItems, no_items, more_items, PlainPath, no_keys, more_keys}
use Rattle.script_grammar.specs.Terminals.{Terminal, sign_terminal}
use Rattle.script_grammar.specs.Expressions.{KeysForm, no_key_form, open_key_form, key_form, chain_form, MoreForm, no_more, one_more, ListForm, empty_list, list_form, MoreExprsForm, no_more_exprs, one_more_expr, expr_terminals, expr_tree, keys_terminals, more_terminals, operand_terminals, list_terminals, more_exprs_terminals, keys_tree, more_tree, operand_tree, link_operands, list_tree, more_exprs_tree}
use Rattle.spellable.specs.Marks.{sign}
use Rattle.php_writer.specs.Written.{looseness, within, expr_marks, dotted_marks, list_marks, more_marks, path_marks}
use Rattle.php_writer.proofs.FormPlaces.{Formed, IsExpr, IsChain, IsOperand}
use Rattle.php_writer.proofs.OperationForms.{operand_of}
use Rattle.php_writer.proofs.Looseness.{at, whole, IsOwn}

abbrev pub IsMaybe : MaybeExpr → Type 0
IsMaybe no_expr = Unit {0}
IsMaybe (some_expr e) = IsOwn e

abbrev pub AllOwn : PlainExprs → Type 0
AllOwn no_exprs = Unit {0}
AllOwn (more_exprs e es) = IsOwn e × AllOwn es

abbrev pub AllItems : PlainItems → Type 0
AllItems no_items = Unit {0}
AllItems (more_items k e is) = IsMaybe k × IsOwn e × AllItems is

abbrev pub AllKeys : PlainPath → Type 0
AllKeys no_keys = Unit {0}
AllKeys (more_keys k ks) = IsMaybe k × AllKeys ks

-- each behind a comma
abbrev pub IsMore : PlainExprs → Type 0
IsMore es = Formed MoreExprsForm PlainExprs more_exprs_tree more_exprs_terminals es (more_marks es)

one_more_formed : (e : PlainExpr) (es : PlainExprs) → IsExpr e (expr_marks e) → IsMore es → IsMore (more_exprs e es)
unfolding expr_tree expr_terminals expr_marks
one_more_formed e es f g = record {
  form = one_more_expr f.form g.form;
  made = ap (λ x. more_exprs x (more_exprs_tree g.form)) f.made ∙ ap (more_exprs e) g.made;
  spelled = λ r. ap (λ ts. sign_terminal signs.Comma ∷ expr_terminals f.form ts) (g.spelled r) ∙ ap (λ (ts : List Terminal). sign_terminal signs.Comma ∷ ts) (f.spelled (more_marks es r));
}

pub more_formed : (es : PlainExprs) → AllOwn es → IsMore es
unfolding expr_tree expr_terminals expr_marks
more_formed no_exprs own = record { form = no_more_exprs; made = refl; spelled = λ r. refl }
more_formed (more_exprs e es) own = one_more_formed e es (whole e own.0) (more_formed es own.1)

-- with commas between
abbrev pub IsList : PlainExprs → Type 0
IsList es = Formed ListForm PlainExprs list_tree list_terminals es (list_marks es)

list_of : (e : PlainExpr) (es : PlainExprs) → IsExpr e (expr_marks e) → IsMore es → IsList (more_exprs e es)
unfolding expr_tree expr_terminals expr_marks
list_of e es f g = record {
  form = list_form f.form g.form;
  made = ap (λ x. more_exprs x (more_exprs_tree g.form)) f.made ∙ ap (more_exprs e) g.made;
  spelled = λ r. ap (λ ts. expr_terminals f.form ts) (g.spelled r) ∙ f.spelled (more_marks es r);
}

pub list_formed : (es : PlainExprs) → AllOwn es → IsList es
unfolding expr_tree expr_terminals expr_marks
list_formed no_exprs own = record { form = empty_list; made = refl; spelled = λ r. refl }
list_formed (more_exprs e es) own = list_of e es (whole e own.0) (more_formed es own.1)

-- each behind a `.`
abbrev pub IsDotted : PlainExprs → Type 0
IsDotted es = Formed (MoreForm level.Join) PlainExprs (λ m. link_operands (more_tree m)) (λ m r. more_terminals m r) es (dotted_marks es)

one_dotted : (e : PlainExpr) (es : PlainExprs) → IsOperand level.Join e (within 4 (looseness e) (expr_marks e)) → IsDotted es → IsDotted (more_exprs e es)
unfolding expr_tree expr_terminals expr_marks
one_dotted e es f g = record {
  form = one_more signs.Dot operator.Join refl refl f.form g.form;
  made = ap (λ x. more_exprs x (link_operands (more_tree g.form))) f.made ∙ ap (more_exprs e) g.made;
  spelled = λ r. ap (λ ts. sign_terminal signs.Dot ∷ operand_terminals f.form ts) (g.spelled r) ∙ ap (λ (ts : List Terminal). sign_terminal signs.Dot ∷ ts) (f.spelled (dotted_marks es r));
}

join_operand : (e : PlainExpr) → IsOwn e → IsOperand level.Join e (within 4 (looseness e) (expr_marks e))
join_operand e own = operand_of level.Join level.Sum e (within 4 (looseness e) (expr_marks e)) refl (at 4 e own)

pub dotted_formed : (es : PlainExprs) → AllOwn es → IsDotted es
unfolding expr_tree expr_terminals expr_marks
dotted_formed no_exprs own = record { form = no_more; made = refl; spelled = λ r. refl }
dotted_formed (more_exprs e es) own = one_dotted e es (join_operand e own.0) (dotted_formed es own.1)

chain_of_dots : (e f : PlainExpr) (es : PlainExprs) → IsOperand level.Join e (within 4 (looseness e) (expr_marks e)) → IsOperand level.Join f (within 4 (looseness f) (expr_marks f)) → IsDotted es
    → IsChain level.Join (join_expr (more_exprs e (more_exprs f es))) (λ r. within 4 (looseness e) (expr_marks e) (sign signs.Dot ∷ within 4 (looseness f) (expr_marks f) (dotted_marks es r)))
unfolding expr_tree expr_terminals
chain_of_dots e f es g h m = record {
  form = chain_form g.form (one_more signs.Dot operator.Join refl refl h.form m.form);
  made = ap (λ x. join_expr (more_exprs x (more_exprs (operand_tree h.form) (link_operands (more_tree m.form))))) g.made
      ∙ ap (λ x. join_expr (more_exprs e (more_exprs x (link_operands (more_tree m.form))))) h.made
      ∙ ap (λ x. join_expr (more_exprs e (more_exprs f x))) m.made;
  spelled = λ r. ap (λ ts. operand_terminals g.form (sign_terminal signs.Dot ∷ operand_terminals h.form ts)) (m.spelled r)
      ∙ ap (λ ts. operand_terminals g.form (sign_terminal signs.Dot ∷ ts)) (h.spelled (dotted_marks es r))
      ∙ g.spelled (sign signs.Dot ∷ within 4 (looseness f) (expr_marks f) (dotted_marks es r));
}

pub dots_formed : (e f : PlainExpr) (es : PlainExprs) → AllOwn (more_exprs e (more_exprs f es)) → IsChain level.Join (join_expr (more_exprs e (more_exprs f es))) (expr_marks (join_expr (more_exprs e (more_exprs f es))))
unfolding expr_marks
dots_formed e f es own = chain_of_dots e f es (join_operand e own.0) (join_operand f own.1.0) (dotted_formed es own.1.1)

-- the keys of a path
abbrev pub IsKeys : PlainPath → Type 0
IsKeys ks = Formed KeysForm PlainPath keys_tree keys_terminals ks (path_marks ks)

open_key : (ks : PlainPath) → IsKeys ks → IsKeys (more_keys no_expr ks)
unfolding expr_tree expr_terminals expr_marks
open_key ks g = record {
  form = open_key_form g.form;
  made = ap (more_keys no_expr) g.made;
  spelled = λ r. ap (λ (ts : List Terminal). sign_terminal signs.OpenBracket ∷ sign_terminal signs.CloseBracket ∷ ts) (g.spelled r);
}

one_key : (e : PlainExpr) (ks : PlainPath) → IsExpr e (expr_marks e) → IsKeys ks → IsKeys (more_keys (some_expr e) ks)
unfolding expr_tree expr_terminals expr_marks
one_key e ks f g = record {
  form = key_form f.form g.form;
  made = ap (λ x. more_keys (some_expr x) (keys_tree g.form)) f.made ∙ ap (more_keys (some_expr e)) g.made;
  spelled = λ r. ap (λ ts. sign_terminal signs.OpenBracket ∷ expr_terminals f.form (sign_terminal signs.CloseBracket ∷ ts)) (g.spelled r)
      ∙ ap (λ (ts : List Terminal). sign_terminal signs.OpenBracket ∷ ts) (f.spelled (sign signs.CloseBracket ∷ path_marks ks r));
}

key_then : (k : MaybeExpr) (ks : PlainPath) → IsMaybe k → IsKeys ks → IsKeys (more_keys k ks)
key_then no_expr ks own g = open_key ks g
key_then (some_expr e) ks own g = one_key e ks (whole e own) g

pub keys_formed : (ks : PlainPath) → AllKeys ks → IsKeys ks
unfolding expr_tree expr_terminals expr_marks
keys_formed no_keys own = record { form = no_key_form; made = refl; spelled = λ r. refl }
keys_formed (more_keys k ks) own = key_then k ks own.0 (keys_formed ks own.1)
