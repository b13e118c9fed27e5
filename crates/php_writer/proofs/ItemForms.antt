-- Forms of the items of an array, from forms of their keys and values.
use Rattle.std.proofs.Common.{◌∙◌, List, ◌∷◌, refl, ap}
use Rattle.php_syntax.specs.declared.token.Sign.TheVariants as signs
use Rattle.php_syntax.specs.Trees.{PlainExpr, MaybeExpr, no_expr, some_expr, PlainItems, no_items, more_items}
use Rattle.script_grammar.specs.Terminals.{Terminal, sign_terminal}
use Rattle.script_grammar.specs.Expressions.{ItemsForm, empty_items, items_form, MoreItemsForm, end_of_items, one_more_item, value_item, keyed_item, expr_terminals, expr_tree, items_terminals, more_items_terminals, items_tree, more_items_tree}
use Rattle.spellable.specs.Marks.{sign}
use Rattle.php_writer.specs.Written.{expr_marks, items_marks, more_items_marks}
use Rattle.php_writer.proofs.FormPlaces.{Formed, IsExpr}
use Rattle.php_writer.proofs.Looseness.{whole, IsOwn}
use Rattle.php_writer.proofs.ListForms.{IsMaybe, AllItems}

-- each behind a comma
abbrev pub IsMoreItems : PlainItems → Type 0
IsMoreItems is = Formed MoreItemsForm PlainItems more_items_tree more_items_terminals is (more_items_marks is)

-- with commas between
abbrev pub IsItems : PlainItems → Type 0
IsItems is = Formed ItemsForm PlainItems items_tree items_terminals is (items_marks is)

value_more : (e : PlainExpr) (is : PlainItems) → IsExpr e (expr_marks e) → IsMoreItems is → IsMoreItems (more_items no_expr e is)
unfolding expr_tree expr_terminals expr_marks
value_more e is f g = record {
  form = one_more_item (value_item f.form) g.form;
  made = ap (λ x. more_items no_expr x (more_items_tree g.form)) f.made ∙ ap (more_items no_expr e) g.made;
  spelled = λ r. ap (λ ts. sign_terminal signs.Comma ∷ expr_terminals f.form ts) (g.spelled r) ∙ ap (λ (ts : List Terminal). sign_terminal signs.Comma ∷ ts) (f.spelled (more_items_marks is r));
}

keyed_more : (k e : PlainExpr) (is : PlainItems) → IsExpr k (expr_marks k) → IsExpr e (expr_marks e) → IsMoreItems is → IsMoreItems (more_items (some_expr k) e is)
unfolding expr_tree expr_terminals expr_marks
keyed_more k e is h f g = record {
  form = one_more_item (keyed_item h.form f.form) g.form;
  made = ap (λ x. more_items (some_expr x) (expr_tree f.form) (more_items_tree g.form)) h.made ∙ ap (λ x. more_items (some_expr k) x (more_items_tree g.form)) f.made ∙ ap (more_items (some_expr k) e) g.made;
  spelled = λ r. ap (λ ts. sign_terminal signs.Comma ∷ expr_terminals h.form (sign_terminal signs.DoubleArrow ∷ expr_terminals f.form ts)) (g.spelled r)
      ∙ ap (λ ts. sign_terminal signs.Comma ∷ expr_terminals h.form (sign_terminal signs.DoubleArrow ∷ ts)) (f.spelled (more_items_marks is r))
      ∙ ap (λ (ts : List Terminal). sign_terminal signs.Comma ∷ ts) (h.spelled (sign signs.DoubleArrow ∷ expr_marks e (more_items_marks is r)));
}

more_then : (k : MaybeExpr) (e : PlainExpr) (is : PlainItems) → IsMaybe k → IsOwn e → IsMoreItems is → IsMoreItems (more_items k e is)
more_then no_expr e is h f g = value_more e is (whole e f) g
more_then (some_expr k) e is h f g = keyed_more k e is (whole k h) (whole e f) g

more_items_formed : (is : PlainItems) → AllItems is → IsMoreItems is
unfolding expr_tree expr_terminals expr_marks
more_items_formed no_items own = record { form = end_of_items; made = refl; spelled = λ r. refl }
more_items_formed (more_items k e is) own = more_then k e is own.0 own.1 (more_items_formed is own.2)

value_first : (e : PlainExpr) (is : PlainItems) → IsExpr e (expr_marks e) → IsMoreItems is → IsItems (more_items no_expr e is)
unfolding expr_tree expr_terminals expr_marks
value_first e is f g = record {
  form = items_form (value_item f.form) g.form;
  made = ap (λ x. more_items no_expr x (more_items_tree g.form)) f.made ∙ ap (more_items no_expr e) g.made;
  spelled = λ r. ap (λ ts. expr_terminals f.form ts) (g.spelled r) ∙ f.spelled (more_items_marks is r);
}

keyed_first : (k e : PlainExpr) (is : PlainItems) → IsExpr k (expr_marks k) → IsExpr e (expr_marks e) → IsMoreItems is → IsItems (more_items (some_expr k) e is)
unfolding expr_tree expr_terminals expr_marks
keyed_first k e is h f g = record {
  form = items_form (keyed_item h.form f.form) g.form;
  made = ap (λ x. more_items (some_expr x) (expr_tree f.form) (more_items_tree g.form)) h.made ∙ ap (λ x. more_items (some_expr k) x (more_items_tree g.form)) f.made ∙ ap (more_items (some_expr k) e) g.made;
  spelled = λ r. ap (λ ts. expr_terminals h.form (sign_terminal signs.DoubleArrow ∷ expr_terminals f.form ts)) (g.spelled r)
      ∙ ap (λ ts. expr_terminals h.form (sign_terminal signs.DoubleArrow ∷ ts)) (f.spelled (more_items_marks is r))
      ∙ h.spelled (sign signs.DoubleArrow ∷ expr_marks e (more_items_marks is r));
}

first_then : (k : MaybeExpr) (e : PlainExpr) (is : PlainItems) → IsMaybe k → IsOwn e → IsMoreItems is → IsItems (more_items k e is)
first_then no_expr e is h f g = value_first e is (whole e f) g
first_then (some_expr k) e is h f g = keyed_first k e is (whole k h) (whole e f) g

pub items_formed : (is : PlainItems) → AllItems is → IsItems is
unfolding expr_tree expr_terminals expr_marks
items_formed no_items own = record { form = empty_items; made = refl; spelled = λ r. refl }
items_formed (more_items k e is) own = first_then k e is own.0 own.1 (more_items_formed is own.2)
