use Rattle.std.proofs.Common.{◌≡◌, ℕ, refl, sym, ap, ◌∙◌, subst, rules}
use Rattle.php_syntax.specs.Trees.{PlainFunction}
use Rattle.plain_values.specs.Plain.{Plain}
use Rattle.script_meaning.specs.Requests.{PlainRequest}
use Rattle.std.specs.Prelude.{List, Option}
use Rattle.php_syntax.specs.declared.tree.UpdateSign.{UpdateSign}
use Rattle.php_values.specs.declared.array.Value.{Value}
use Rattle.php_values.specs.declared.key.Key.{Key}
use Rattle.php_values.specs.View.{plain_path}
use Rattle.expr_evaluator.specs.declared.frame.Frame.{Frame}
use Rattle.expr_evaluator.specs.declared.frame.Frame.TheVariants as frame
use Rattle.expr_evaluator.specs.declared.frame.Focus.{Focus}
use Rattle.expr_evaluator.specs.declared.evaluator.Evaluator.{Evaluator}
use Rattle.expr_evaluator.specs.Frames.{assign_in, update_in, plain_maybes}
use Rattle.expr_evaluator.specs.Moves.{Takes, Does}
use Rattle.expr_evaluator.proofs.GiveMoves.{give_subscript, give_container, give_item_key, give_row, give_keys, give_negation, give_not, give_truth, give_arith_right, give_arith, give_compare_right, give_compare, give_and, give_and_short, give_or, give_or_short, give_coalesce, give_coalesce_kept, give_choice_kept, give_choice_short, give_choice_first, give_choice_second, give_assign, give_update}
use Rattle.expr_evaluator.proofs.give.give.Goals as goal

deref_does : (x : List ℕ) (ks ks' : List (Option Value)) (v : Plain) (m : Evaluator) (f : Focus) {m' : Evaluator} → Does (assign_in x (plain_maybes ks) v) m f m' → ks ≡ ks' → Does (assign_in x (plain_maybes ks') v) m f m'
deref_does x ks ks' v m f {m'} d e = subst (λ y. Does (assign_in x (plain_maybes y) v) m f m') e d

deref_updates : (sign : UpdateSign) (x : List ℕ) (path path' : List (Option Key)) (old v : Plain) (m : Evaluator) (f : Focus) {m' : Evaluator} → Does (update_in sign x (plain_path path) old v) m f m' → path ≡ path' → Does (update_in sign x (plain_path path') old v) m f m'
deref_updates sign x path path' old v m f {m'} d e = subst (λ y. Does (update_in sign x (plain_path y) old v) m f m') e d

found : (r : PlainRequest) (fs : List PlainFunction) (v : Plain) (old old' : Frame) (m : Evaluator) (f : Focus) (m' : Evaluator) → old ≡ old' → Takes r fs v old' m f m' → Takes r fs v old m f m'
found r fs v old old' m f m' e t = subst (λ x. Takes r fs v x m f m') (sym e) t

pub returns-in-Subscript : goal.returns-in-Subscript
returns-in-Subscript c = λ r fs. found _ _ _ _ _ _ _ _ c.in-Subscript.is (give_subscript r fs _ _ _ _ _ _ refl c.in_ok-next-in-Subscript.ensures)

pub returns-in-Container : goal.returns-in-Container
returns-in-Container c = λ r fs. found _ _ _ _ _ _ _ _ c.in-Container.is (give_container r fs _ _ _ _ c.in_ok-next-in-Container.ensures)

pub returns-in-ItemKey : goal.returns-in-ItemKey
returns-in-ItemKey c = λ r fs. found _ _ _ _ _ _ _ _ c.in-ItemKey.is (give_item_key r fs _ _ _ _ _ _ _ _ refl c.in_ok-next-in-ItemKey.ensures)

pub returns-in-ItemValue : goal.returns-in-ItemValue
returns-in-ItemValue c = λ r fs. found _ _ _ _ _ _ _ _ c.in-ItemValue.is (c.in_ok-next-in-ItemValue.ensures r fs _)

pub returns-in-Row : goal.returns-in-Row
returns-in-Row c = λ r fs. found _ _ _ _ _ _ _ _ c.in-Row.is (give_row r fs _ _ _ _ _ _ _ refl (search rules))

pub returns-in-Keys : goal.returns-in-Keys
returns-in-Keys c = λ r fs. found _ _ _ _ _ _ _ _ c.in-Keys.is (give_keys r fs _ _ _ _ _ _ _ refl (search rules))

pub returns-in-Negation : goal.returns-in-Negation
returns-in-Negation c = λ r fs. found _ _ _ _ _ _ _ _ c.in-Negation.is (give_negation r fs _ _ _ c.in_ok-next-in-Negation.ensures)

pub returns-in-Not : goal.returns-in-Not
returns-in-Not c = λ r fs. found _ _ _ _ _ _ _ _ c.in-Not.is (give_not r fs _ _ _ (search rules))

pub returns-in-Truth : goal.returns-in-Truth
returns-in-Truth c = λ r fs. found _ _ _ _ _ _ _ _ c.in-Truth.is (give_truth r fs _ _ _ (search rules))

pub returns-in-ArithRight : goal.returns-in-ArithRight
returns-in-ArithRight c = λ r fs. found _ _ _ _ _ _ _ _ c.in-ArithRight.is (give_arith_right r fs _ _ _ _ _ _ _ refl c.in_ok-next-in-ArithRight.ensures)

pub returns-in-ArithLeft : goal.returns-in-ArithLeft
returns-in-ArithLeft c = λ r fs. found _ _ _ _ _ _ _ _ c.in-ArithLeft.is (give_arith r fs _ _ _ _ _ c.in_ok-next-in-ArithLeft.ensures)

pub returns-in-CompareRight : goal.returns-in-CompareRight
returns-in-CompareRight c = λ r fs. found _ _ _ _ _ _ _ _ c.in-CompareRight.is (give_compare_right r fs _ _ _ _ _ _ _ refl c.in_ok-next-in-CompareRight.ensures)

pub returns-in-CompareLeft : goal.returns-in-CompareLeft
returns-in-CompareLeft c = λ r fs. found _ _ _ _ _ _ _ _ c.in-CompareLeft.is (give_compare r fs _ _ _ _ _ c.in_ok-next-in-CompareLeft.ensures)

pub returns-then-truth : goal.returns-then-truth
returns-then-truth c = λ r fs. found _ _ _ _ _ _ _ _ c.in-And.is (give_and r fs _ _ _ _ _ (cc) c.in_ok-next-in-And.ensures)

pub returns-in-And : goal.returns-in-And
returns-in-And c = λ r fs. found _ _ _ _ _ _ _ _ c.in-And.is (give_and_short r fs _ _ _ (cc))

pub returns-then-truth-2 : goal.returns-then-truth-2
returns-then-truth-2 c = λ r fs. found _ _ _ _ _ _ _ _ c.in-Or.is (give_or_short r fs _ _ _ (cc))

pub returns-in-Or : goal.returns-in-Or
returns-in-Or c = λ r fs. found _ _ _ _ _ _ _ _ c.in-Or.is (give_or r fs _ _ _ _ _ (cc) c.in_ok-next-in-Or.ensures)

pub returns-then-is_null : goal.returns-then-is_null
returns-then-is_null c = λ r fs. found _ _ _ _ _ _ _ _ c.in-Coalesce.is (give_coalesce r fs _ _ _ (cc))

pub returns-in-Coalesce : goal.returns-in-Coalesce
returns-in-Coalesce c = λ r fs. found _ _ _ _ _ _ _ _ c.in-Coalesce.is (give_coalesce_kept r fs _ _ _ _ refl (cc))

pub returns-then-truth-3 : goal.returns-then-truth-3
returns-then-truth-3 c = λ r fs. found _ _ _ _ _ _ _ _ (c.in-Choice.is ∙ ap (λ o. frame.Choice o c.in-Choice.right) c.in-None.is) (give_choice_kept r fs _ _ _ _ refl (cc))

pub returns-in-None : goal.returns-in-None
returns-in-None c = λ r fs. found _ _ _ _ _ _ _ _ (c.in-Choice.is ∙ ap (λ o. frame.Choice o c.in-Choice.right) c.in-None.is) (give_choice_short r fs _ _ _ (cc))

pub returns-then-truth-4 : goal.returns-then-truth-4
returns-then-truth-4 c = λ r fs. found _ _ _ _ _ _ _ _ (c.in-Choice.is ∙ ap (λ o. frame.Choice o c.in-Choice.right) c.in-Some.is) (give_choice_first r fs _ _ _ _ (cc))

pub returns-in-Choice : goal.returns-in-Choice
returns-in-Choice c = λ r fs. found _ _ _ _ _ _ _ _ (c.in-Choice.is ∙ ap (λ o. frame.Choice o c.in-Choice.right) c.in-Some.is) (give_choice_second r fs _ _ _ _ (cc))

pub returns-in-Assign : goal.returns-in-Assign
returns-in-Assign c = λ r fs. found _ _ _ _ _ _ _ _ c.in-Assign.is (give_assign r fs _ _ _ _ _ _ (deref_does _ _ c.in-Assign.subscripts.items _ _ _ c.in_ok-next-in-Assign.ensures (cc)))

pub returns : goal.returns
returns c = λ r fs. found _ _ _ _ _ _ _ _ c.in-Update.is (give_update r fs _ _ _ _ _ _ _ _ (deref_updates _ _ _ c.in-Update.path.items _ _ _ _ c.in_ok-next-in-Update.ensures (cc)))
