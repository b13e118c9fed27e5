use Rattle.std.proofs.Common.{ap, ◌∙◌, sym}
use Rattle.php_syntax.specs.Trees.{plain_expr, member_expr, array_expr, join_expr, neg_expr, not_expr, arith_expr, compare_expr, and_expr, or_expr, coalesce_expr, isset_expr, empty_expr, assign_expr, update_expr, call_expr, items_of}
use Rattle.php_syntax.proofs.Views.{plain_expr-Null, plain_expr-Flag, plain_expr-Int, plain_expr-Text, plain_expr-Var, plain_expr-Super, plain_expr-Member, plain_expr-ArrayOf, plain_expr-Join, plain_expr-Neg, plain_expr-Not, plain_expr-Arith, plain_expr-Compare, plain_expr-And, plain_expr-Or, plain_expr-Coalesce, plain_expr-Choice, plain_expr-Isset, plain_expr-Empty, plain_expr-Assign, plain_expr-Update, plain_expr-Step, plain_expr-Call}
use Rattle.expr_evaluator.proofs.TreeLemmas.{one, two, listed, chosen, targeted}
use Rattle.expr_evaluator.proofs.BeginMoves.{begin_null, begin_flag, begin_int, begin_text, begin_var, begin_super, begin_step, begin_member, begin_arith, begin_compare, begin_and, begin_or, begin_coalesce, begin_choice, begin_neg, begin_not, begin_empty, begin_join, begin_isset, begin_call, begin_array, begin_assign, begin_update}
use Rattle.expr_evaluator.proofs.begin.begin.Goals as goal

pub returns-in-Null : goal.returns-in-Null
returns-in-Null c = λ fs. begin_null _ fs _ _ (ap plain_expr c.in-Null.is ∙ plain_expr-Null)

pub returns-in-Flag : goal.returns-in-Flag
returns-in-Flag c = λ fs. begin_flag _ fs _ _ _ (ap plain_expr c.in-Flag.is ∙ plain_expr-Flag _)

pub returns-in-Int : goal.returns-in-Int
returns-in-Int c = λ fs. begin_int _ fs _ _ _ _ (ap plain_expr c.in-Int.is ∙ plain_expr-Int _) c.int_value.ensures

pub returns-in_ok-value-in-Text : goal.returns-in_ok-value-in-Text
returns-in_ok-value-in-Text c = λ fs. begin_text _ fs _ _ _ _ (ap plain_expr c.in-Text.is ∙ plain_expr-Text _) c.in_ok-value-in-Text.ensures

pub returns-in_ok-value-in-Var : goal.returns-in_ok-value-in-Var
returns-in_ok-value-in-Var c = λ fs. begin_var _ fs _ _ _ _ (ap plain_expr c.in-Var.is ∙ plain_expr-Var _) c.in_ok-value-in-Var.ensures

pub returns-in_ok-value-in-Super : goal.returns-in_ok-value-in-Super
returns-in_ok-value-in-Super c = λ fs. begin_super _ fs _ _ _ _ (ap plain_expr c.in-Super.is ∙ plain_expr-Super _) c.in_ok-value-in-Super.ensures

pub returns-in_ok-next-in-Member : goal.returns-in_ok-next-in-Member
returns-in_ok-next-in-Member c = λ fs. begin_member _ fs _ _ _ _ _ _ c.in_ok-next-in-Member.ensures (two _ _ _ _ _ member_expr (ap plain_expr c.in-Member.is ∙ plain_expr-Member c.in-Member.container c.in-Member.subscript) (cc) (cc))

pub returns-in_ok-made-in-ArrayOf : goal.returns-in_ok-made-in-ArrayOf
returns-in_ok-made-in-ArrayOf c = λ fs. begin_array _ fs _ _ c.deref-in-ArrayOf.result c.in_ok-made-in-ArrayOf.made c.in_ok-made-in-ArrayOf.ensures (ap plain_expr c.in-ArrayOf.is ∙ plain_expr-ArrayOf c.in-ArrayOf.items ∙ ap (λ xs. array_expr (items_of xs)) (sym c.deref-in-ArrayOf.ensures.value))

pub returns-in-Join : goal.returns-in-Join
returns-in-Join c = λ fs. begin_join _ fs _ _ c.deref-in-Join.result c.new-in-Join.result c.new-in-Join.ensures.items (listed _ _ _ join_expr (ap plain_expr c.in-Join.is ∙ plain_expr-Join c.in-Join.parts) c.deref-in-Join.ensures.value)

pub returns-in_ok-next-in-Neg : goal.returns-in_ok-next-in-Neg
returns-in_ok-next-in-Neg c = λ fs. begin_neg _ fs _ _ _ _ _ c.in_ok-next-in-Neg.ensures (one _ _ _ neg_expr (ap plain_expr c.in-Neg.is ∙ plain_expr-Neg c.in-Neg.operand) (cc))

pub returns-in_ok-next-in-Not : goal.returns-in_ok-next-in-Not
returns-in_ok-next-in-Not c = λ fs. begin_not _ fs _ _ _ _ _ c.in_ok-next-in-Not.ensures (one _ _ _ not_expr (ap plain_expr c.in-Not.is ∙ plain_expr-Not c.in-Not.operand) (cc))

pub returns-in_ok-next-in-Arith : goal.returns-in_ok-next-in-Arith
returns-in_ok-next-in-Arith c = λ fs. begin_arith _ fs _ _ _ _ _ _ c.in-Arith.sign c.in_ok-next-in-Arith.ensures (two _ _ _ _ _ (arith_expr c.in-Arith.sign) (ap plain_expr c.in-Arith.is ∙ plain_expr-Arith c.in-Arith.sign c.in-Arith.left c.in-Arith.right) (cc) (cc))

pub returns-in_ok-next-in-Compare : goal.returns-in_ok-next-in-Compare
returns-in_ok-next-in-Compare c = λ fs. begin_compare _ fs _ _ _ _ _ _ c.in-Compare.sign c.in_ok-next-in-Compare.ensures (two _ _ _ _ _ (compare_expr c.in-Compare.sign) (ap plain_expr c.in-Compare.is ∙ plain_expr-Compare c.in-Compare.sign c.in-Compare.left c.in-Compare.right) (cc) (cc))

pub returns-in_ok-next-in-And : goal.returns-in_ok-next-in-And
returns-in_ok-next-in-And c = λ fs. begin_and _ fs _ _ _ _ _ _ c.in_ok-next-in-And.ensures (two _ _ _ _ _ and_expr (ap plain_expr c.in-And.is ∙ plain_expr-And c.in-And.left c.in-And.right) (cc) (cc))

pub returns-in_ok-next-in-Or : goal.returns-in_ok-next-in-Or
returns-in_ok-next-in-Or c = λ fs. begin_or _ fs _ _ _ _ _ _ c.in_ok-next-in-Or.ensures (two _ _ _ _ _ or_expr (ap plain_expr c.in-Or.is ∙ plain_expr-Or c.in-Or.left c.in-Or.right) (cc) (cc))

pub returns-in_ok-next-in-Coalesce : goal.returns-in_ok-next-in-Coalesce
returns-in_ok-next-in-Coalesce c = λ fs. begin_coalesce _ fs _ _ _ _ _ _ c.in_ok-next-in-Coalesce.ensures (two _ _ _ _ _ coalesce_expr (ap plain_expr c.in-Coalesce.is ∙ plain_expr-Coalesce c.in-Coalesce.left c.in-Coalesce.right) (cc) (cc))

pub returns-in_ok-next-in-Choice : goal.returns-in_ok-next-in-Choice
returns-in_ok-next-in-Choice c = λ fs. begin_choice _ fs _ _ _ _ _ _ _ c.in_ok-next-in-Choice.ensures (chosen _ _ _ _ _ _ _ (ap plain_expr c.in-Choice.is ∙ plain_expr-Choice c.in-Choice.test c.in-Choice.middle c.in-Choice.right) (cc) (cc) (cc))

pub returns-in-Isset : goal.returns-in-Isset
returns-in-Isset c = λ fs. begin_isset _ fs _ _ c.deref-in-Isset.result c.new-in-Isset.result c.new-in-Isset.ensures.items (listed _ _ _ isset_expr (ap plain_expr c.in-Isset.is ∙ plain_expr-Isset c.in-Isset.parts) c.deref-in-Isset.ensures.value)

pub returns-in_ok-next-in-Empty : goal.returns-in_ok-next-in-Empty
returns-in_ok-next-in-Empty c = λ fs. begin_empty _ fs _ _ _ _ _ c.in_ok-next-in-Empty.ensures (one _ _ _ empty_expr (ap plain_expr c.in-Empty.is ∙ plain_expr-Empty c.in-Empty.operand) (cc))

pub returns-in-Assign : goal.returns-in-Assign
returns-in-Assign c = λ fs. begin_assign _ fs _ _ c.deref-in-Assign-2.result c.new-in-Assign.result c.new-in-Assign.ensures.items _ c.deref-in-Assign.result (targeted _ _ _ _ _ _ assign_expr (ap plain_expr c.in-Assign.is ∙ plain_expr-Assign c.in-Assign.target c.in-Assign.right) c.deref-in-Assign-2.ensures.value c.deref-in-Assign.ensures)

pub returns-in-Update : goal.returns-in-Update
returns-in-Update c = λ fs. begin_update _ fs _ _ c.deref-in-Update-2.result c.new-in-Update.result c.new-in-Update.ensures.items _ c.deref-in-Update.result c.in-Update.sign (targeted _ _ _ _ _ _ (update_expr c.in-Update.sign) (ap plain_expr c.in-Update.is ∙ plain_expr-Update c.in-Update.sign c.in-Update.target c.in-Update.right) c.deref-in-Update-2.ensures.value c.deref-in-Update.ensures)

pub returns-in_ok-next-in-Step : goal.returns-in_ok-next-in-Step
returns-in_ok-next-in-Step c = λ fs. begin_step _ fs _ _ _ _ _ _ _ c.in_ok-next-in-Step.ensures (ap plain_expr c.in-Step.is ∙ plain_expr-Step _ _ _)

pub returns-in-Call : goal.returns-in-Call
returns-in-Call c = λ fs. begin_call _ fs _ _ c.deref-in-Call.result c.new-in-Call.result c.new-in-Call.ensures.items _ (listed _ _ _ (call_expr c.in-Call.name) (ap plain_expr c.in-Call.is ∙ plain_expr-Call c.in-Call.name c.in-Call.args) c.deref-in-Call.ensures.value)
