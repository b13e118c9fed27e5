-- Definitions that reach a point and that do not, keys that are told apart, and loose pages of small programs; and what loose pages do not
-- show: which way a branch goes, and the parameter of a function that is never called.
use Rattle.std.proofs.Common.{inl, inr, ◌⊎◌, ◌≡◌, ℕ, zero, suc, pos, true, false, [], ◌∷◌, None, Some, refl, sym, ap, ◌∙◌, subst, arith}
use Rattle.std.specs.Prelude.{codes, Contains}
use Rattle.std.specs.Fmt.{digits}
use Rattle.php_syntax.specs.Trees.{PlainExpr, int_expr, text_expr, var_expr, array_expr, assign_expr, and_expr, or_expr, no_expr, some_expr, PlainExprs, no_exprs, more_exprs, no_items, more_items, no_keys, PlainStmt, echo_stmt, run_stmt, inline_stmt, PlainStmts, no_stmts, more_stmts}
use Rattle.plain_values.specs.Plain.{null, text, int_key, text_key}
use Rattle.flow_code.specs.Points.{PlainPoint, PlainFlow, point_at, points_in, set_point, print_point, echo_point, branch_point, return_point, literal_source, copy_source, truth_source, int_ref}
use Rattle.flow_code.specs.declared.source.Work.TheVariants as work
use Rattle.flow_code.specs.Lawful.{sets, nexts}
use Rattle.flow_code.specs.Flat.{flat}
use Rattle.flow_code.specs.Expressions.{code}
use Rattle.flow_code.specs.Statements.{block}
use Rattle.program_expressions.specs.Collected.{collected, collected_of}
use Rattle.flow_code.specs.Variables.{own_names}
use Rattle.loose_sets.specs.Reaching.{Definition, at_point, Reaches}
use Rattle.loose_sets.specs.Keys.{literal_key, point_keys, without_key, keys_once, told_keys, may_be}
use Rattle.least_sets.specs.Forms.{text_form, same_form}
use Rattle.flow_graph.specs.Returned.{returned_from, returned_slot}
use Rattle.flow_graph.specs.Handed.{handings_from}
use Rattle.loose_sets.specs.Uses.{where_so}
use Rattle.loose_sets.specs.Sources.{is_own_text}
use Rattle.loose_sets.specs.Functions.{handed_to, is_null_slot, returned_by}
use Rattle.loose_sets.specs.Table.{point_of, forms_beside, forms, each_use}
use Rattle.loose_sets.specs.declared.name.Half.TheVariants.{Text}
use Rattle.loose_sets.specs.declared.name.Aspect.TheVariants.{Own}
use Rattle.loose_sets.specs.declared.name.SetVersion.TheVariants.{Entry, Join}
use Rattle.loose_sets.specs.declared.name.SetName.TheVariants.{Value, Result}

abbrev script : PlainStmts → PlainFlow
script body = flat (record { main_of = body; functions_of = [] })

abbrev one : PlainExpr → PlainExprs
one e = more_exprs e no_exprs

abbrev ◌then◌ : PlainStmt → PlainStmts → PlainStmts
a then b = more_stmts a b

infixr 5 ◌then◌
-- `$x = 'b'; $x = 'a'; echo $x;`: slot 0 is set at the points 1 and 3, and read at the point 4
abbrev twice : PlainFlow
twice = script (run_stmt (assign_expr (codes "x") no_keys (text_expr (codes "b"))) then run_stmt (assign_expr (codes "x") no_keys (text_expr (codes "a"))) then echo_stmt (one (var_expr (codes "x"))) then no_stmts)

first_of_one : {A : Type 0} (x : A) → Contains (x ∷ []) x
first_of_one x = (0, omega arith, refl)

-- the second one reaches it
second : Reaches twice (at_point 3) 0 4
unfolding flat code block collected collected_of own_names points_in point_at sets nexts
second = Reaches.behind 3 0 4 _ refl refl (first_of_one 4)

-- and the first one does not: it comes as far as the point that sets the slot again
only : (a p : ℕ) → Contains (a ∷ []) p → p ≡ a
only a p (zero, below, is) = sym is
only a p (suc k, below, is) = absurd (omega (arith, below))

from_one : (i : PlainPoint) (p : ℕ) → point_at twice 1 ≡ Some i → Contains (nexts i) p → p ≡ 2
unfolding flat code block collected collected_of own_names points_in point_at nexts
from_one i p e c = let is : set_point 0 (copy_source 1) 2 ≡ i = cc in only 2 p (subst (λ i. Contains (nexts i) p) (sym is) c)

from_two : (i : PlainPoint) (p : ℕ) → point_at twice 2 ≡ Some i → Contains (nexts i) p → p ≡ 3
unfolding flat code block collected collected_of own_names points_in point_at nexts
from_two i p e c = let is : set_point 2 (literal_source (text (codes "a"))) 3 ≡ i = cc in only 3 p (subst (λ i. Contains (nexts i) p) (sym is) c)

three_sets : (i : PlainPoint) → point_at twice 3 ≡ Some i → sets i ≡ Some 0
unfolding flat code block collected collected_of own_names points_in point_at sets
three_sets i e = let is : set_point 0 (copy_source 2) 4 ≡ i = cc in ap sets (sym is)

as_far : (d : Definition) (x p : ℕ) → Reaches twice d x p → d ≡ at_point 1 → x ≡ 0 → (p ≡ 2) ⊎ (p ≡ 3)
as_far _ _ _ (Reaches.behind d x p i e s c) is zero_slot = let one_is : d ≡ 1 = cc in inl (from_one i p (subst (λ d. point_at twice d ≡ Some i) one_is e) c)
as_far _ _ _ (Reaches.entered f x g e o) is zero_slot = cc
as_far _ _ _ (Reaches.onward d x p q i r e n c) is zero_slot =
    elim (as_far d x p r is zero_slot) [
      | inl two ↦ inr (from_two i q (subst (λ p. point_at twice p ≡ Some i) two e) c)
      | inr three ↦ absurd (n (three_sets i (subst (λ p. point_at twice p ≡ Some i) three e) ∙ ap Some (sym zero_slot)))
    ]

first_stops : Reaches twice (at_point 1) 0 4 → ⊥
first_stops r = elim (as_far (at_point 1) 0 4 r refl refl) [
  | inl two ↦ cc
  | inr three ↦ cc
]

-- of `array('t' => 'a', 5 => 'b')` both keys are told apart, `'5'` and 5 being one; a key that comes next may be 5 and not `'t'`
keyed : told_keys (script (run_stmt (array_expr (more_items (some_expr (text_expr (codes "t"))) (text_expr (codes "a")) (more_items (some_expr (int_expr (pos 5))) (text_expr (codes "b")) no_items))) then no_stmts))
    ≡ text_key (codes "t") ∷ int_key (pos 5) ∷ []
unfolding flat code block collected collected_of own_names points_in told_keys point_keys keys_once without_key literal_key digits
keyed = refl

next_is_no_text : may_be None (text_key (codes "t")) ≡ false
unfolding may_be
next_is_no_text = refl

next_may_be_five : may_be None (int_key (pos 5)) ≡ true
unfolding may_be
next_may_be_five = refl

five_is_five : may_be (Some (int_ref (pos 5))) (int_key (pos 5)) ≡ true
unfolding may_be
five_is_five = refl

-- `$x && $y;`: the right side where the left one is true; loose pages have both ways
abbrev x : PlainExpr
x = var_expr (codes "x")

abbrev y : PlainExpr
y = var_expr (codes "y")

both : points_in (script (run_stmt (and_expr x y) then no_stmts)).functions_of
    ≡ set_point 2 (copy_source 0) 1
    ∷ branch_point 2 2 4
    ∷ set_point 3 (copy_source 1) 3
    ∷ set_point 4 (truth_source work.AsTruth (3 ∷ [])) 5
    ∷ set_point 4 (truth_source work.AsTruth (2 ∷ [])) 5
    ∷ set_point 5 (literal_source null) 6
    ∷ return_point 5 ∷ []
unfolding flat code block collected collected_of own_names points_in
both = refl

-- `$x || $y;`: where it is false
one_of_both : points_in (script (run_stmt (or_expr x y) then no_stmts)).functions_of
    ≡ set_point 2 (copy_source 0) 1
    ∷ branch_point 2 4 2
    ∷ set_point 3 (copy_source 1) 3
    ∷ set_point 4 (truth_source work.AsTruth (3 ∷ [])) 5
    ∷ set_point 4 (truth_source work.AsTruth (2 ∷ [])) 5
    ∷ set_point 5 (literal_source null) 6
    ∷ return_point 5 ∷ []
unfolding flat code block collected collected_of own_names points_in
one_of_both = refl

-- A function that is never called: `function f($p) { echo $p; echo $q; } ?>a`
abbrev uncalled : PlainFlow
uncalled = record {
  functions_of =
      record {
        entry_of = 0;
        params_of = [];
        first_slot_of = 0;
        slots_of = 1;
        first_point_of = 0;
        points_of = print_point (codes "a") 1 ∷ set_point 0 (literal_source null) 2 ∷ return_point 0 ∷ [];
      }
      ∷ record {
        entry_of = 3;
        params_of = 1 ∷ [];
        first_slot_of = 1;
        slots_of = 5;
        first_point_of = 3;
        points_of =
            set_point 3 (copy_source 1) 4
            ∷ echo_point 3 5
            ∷ set_point 4 (copy_source 2) 6
            ∷ echo_point 4 7
            ∷ set_point 5 (literal_source null) 8
            ∷ return_point 5 ∷ [];
      } ∷ [];
}

uncalled_is : flat (record {
  main_of = inline_stmt (codes "a") then no_stmts;
  functions_of = record {
    name_of = codes "f";
    params_of = record { name_of = codes "p"; default_of = no_expr } ∷ [];
    body_of = echo_stmt (one (var_expr (codes "p"))) then echo_stmt (one (var_expr (codes "q"))) then no_stmts;
  } ∷ [];
}) ≡ uncalled
unfolding flat code block collected collected_of own_names points_in
uncalled_is = refl

-- its parameter has no text at all, not even the empty one
nothing_handed : forms each_use uncalled (Value (Own Text) (Entry 1 1)) ≡ []
unfolding point_of forms_beside handed_to is_null_slot handings_from points_in where_so is_own_text
nothing_handed = refl

-- another slot of it is null, as if it were called
null_there : forms each_use uncalled (Value (Own Text) (Entry 1 2)) ≡ text_form [] ∷ []
unfolding point_of forms_beside handed_to is_null_slot handings_from points_in where_so is_own_text
null_there = refl

-- it returns null
returns_null : forms each_use uncalled (Result (Own Text) 1) ≡ same_form (Value (Own Text) (Join 8 5)) ∷ []
unfolding point_of forms_beside returned_by returned_from returned_slot points_in
returns_null = refl
