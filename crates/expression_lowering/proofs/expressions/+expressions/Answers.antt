use Rattle.std.proofs.Common.{◌≡◌, ◌∙◌, ℕ, List, [], ◌∷◌, subst, sym, ap, arith, length, map}
use Rattle.std.specs.Prelude.{Option}
use Rattle.php_syntax.specs.Trees.{plain_expr, exprs_of, path_of, boxed_of, target_name, target_path, text_expr, super_expr, choice_expr, update_expr, no_expr, some_expr}
use Rattle.php_syntax.proofs.Views.{plain_expr-Text, plain_expr-Super, plain_expr-Choice, plain_expr-Update}
use Rattle.std.specs.declared.boxed.Box.{Box}
use Rattle.std.specs.declared.alloc.Global.{Global}
use Rattle.php_syntax.specs.declared.tree.Expr.{Expr}
use Rattle.text_base.specs.declared.numbers.Slot.{Slot}
use Rattle.flow_code.specs.declared.source.KeyRef.{KeyRef}
use Rattle.flow_code.specs.Code.{Code, both}
use Rattle.std.proofs.lemmas.List.{length-map}
use Rattle.flow_code.specs.declared.source.Work.TheVariants as work
use Rattle.flow_code.specs.Points.{PlainSource, PlainKeyRef, truth_source, array_source, member_source}
use Rattle.flow_code.specs.View.{plain_item, plain_key_ref, plain_maybe_key}
use Rattle.flow_code.specs.Expressions.{code, codes, variable, path_code, length_of_path, stored, old_value, members_along, filled, chosen, chosen_itself}
use Rattle.flow_lowering.specs.View.{progress}
use Rattle.flow_lowering.specs.Emits.{Puts, Emits, place}
use Rattle.flow_lowering.proofs.EmitLemmas.{emits_known, emits_computed, emits_both, puts_length}
use Rattle.flow_lowering.specs.ScopeView.{scope_in}
use Rattle.flow_lowering.specs.Forms.{source_for}
use Rattle.flow_lowering.proofs.ChoiceLemmas.{emits_connected, emits_there, emits_itself}
use Rattle.expression_lowering.proofs.RowEmits.{exprs_further, exprs_end, path_further, path_end, SoFar, items_begin, items_further, items_end, pushed_length, key_text, key_slot, length_of_keys, by_form}
use Rattle.flow_lowering.proofs.WriteLemmas.{emits_stored, emits_old, emits_filled}
use Rattle.expression_lowering.proofs.expressions.+expressions.Goals as goal

pub lower_exprs-loop-expr-preserved : goal.lower_exprs-loop-expr-preserved
lower_exprs-loop-expr-preserved t c = record {
  rest = exprs_further (scope_in c.args.scope.now) c.args.exprs.now c.loop-expr.expr-index c.expr-item.result c.loop-expr.slots.items c.push.new.self.items c.in_ok-slot.slot c.loop-expr-test.true c.expr-item.is c.in_ok-push.ensures.items c.in_ok-slot.ensures c.loop-expr.invariant.rest;
  long = pushed_length c.loop-expr.slots.items c.push.new.self.items c.in_ok-slot.slot c.loop-expr.expr-index c.in_ok-push.ensures.items c.loop-expr.invariant.long;
}

pub lower_exprs-returns : goal.lower_exprs-returns
lower_exprs-returns t c = record {
  emits = exprs_end (scope_in c.args.scope.now) c.args.exprs.now c.loop-expr.expr-index c.loop-expr.slots.items c.loop-expr-test.false c.loop-expr.invariant.rest;
  long = omega (arith, c.loop-expr.slots.ok.0, c.loop-expr.invariant.long, c.loop-expr-test.false);
}

pub lower_path-loop-key-preserved : goal.lower_path-loop-key-preserved
lower_path-loop-key-preserved t c = record {
  rest = path_further (scope_in c.args.scope.now) c.args.keys.now c.loop-key.key-index c.key-item.result c.loop-key.path.items c.push.new.self.items c.in_ok-lowered.lowered c.loop-key-test.true c.key-item.is c.in_ok-push.ensures.items c.in_ok-lowered.ensures c.loop-key.invariant.rest;
  long = pushed_length c.loop-key.path.items c.push.new.self.items c.in_ok-lowered.lowered c.loop-key.key-index c.in_ok-push.ensures.items c.loop-key.invariant.long;
}

pub lower_path-returns : goal.lower_path-returns
lower_path-returns t c = record {
  emits = path_end (scope_in c.args.scope.now) c.args.keys.now c.loop-key.key-index c.loop-key.path.items c.loop-key-test.false c.loop-key.invariant.rest;
  long = omega (arith, c.loop-key.path.ok.0, c.loop-key.invariant.long, c.loop-key-test.false);
}

pub lower_items-loop-item-init : goal.lower_items-loop-item-init
lower_items-loop-item-init t c =
    let w = scope_in c.args.scope.now in
    let start = progress c.args.points.now in
    subst (λ (l : List (Option KeyRef × Slot)). SoFar w start start c.args.array.0 c.args.items.now 0 c.args.array.0 (map plain_item l)) (sym c.new-lowered.ensures.items) (items_begin w start c.args.array.0 c.args.items.now)

pub lower_items-loop-item-preserved : goal.lower_items-loop-item-preserved
lower_items-loop-item-preserved t c =
    items_further (scope_in c.args.scope.now) c.args.array.0 c.args.items.now c.loop-item.item-index c.item-item.result c.loop-item.lowered.items c.push.new.self.items c.in_ok-key.key c.in_ok-value.value c.loop-item.made c.in_ok-made.made c.loop-item-test.true c.item-item.is c.in_ok-push.ensures.items
    c.in_ok-key.ensures c.in_ok-value.ensures c.in_ok-made.ensures c.loop-item.invariant

pub lower_items-returns : goal.lower_items-returns
lower_items-returns t c = items_end (scope_in c.args.scope.now) c.args.array.0 c.args.items.now c.loop-item.item-index c.loop-item.made.0 (map plain_item c.loop-item.lowered.items) c.loop-item-test.false c.loop-item.invariant

pub lower_one-returns : goal.lower_one-returns
lower_one-returns t c = emits_computed (λ (x : ℕ). source_for c.args.gives c.args.work (x ∷ [])) c.in_ok-operand.ensures c.in_ok-slot.ensures

pub lower_two-returns : goal.lower_two-returns
lower_two-returns t c = emits_computed (source_for c.args.gives c.args.work) (emits_both (λ (x y : ℕ). x ∷ y ∷ []) c.in_ok-left.ensures c.in_ok-right.ensures) c.in_ok-slot.ensures

pub lower_connected-finish_truth-requires : goal.lower_connected-finish_truth-requires
lower_connected-finish_truth-requires t c = omega (arith, c.in_ok-branch.ensures.index_is, puts_length c.in_ok-branch.ensures.puts, c.in_ok-right.ensures.size)

pub lower_connected-returns : goal.lower_connected-returns
lower_connected-returns t c = emits_connected c.args.both c.in_ok-left.ensures c.in_ok-branch.ensures c.in_ok-right.ensures c.in_ok-slot.ensures.closes c.in_ok-slot.ensures.slot

pub lower_coalesce-finish_copy-requires : goal.lower_coalesce-finish_copy-requires
lower_coalesce-finish_copy-requires t c = omega (arith, c.in_ok-copy.ensures.index, puts_length c.in_ok-copy.ensures.puts, c.in_ok-right.ensures.size)

pub lower_coalesce-returns : goal.lower_coalesce-returns
lower_coalesce-returns t c = emits_there c.in_ok-left.ensures c.in_ok-copy.ensures.puts c.in_ok-copy.ensures.index c.in_ok-right.ensures c.in_ok-slot.ensures.closes c.in_ok-slot.ensures.slot

pub lower_itself-finish_copy-requires : goal.lower_itself-finish_copy-requires
lower_itself-finish_copy-requires t c = omega (arith, c.in_ok-copy.ensures.index, puts_length c.in_ok-copy.ensures.puts, c.in_ok-other.ensures.size)

pub lower_itself-returns : goal.lower_itself-returns
lower_itself-returns t c = emits_itself c.in_ok-condition.ensures c.in_ok-copy.ensures.puts c.in_ok-copy.ensures.index c.in_ok-other.ensures c.in_ok-slot.ensures.closes c.in_ok-slot.ensures.slot

pub lower_member-returns : goal.lower_member-returns
unfolding code
lower_member-returns t c = emits_computed (λ (s : PlainSource). s) (emits_both (λ (x : ℕ) (k : PlainKeyRef). member_source x k) c.in_ok-base.ensures c.in_ok-key.ensures) c.in_ok-slot.ensures

pub lower_array-returns : goal.lower_array-returns
unfolding code
lower_array-returns t c = emits_computed array_source (c.in_ok-items.ensures (progress c.args.points.now) c.in_ok-array.ensures) c.in_ok-slot.ensures

pub lower_join-returns : goal.lower_join-returns
unfolding code
lower_join-returns t c = c.in_ok-slot.ensures (progress c.args.points.now) (codes (scope_in c.args.scope.now) (exprs_of c.args.parts.now)) c.in_ok-slots.ensures.emits

pub lower_isset-returns : goal.lower_isset-returns
unfolding code
lower_isset-returns t c = emits_computed (truth_source work.Isset) c.in_ok-args.ensures.emits c.in_ok-slot.ensures

pub lower_call-returns : goal.lower_call-returns
unfolding code
lower_call-returns t c = c.in_ok-slot.ensures (progress c.args.points.now) (codes (scope_in c.args.scope.now) (exprs_of c.args.arguments.now)) c.in_ok-slots.ensures.emits

pub lower_key-returns-in-Some : goal.lower_key-returns-in-Some
lower_key-returns-in-Some t c =
    let start = progress c.args.points.now in
    subst (λ (f : Code PlainKeyRef). Emits start start f (plain_key_ref c.in-Some.literal)) (sym (c.in-Some.ensures (code (scope_in c.args.scope.now) (plain_expr c.args.key.now)))) (emits_known start (plain_key_ref c.in-Some.literal))

pub lower_key-returns-in-Some-literal_text : goal.lower_key-returns-in-Some-literal_text
lower_key-returns-in-Some-literal_text t c = key_text _ (plain_expr c.args.key.now) _ c.in-Some-literal_text.text.now _ c.in-Some-literal_text.ensures c.in_ok-text.ensures

pub lower_key-returns : goal.lower_key-returns
lower_key-returns t c = key_slot (plain_expr c.args.key.now) _ c.in_default.ensures c.in_default-literal_text.ensures c.in_ok-slot.ensures

pub lower_assign-returns : goal.lower_assign-returns
unfolding code
lower_assign-returns t c =
    let w = scope_in c.args.scope.now in
    let start = progress c.args.points.now in
    let path = subst (λ (ks : List (Option Expr)). Emits start (progress c.lower_path.new.points) (path_code w (path_of ks)) (map plain_maybe_key c.in_ok-path.path.items)) c.as_slice.ensures.value c.in_ok-path.ensures.emits in
    let parts = emits_both (λ (keys : List (Option PlainKeyRef)) (v : ℕ). (keys, v)) path c.in_ok-value.ensures in
    let all : Code (List (Option PlainKeyRef) × ℕ) = both (path_code w (target_path c.args.target.now)) (code w (plain_expr c.args.value.now)) (λ (keys : List (Option PlainKeyRef)) (v : ℕ). (keys, v)) in
    subst (λ (x : ℕ). Emits start (progress c.write.new.points) (stored x all) c.in_ok-value.value.0) c.variable-variable.ensures (emits_stored c.variable-variable.result.0 parts c.in_ok-write.ensures)

pub lower_old-returns : goal.lower_old-returns
lower_old-returns t c =
    let w = scope_in c.args.scope.now in
    let start = progress c.args.points.now in
    let keys = length_of_path (target_path c.args.target.now) in
    let path = subst (λ (ks : List (Option Expr)). Emits start (progress c.lower_path.new.points) (path_code w (path_of ks)) (map plain_maybe_key c.in_ok-path.path.items)) c.as_slice.ensures.value c.in_ok-path.ensures.emits in
    let middle = progress c.compute.new.self in
    let members = subst (λ (ks : List (Option KeyRef)). Puts middle (progress c.lower_members.new.points) (members_along c.in_ok-base.base.0 (map plain_maybe_key ks) (place middle) middle.slot) (length ks)) c.as_slice-2.ensures.value c.in_ok-old.ensures.puts in
    let long : length c.in_ok-path.path.items ≡ keys = omega (arith, c.in_ok-path.ensures.long, c.in_ok-path.path.ok.0, length_of_keys c.args.target.now.path.items, ap length c.as_slice.ensures.value) in
    subst (λ (x : ℕ). Emits start (progress c.lower_members.new.points) (old_value x keys (path_code w (target_path c.args.target.now))) (map plain_maybe_key c.in_ok-path.path.items, c.in_ok-old.old.0)) c.variable-variable.ensures
    (emits_old c.variable-variable.result.0 keys path c.in_ok-base.ensures members long (length-map c.in_ok-path.path.items plain_maybe_key ∙ long) c.in_ok-old.ensures.slot)

pub lower_filled-returns : goal.lower_filled-returns
lower_filled-returns t c =
    let w = scope_in c.args.scope.now in
    subst (λ (x : ℕ). Emits (progress c.args.points.now) (progress c.finish_filled.new.points) (filled x (old_value (variable w (target_name c.args.target.now)) (length_of_path (target_path c.args.target.now)) (path_code w (target_path c.args.target.now))) (code w (plain_expr c.args.value.now))) c.in_ok-slot.slot.0)
    c.variable-variable.ensures
    (emits_filled c.variable-variable.result.0 c.in_ok-path.ensures c.in_ok-copy.ensures.puts c.in_ok-copy.ensures.index c.in_ok-right.ensures c.in_ok-slot.ensures.closes c.in_ok-slot.ensures.slot)

pub lower_expr-returns-in_ok-slot-in-Text : goal.lower_expr-returns-in_ok-slot-in-Text
lower_expr-returns-in_ok-slot-in-Text t c =
    let w = scope_in c.args.scope.now in
    by_form w (plain_expr c.args.expr.now) (text_expr c.in-Text.text) (ap plain_expr c.in-Text.is ∙ plain_expr-Text c.in-Text.text) (c.in_ok-slot-in-Text.ensures w)

pub lower_expr-returns-in_ok-slot-in-Super : goal.lower_expr-returns-in_ok-slot-in-Super
lower_expr-returns-in_ok-slot-in-Super t c =
    let w = scope_in c.args.scope.now in
    by_form w (plain_expr c.args.expr.now) (super_expr c.in-Super.name) (ap plain_expr c.in-Super.is ∙ plain_expr-Super c.in-Super.name) (c.in_ok-slot-in-Super.ensures w)

pub lower_expr-returns-in_ok-slot-in-Update : goal.lower_expr-returns-in_ok-slot-in-Update
lower_expr-returns-in_ok-slot-in-Update t c =
    let w = scope_in c.args.scope.now in
    let a = c.in-Update in
    by_form w (plain_expr c.args.expr.now) (update_expr a.sign (target_name a.target) (target_path a.target) (plain_expr a.value.value)) (ap plain_expr a.is ∙ plain_expr-Update a.sign a.target a.value)
    (subst (λ (e : Expr). Emits (progress c.args.points.now) (progress c.lower_update.new.points) (code w (update_expr a.sign (target_name a.target) (target_path a.target) (plain_expr e))) c.in_ok-slot-in-Update.slot.0) c.deref-in-Update.ensures
    c.in_ok-slot-in-Update.ensures)

pub lower_expr-returns-in_ok-slot-in-None : goal.lower_expr-returns-in_ok-slot-in-None
unfolding code
lower_expr-returns-in_ok-slot-in-None t c =
    let w = scope_in c.args.scope.now in
    let a = c.in-Choice in
    let start = progress c.args.points.now in
    let last = progress c.lower_itself.new.points in
    let slot = c.in_ok-slot-in-None.slot.0 in
    let form = ap plain_expr a.is ∙ plain_expr-Choice a.condition a.middle a.other ∙ ap (λ (m : Option (Box Expr Global)). choice_expr (plain_expr a.condition.value) (boxed_of m) (plain_expr a.other.value)) c.in-None.is in
    let other = subst (λ (e : Expr). Emits start last (chosen_itself (code w (plain_expr c.deref-in-None.result.now)) (code w (plain_expr e))) slot) c.deref-in-None-2.ensures c.in_ok-slot-in-None.ensures in
    by_form w (plain_expr c.args.expr.now) (choice_expr (plain_expr a.condition.value) no_expr (plain_expr a.other.value)) form
    (subst (λ (e : Expr). Emits start last (chosen_itself (code w (plain_expr e)) (code w (plain_expr a.other.value))) slot) c.deref-in-None.ensures other)

pub lower_expr-returns-in_ok-slot-in-Some : goal.lower_expr-returns-in_ok-slot-in-Some
unfolding code
lower_expr-returns-in_ok-slot-in-Some t c =
    let w = scope_in c.args.scope.now in
    let a = c.in-Choice in
    let m = c.in-Some.middle in
    let start = progress c.args.points.now in
    let last = progress c.lower_choice.new.points in
    let slot = c.in_ok-slot-in-Some.slot.0 in
    let form = ap plain_expr a.is ∙ plain_expr-Choice a.condition a.middle a.other ∙ ap (λ (n : Option (Box Expr Global)). choice_expr (plain_expr a.condition.value) (boxed_of n) (plain_expr a.other.value)) c.in-Some.is in
    let other = subst (λ (e : Expr). Emits start last (chosen (code w (plain_expr c.deref-in-Some.result.now)) (code w (plain_expr c.deref-in-Some-2.result.now)) (code w (plain_expr e))) slot) c.deref-in-Some-3.ensures c.in_ok-slot-in-Some.ensures in
    let both = subst (λ (e : Expr). Emits start last (chosen (code w (plain_expr c.deref-in-Some.result.now)) (code w (plain_expr e)) (code w (plain_expr a.other.value))) slot) c.deref-in-Some-2.ensures other in
    by_form w (plain_expr c.args.expr.now) (choice_expr (plain_expr a.condition.value) (some_expr (plain_expr m.value)) (plain_expr a.other.value)) form
    (subst (λ (e : Expr). Emits start last (chosen (code w (plain_expr e)) (code w (plain_expr m.value)) (code w (plain_expr a.other.value))) slot) c.deref-in-Some.ensures both)
